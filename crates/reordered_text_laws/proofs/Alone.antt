-- A text whose names are uses of nothing is read by the classes of its tokens.
use Rattle.std.proofs.Common.{ℕ, zero, suc, ◌+◌, ◌-◌, ◌<◌, ◌≤◌, ◌≡◌, Bool, true, false, ◌&&◌, if◌then◌else◌, ◌==◌, List, [], ◌∷◌, length, Option, None, Some, unwrap_or, Ok, Err, nat_lt, refl, sym, ap, subst, ◌∙◌, arith, eqb-true, eq-eqb}
use Rattle.std.specs.Option.{option_map_or}
use Rattle.std.specs.Str.{bytes_eq}
use Rattle.std.proofs.lemmas.Bool.{ltb-true, lt-ltb}
use Rattle.std.proofs.lemmas.Option.{slice_get_past}
use Rattle.cs_base.specs.Token.{Token}
use Rattle.cs_base.proofs.BoolLemmas.{if_false, no_case}
use Rattle.c99_tree.specs.Names.{latest}
use Rattle.c99_tree.specs.Tree.{Forest, none, token, node, Node, node_of, leaf, inner, put, lone, collapsed}
use Rattle.c99_tree.specs.declared.production.Production.{Production}
use Rattle.c99_tree.specs.declared.production.Production.TheVariants.{TranslationUnit}
use Rattle.c99_grammar.specs.declared.classes.Class.{Class}
use Rattle.c99_grammar.specs.declared.classes.Class.TheVariants.{End, NoClass, TypedefName}
use Rattle.c99_grammar.specs.Classes.{among}
use Rattle.c99_grammar.specs.Items.{Item, one, part, end_of_text, act, ◌·◌, choice, maybe, many, deep, Test, own, Action, Alternative}
use Rattle.c99_grammar.specs.Standard.{Grammar}
use Rattle.c99_grammar.specs.Starting.{holds, starts}
use Rattle.c99_grammar.specs.TokenClasses.{base_class}
use Rattle.c99_read.specs.State.{State, base_at, spelling_at, is_identifier, spelled_scope, is_typedef_at, class_at, acted, opened, closed, collapses, finished}
use Rattle.c99_read.specs.Reading.{Goal, produce, repeat, Step, and_then, deepest, take_one, at_end, enter, may, step, pick, run, read_within, at_first, syntax, too_deep}
use Rattle.reordered_text_laws.specs.ByClasses.{joined, untold, numbers_from, Taken, taken, behind_children, then_read, child_of, as_child, here, behind, may_read, read_one, read_end, read_item, read_first, read_goal, read_by_classes}
use Rattle.reordered_text_laws.specs.Alone.{AreAlone, IsReadAlike, TextsAloneAreReadByClasses}
use Rattle.reordered_text_laws.proofs.Before.{Declaration, AllIn, AllScopes, Tokens, NamesBefore, tokens_later, names_later, tokens_leaf, tokens_inner, finished_is, opened_is, closed_is, after_is}

-- ---- Children

pub joined-none : (f : Forest) → joined f none ≡ f
joined-none none = refl
joined-none (token i rest) = ap (token i) (joined-none rest)
joined-none (node l first under rest) = ap (node l first under) (joined-none rest)

joined-joined : (f g h : Forest) → joined (joined f g) h ≡ joined f (joined g h)
joined-joined none g h = refl
joined-joined (token i rest) g h = ap (token i) (joined-joined rest g h)
joined-joined (node l first under rest) g h = ap (node l first under) (joined-joined rest g h)

abbrev untold_node : Node → Node
untold_node n = node_of n.label 0 (untold n.under)

untold-leaf : (f : Forest) (i : ℕ) → untold (put f (leaf i)) ≡ joined (untold f) (token i none)
untold-leaf none i = refl
untold-leaf (token j rest) i = ap (token j) (untold-leaf rest i)
untold-leaf (node l first under rest) i = ap (node l 0 (untold under)) (untold-leaf rest i)

untold-inner : (f : Forest) (n : Node) → untold (put f (inner n)) ≡ joined (untold f) (put none (inner (untold_node n)))
untold-inner none n = refl
untold-inner (token j rest) n = ap (token j) (untold-inner rest n)
untold-inner (node l first under rest) n = ap (node l 0 (untold under)) (untold-inner rest n)

lone-untold : (f : Forest) (n m : Node) → untold_node n ≡ m → untold_node (lone f n) ≡ lone (untold f) m
lone-untold none n m e = e
lone-untold (token i rest) n m e = e
lone-untold (node l first under none) n m e = refl
lone-untold (node l first under (token i rest)) n m e = e
lone-untold (node l first under (node k second below rest)) n m e = e

finished-untold : (p : Production) (n : Node) → untold_node (finished p n) ≡ finished p (untold_node n)
finished-untold p n = by (collapses p)
  where
    by : (c : Bool) → untold_node (if c then collapsed n else n) ≡ (if c then collapsed (untold_node n) else untold_node n)
    by true = lone-untold n.under n (untold_node n) refl
    by false = refl

-- ---- Classes

module _ (g : Grammar) (toks : List Token) (alone : AreAlone g toks) where
  abbrev class_of : ℕ → Class
  class_of = base_at g toks

  module _ (n k : ℕ) (le : n ≤ k) (name : is_identifier (base_at g toks k) ≡ true) where
    latest_none : (ds : List Declaration) → AllIn n ds → latest (spelled_scope toks ds) (spelling_at toks k) ≡ None
    latest_none [] h = refl
    latest_none (d ∷ ds) h =
        if_false (bytes_eq (spelling_at toks k) (spelling_at toks d.name_at)) (Some d.typedef) (latest (spelled_scope toks ds) (spelling_at toks k))
        (no_case (bytes_eq (spelling_at toks k) (spelling_at toks d.name_at))
        (λ e. let same : k ≡ d.name_at = alone k d.name_at name e in let less : d.name_at < n = h.0 in omega (arith, same, less, le)))
        ∙ latest_none ds h.1

    no_typedef : (scopes : List (List Declaration)) → AllScopes n scopes → is_typedef_at toks scopes k ≡ false
    no_typedef [] h = refl
    no_typedef (s ∷ outer) h =
        ap (λ o. unwrap_or o (is_typedef_at toks outer k)) (latest_none s h.0) ∙ no_typedef outer h.1

  -- the state, with names and children of tokens before the next one
  record Good (s : State) : Type 0 where
    text : s.toks ≡ toks
    names : NamesBefore s.at s.names
    built : Tokens s.at s.built.under

  -- so many tokens are left of the text
  pub record At (s : State) (xs : List ℕ) : Type 0 where
    good : Good s
    many_left : ℕ
    sum : s.at + many_left ≡ length toks
    left : xs ≡ numbers_from s.at many_left

  fixed : (s : State) (k : ℕ) → Good s → s.at ≤ k → class_at g s k ≡ base_at g toks k
  unfolding class_at
  fixed s k good le =
      ap (λ t. if is_identifier (base_at g t k) && is_typedef_at t s.names.scopes k then TypedefName else base_at g t k) good.text
      ∙ by (is_identifier (base_at g toks k)) refl
    where
      by : (c : Bool) → is_identifier (base_at g toks k) ≡ c → (if c && is_typedef_at toks s.names.scopes k then TypedefName else base_at g toks k) ≡ base_at g toks k
      by true e = if_false (is_typedef_at toks s.names.scopes k) TypedefName (base_at g toks k) (no_typedef s.at k le e s.names.scopes good.names.scopes)
      by false e = refl

  past : (k : ℕ) → length toks ≤ k → base_at g toks k ≡ (if k == length toks then End else NoClass)
  past k le = ap (λ o. option_map_or (base_class g) o (if k == length toks then End else NoClass)) (slice_get_past toks k le)

  at_the_end : (k : ℕ) → k ≡ length toks → base_at g toks k ≡ End
  at_the_end k e = past k (omega (arith, e)) ∙ ap (λ c. if c then End else NoClass) (eq-eqb k (length toks) e)

  behind_the_end : (k : ℕ) → length toks < k → base_at g toks k ≡ NoClass
  behind_the_end k lt =
      past k (omega (arith, lt))
      ∙ if_false (k == length toks) End NoClass (no_case (k == length toks) (λ e. let same : k ≡ length toks = eqb-true k (length toks) e in omega (arith, same, lt)))

  here_is : (at m : ℕ) → at + m ≡ length toks → here g class_of (numbers_from at m) ≡ base_at g toks at
  here_is at zero e = sym (at_the_end at (omega (arith, e)))
  here_is at (suc m) e = refl

  behind_is : (at m : ℕ) → at + m ≡ length toks → behind g class_of (numbers_from at m) ≡ base_at g toks (at + 1)
  behind_is at zero e = sym (behind_the_end (at + 1) (omega (arith, e)))
  behind_is at (suc m) e = here_is (at + 1) m (omega (arith, e))

  -- what is asked is asked of the same classes
  same_may : (t : Test) (a : Item) (s : State) (xs : List ℕ) → At s xs → may g t a s ≡ may_read g class_of t a xs
  same_may t a s xs p =
      let c : class_at g s s.at ≡ here g class_of xs = fixed s s.at p.good (omega arith) ∙ (sym (here_is s.at p.many_left p.sum) ∙ ap (here g class_of) (sym p.left)) in
      let d : class_at g s (s.at + 1) ≡ behind g class_of xs = fixed s (s.at + 1) p.good (omega arith) ∙ (sym (behind_is s.at p.many_left p.sum) ∙ ap (behind g class_of) (sym p.left)) in
      ap (λ x. holds g t (starts g a x (class_at g s (s.at + 1))) x (class_at g s (s.at + 1))) c
      ∙ ap (λ y. holds g t (starts g a (here g class_of xs) y) (here g class_of xs) y) d

  -- ---- Steps

  -- what is behind a step is what was read
  pub record Went (s s' : State) (t : Taken) : Type 0 where
    at : At s' t.left
    later : s.at ≤ s'.at
    label : s'.built.label ≡ s.built.label
    pub begins : s'.built.first ≡ s.built.first
    read : untold s'.built.under ≡ joined (untold s.built.under) t.read

  abbrev pub Sim : State → Step → Option Taken → Type 0
  Sim s (Ok s') (Some t) = Went s s' t
  Sim s (Ok s') None = ⊥
  Sim s (Err stop) (Some t) = ⊥
  Sim s (Err stop) None = Unit {0}

  sim_if : (s : State) (c c' : Bool) (r q : Step) (r' q' : Option Taken) → c ≡ c' → Sim s r r' → Sim s q q' → Sim s (if c then r else q) (if c' then r' else q')
  sim_if s true c' r q r' q' e m n = subst (λ b. Sim s r (if b then r' else q')) e m
  sim_if s false c' r q r' q' e m n = subst (λ b. Sim s q (if b then r' else q')) e n

  went_on : (s s' s'' : State) (t u : Taken) → Went s s' t → Went s' s'' u → Went s s'' (taken (joined t.read u.read) u.left)
  went_on s s' s'' t u w v = record {
    at = v.at;
    later = (let a : s.at ≤ s'.at = w.later in let b : s'.at ≤ s''.at = v.later in omega (arith, a, b));
    label = v.label ∙ w.label;
    begins = v.begins ∙ w.begins;
    read = v.read ∙ (ap (λ f. joined f u.read) w.read ∙ joined-joined (untold s.built.under) t.read u.read);
  }

  sim_then : (s : State) (r : Step) (r' : Option Taken) (f : State → Step) (f' : List ℕ → Option Taken) → Sim s r r'
      → ((s' : State) (ys : List ℕ) → At s' ys → Sim s' (f s') (f' ys)) → Sim s (and_then r f) (then_read r' f')
  sim_then s (Err stop) None f f' m n = tt
  sim_then s (Err stop) (Some t) f f' m n = absurd m
  sim_then s (Ok s') None f f' m n = absurd m
  sim_then s (Ok s') (Some t) f f' m n = by (f s') (f' t.left) (n s' t.left m.at)
    where
      by : (r : Step) (r' : Option Taken) → Sim s' r r' → Sim s r (behind_children t.read r')
      by (Err stop) None v = tt
      by (Err stop) (Some u) v = absurd v
      by (Ok s'') None v = absurd v
      by (Ok s'') (Some u) v = went_on s s' s'' t u m v

  -- nothing was read
  stayed : (s : State) (xs : List ℕ) → At s xs → Went s s (taken none xs)
  stayed s xs p = record { at = p; later = omega arith; label = refl; begins = refl; read = sym (joined-none (untold s.built.under)) }

  abbrev with_token : State → State
  with_token s = record s { at = s.at + 1; built = record s.built { under = put s.built.under (leaf s.at) } }

  took : (s : State) (m : ℕ) → Good s → s.at + suc m ≡ length toks → Went s (with_token s) (taken (token s.at none) (numbers_from (s.at + 1) m))
  took s m good e = record {
    at = record {
      good = record {
        text = good.text;
        names = names_later s.at (s.at + 1) (omega arith) s.names good.names;
        built = tokens_leaf (s.at + 1) s.built.under s.at (tokens_later s.at (s.at + 1) (omega arith) s.built.under good.built) (omega arith);
      };
      many_left = m;
      sum = omega (arith, e);
      left = refl;
    };
    later = omega arith;
    label = refl;
    begins = refl;
    read = untold-leaf s.built.under s.at;
  }

  taken_so : (s : State) (L : List Class) (m : ℕ) → Good s → s.at + m ≡ length toks
      → Sim s (take_one g L s) (read_one g class_of L (numbers_from s.at m))
  unfolding take_one
  taken_so s L zero good e =
      subst (λ c. Sim s (if c then Ok (with_token s) else Err (syntax s.at)) None)
      (sym (ap (λ b. b && among L (class_at g s s.at)) (no_case (nat_lt s.at (length s.toks))
      (λ h. let less : s.at < length s.toks = ltb-true s.at (length s.toks) h in let len : length s.toks ≡ length toks = ap length good.text in omega (arith, less, len, e))))) tt
  taken_so s L (suc m) good e =
      sim_if s (nat_lt s.at (length s.toks) && among L (class_at g s s.at)) (among L (base_at g toks s.at)) (Ok (with_token s)) (Err (syntax s.at))
      (Some (taken (token s.at none) (numbers_from (s.at + 1) m))) None
      (ap (λ b. b && among L (class_at g s s.at)) (lt-ltb s.at (length s.toks) (let len : length s.toks ≡ length toks = ap length good.text in omega (arith, len, e)))
      ∙ ap (among L) (fixed s s.at good (omega arith)))
      (took s m good e) tt

  ended_so : (s : State) (m : ℕ) → Good s → s.at + m ≡ length toks → Sim s (at_end s) (read_end g class_of (numbers_from s.at m))
  unfolding at_end
  ended_so s zero good e =
      subst (λ c. Sim s (if c then Ok s else Err (syntax s.at)) (Some (taken none [])))
      (sym (eq-eqb s.at (length s.toks) (let len : length s.toks ≡ length toks = ap length good.text in omega (arith, len, e))))
      (stayed s [] (record { good = good; many_left = 0; sum = e; left = refl }))
  ended_so s (suc m) good e =
      subst (λ c. Sim s (if c then Ok s else Err (syntax s.at)) None)
      (sym (no_case (s.at == length s.toks)
      (λ h. let same : s.at ≡ length s.toks = eqb-true s.at (length s.toks) h in let len : length s.toks ≡ length toks = ap length good.text in omega (arith, same, len, e)))) tt

  acted_so : (action : Action) (s : State) (xs : List ℕ) → At s xs → Went s (acted g action s) (taken none xs)
  unfolding acted
  acted_so action s xs p = record {
    at = record {
      good = record { text = p.good.text; names = after_is s.at g action s p.good.built p.good.names; built = p.good.built };
      many_left = p.many_left;
      sum = p.sum;
      left = p.left;
    };
    later = omega arith;
    label = refl;
    begins = refl;
    read = sym (joined-none (untold s.built.under));
  }

  -- ---- Nodes

  pub opened_so : (p : Production) (n : ℕ) (s : State) (xs : List ℕ) → At s xs → At (opened p n s) xs
  unfolding opened
  opened_so p n s xs q = record {
    good = record { text = q.good.text; names = opened_is s.at p s.names q.good.names; built = tt };
    many_left = q.many_left;
    sum = q.sum;
    left = q.left;
  }

  -- what a node that was opened becomes
  closed_so : (p : Production) (n : ℕ) (s s' : State) (xs : List ℕ) (t : Taken) → At s xs → Went (opened p n s) s' t → Went s (closed p s s') (taken (child_of p n t.read) t.left)
  unfolding closed opened
  closed_so p n s s' xs t q w =
      let label : s'.built.label ≡ record { production = p; alternative = n } = w.label in
      let inside : untold_node s'.built ≡ node_of (record { production = p; alternative = n }) 0 t.read
      = ap (λ l. node_of l 0 (untold s'.built.under)) label ∙ ap (λ f. node_of (record { production = p; alternative = n }) 0 f) w.read in
      record {
        at = record {
          good = record {
            text = w.at.good.text;
            names = closed_is s'.at p s'.names w.at.good.names;
            built = tokens_inner s'.at s.built.under (finished p s'.built) (tokens_later s.at s'.at w.later s.built.under q.good.built)
                (finished_is s'.at p s'.built w.at.good.built);
          };
          many_left = w.at.many_left;
          sum = w.at.sum;
          left = w.at.left;
        };
        later = w.later;
        label = refl;
        begins = refl;
        read = untold-inner s.built.under (finished p s'.built)
            ∙ ap (λ x. joined (untold s.built.under) (put none (inner x))) (finished-untold p s'.built ∙ ap (finished p) inside);
      }

  -- ---- Items

  module _ (below : ℕ → Goal → State → Step) (below' : ℕ → Goal → List ℕ → Option Taken)
      (sims : (depth : ℕ) (goal : Goal) (s : State) (xs : List ℕ) → At s xs → Sim s (below depth goal s) (below' depth goal xs)) where
    entered : (depth : ℕ) (a : Item) (s : State) (xs : List ℕ) → At s xs → Sim s (step g below (depth + 1) a s) (read_item g class_of below' (depth + 1) a xs)
        → Sim s (and_then (enter depth (may g own a s) s) (step g below (depth + 1) a))
        (if may_read g class_of own a xs && nat_lt depth deepest then read_item g class_of below' (depth + 1) a xs else None)
    unfolding enter
    entered depth a s xs p m =
        subst (λ c. Sim s (and_then (enter depth (may g own a s) s) (step g below (depth + 1) a)) (if c && nat_lt depth deepest then read_item g class_of below' (depth + 1) a xs else None))
        (same_may own a s xs p) (by (may g own a s) (nat_lt depth deepest))
      where
        by : (c d : Bool) → Sim s (and_then (if c then (if d then Ok s else Err (too_deep s.at)) else Err (syntax s.at)) (step g below (depth + 1) a))
            (if c && d then read_item g class_of below' (depth + 1) a xs else None)
        by true true = m
        by true false = tt
        by false d = tt

    pub sim_item : (item : Item) (depth : ℕ) (s : State) (xs : List ℕ) → At s xs → Sim s (step g below depth item s) (read_item g class_of below' depth item xs)
    sim_item (one L) depth s xs p = subst (λ ys. Sim s (take_one g L s) (read_one g class_of L ys)) (sym p.left) (taken_so s L p.many_left p.good p.sum)
    sim_item (part q) depth s xs p = sims depth (produce q) s xs p
    sim_item end_of_text depth s xs p = subst (λ ys. Sim s (at_end s) (read_end g class_of ys)) (sym p.left) (ended_so s p.many_left p.good p.sum)
    sim_item (act action) depth s xs p = acted_so action s xs p
    sim_item (a · b) depth s xs p =
        sim_then s (step g below depth a s) (read_item g class_of below' depth a xs) (step g below depth b) (read_item g class_of below' depth b) (sim_item a depth s xs p)
        (λ s' ys q. sim_item b depth s' ys q)
    sim_item (choice a b) depth s xs p =
        sim_if s (may g own a s) (may_read g class_of own a xs) (step g below depth a s) (if may g own b s then step g below depth b s else Err (syntax s.at))
        (read_item g class_of below' depth a xs) (if may_read g class_of own b xs then read_item g class_of below' depth b xs else None) (same_may own a s xs p) (sim_item a depth s xs p)
        (sim_if s (may g own b s) (may_read g class_of own b xs) (step g below depth b s) (Err (syntax s.at)) (read_item g class_of below' depth b xs) None (same_may own b s xs p)
        (sim_item b depth s xs p) tt)
    sim_item (maybe a) depth s xs p =
        sim_if s (may g own a s) (may_read g class_of own a xs) (step g below depth a s) (Ok s) (read_item g class_of below' depth a xs) (Some (taken none xs)) (same_may own a s xs p)
        (sim_item a depth s xs p) (stayed s xs p)
    sim_item (many t a) depth s xs p =
        sim_if s (may g t a s) (may_read g class_of t a xs) (and_then (step g below depth a s) (below depth (repeat t a))) (Ok s)
        (then_read (read_item g class_of below' depth a xs) (below' depth (repeat t a))) (Some (taken none xs)) (same_may t a s xs p)
        (sim_then s (step g below depth a s) (read_item g class_of below' depth a xs) (below depth (repeat t a)) (below' depth (repeat t a)) (sim_item a depth s xs p)
        (λ s' ys q. sims depth (repeat t a) s' ys q))
        (stayed s xs p)
    sim_item (deep a) depth s xs p = entered depth a s xs p (sim_item a (depth + 1) s xs p)

    sim_child : (p : Production) (n : ℕ) (s : State) (xs : List ℕ) (r : Step) (r' : Option Taken) → At s xs → Sim (opened p n s) r r'
        → Sim s (and_then r (λ s'. Ok (closed p s s'))) (as_child p n r')
    sim_child p n s xs (Err stop) None q m = tt
    sim_child p n s xs (Err stop) (Some t) q m = absurd m
    sim_child p n s xs (Ok s') None q m = absurd m
    sim_child p n s xs (Ok s') (Some t) q m = closed_so p n s s' xs t q m

    sim_first : (p : Production) (alternatives : List Alternative) (depth n : ℕ) (s : State) (xs : List ℕ) → At s xs
        → Sim s (pick g below depth p n alternatives s) (read_first g class_of below' depth p n alternatives xs)
    sim_first p [] depth n s xs q = tt
    sim_first p (a ∷ more) depth n s xs q =
        sim_if s (may g a.test a.body s) (may_read g class_of a.test a.body xs) (and_then (step g below depth a.body (opened p n s)) (λ s'. Ok (closed p s s')))
        (pick g below depth p (n + 1) more s) (as_child p n (read_item g class_of below' depth a.body xs)) (read_first g class_of below' depth p (n + 1) more xs)
        (same_may a.test a.body s xs q)
        (sim_child p n s xs (step g below depth a.body (opened p n s)) (read_item g class_of below' depth a.body xs) q (sim_item a.body depth (opened p n s) xs (opened_so p n s xs q)))
        (sim_first p more depth (n + 1) s xs q)

    sim_goal : (depth : ℕ) (goal : Goal) (s : State) (xs : List ℕ) → At s xs → Sim s (run g below depth goal s) (read_goal g class_of below' depth goal xs)
    sim_goal depth (produce p) s xs q = sim_first p (g.table p) depth 1 s xs q
    sim_goal depth (repeat t a) s xs q = sim_item (many t a) depth s xs q

  pub sim_within : (fuel depth : ℕ) (goal : Goal) (s : State) (xs : List ℕ) → At s xs → Sim s (read_within g fuel depth goal s) (read_by_classes g class_of fuel depth goal xs)
  unfolding read_within read_by_classes
  sim_within zero depth goal s xs q = tt
  sim_within (suc fuel) depth goal s xs q = sim_goal (read_within g fuel) (read_by_classes g class_of fuel) (sim_within fuel) depth goal s xs q

  pub at_begin : At (at_first toks) (numbers_from 0 (length toks))
  at_begin = record {
    good = record { text = refl; names = record { scopes = (tt, tt); ended = tt; heads = tt; kept = tt }; built = tt };
    many_left = length toks;
    sum = omega arith;
    left = refl;
  }

  alike_of : (r : Step) (r' : Option Taken) → Sim (at_first toks) r r' → IsReadAlike toks r r'
  alike_of (Err stop) None m = tt
  alike_of (Err stop) (Some t) m = absurd m
  alike_of (Ok s) None m = absurd m
  alike_of (Ok s) (Some t) m =
      let sum : s.at + m.at.many_left ≡ length toks = m.at.sum in
      let so : m.at.many_left ≡ length toks - s.at = omega (arith, sum) in
      (m.read, m.at.left ∙ ap (numbers_from s.at) so)

pub texts_alone : TextsAloneAreReadByClasses
texts_alone g toks alone fuel =
    alike_of g toks alone (read_within g fuel 0 (produce TranslationUnit) (at_first toks)) (read_by_classes g (base_at g toks) fuel 0 (produce TranslationUnit) (numbers_from 0 (length toks)))
    (sim_within g toks alone fuel 0 (produce TranslationUnit) (at_first toks) (numbers_from 0 (length toks)) (at_begin g toks alone))
