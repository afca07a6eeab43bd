-- A text is read as the text is behind a typedef, by a grammar in which what the typedef declares is a keyword.
use Rattle.std.proofs.Common.{ℕ, zero, suc, ◌+◌, ◌<◌, ◌≡◌, ◌⊎◌, Bool, true, false, ◌&&◌, ◌||◌, not, if◌then◌else◌, ◌==◌, List, [], ◌∷◌, length, Option, None, Some, Ok, Err, nat_lt, refl, sym, ap, subst, ◌∙◌, inl, inr, arith}
use Rattle.std.proofs.lemmas.Bool.{false≢true, or_parts, ltb-true, lt-ltb, and_parts}
use Rattle.std.specs.List.{list_all}
use Rattle.cs_base.specs.Token.{Token}
use Rattle.cs_base.proofs.BoolLemmas.{or_first as left_acts, no_case, or_right}
use Rattle.c99_tree.specs.Tree.{Forest, none, token, node, Node, node_of, leaf, inner, put}
use Rattle.c99_tree.specs.declared.production.Label.{Label}
use Rattle.c99_tree.specs.declared.production.Production.{Production}
use Rattle.c99_tree.specs.declared.production.Production.TheVariants.{Main}
use Rattle.c99_grammar.specs.declared.classes.Class.{Class}
use Rattle.c99_grammar.specs.Classes.{among}
use Rattle.c99_grammar.specs.Items.{Item, one, part, end_of_text, act, ◌·◌, choice, maybe, many, deep, Test, own, Action, scope, end, declare, name, keep, again, Alternative}
use Rattle.c99_grammar.specs.Spellings.{Spelled}
use Rattle.c99_grammar.specs.Standard.{Grammar}
use Rattle.c99_grammar.specs.Starting.{holds, starts}
use Rattle.c99_read.specs.State.{State, Names, base_at, is_identifier, last_declared, last_identifier, with_declared, with_scope_ended, given_names, class_at, names_after, names_opened, acted, opened, closed, is_specs, has_typedef, nearest, names_closed, finished}
use Rattle.c99_read.specs.Reading.{Goal, produce, repeat, Step, syntax, too_deep, and_then, deepest, take_one, at_end, enter, may, step, alternative, pick, read_within}
use Rattle.c_types.specs.Trees.{is_at}
use Rattle.reordered_text_laws.specs.ByClasses.{joined}
use Rattle.reordered_text_laws.specs.InOrder.{with_words}
use Rattle.reordered_text_laws.specs.Fronted.{fronted, used, Fits, up, raised, strays, dirty}
use Rattle.reordered_text_laws.proofs.Keyed.{says_same}
use Rattle.reordered_text_laws.proofs.Permuted.{labelled}
use Rattle.reordered_text_laws.proofs.FrontNames.{up_option, up_names, scope_up, length-up, declared_up, ended_up, given_up, opened_up, closed_up}
use Rattle.reordered_text_laws.proofs.CleanNames.{NamesOther, dirty-leaf, dirty-inner, finished-dirty, opened_other, closed_other, after_other}
use Rattle.reordered_text_laws.proofs.FrontClasses.{eq_up, base_up, class_up}
use Rattle.reordered_text_laws.proofs.FrontTrees.{raised_node, raised-leaf, raised-inner, put-joined, finished-raised, last-raised, typedef-raised, behind_four, dirty-raised, dirty-joined}
use Rattle.reordered_text_laws.proofs.FrontGrows.{Grown, grown_item, grown_within}

pub lt_up : (a b : ℕ) → nat_lt (up a) (up b) ≡ nat_lt a b
lt_up a b = by (nat_lt a b) refl
  where
    by : (c : Bool) → nat_lt a b ≡ c → nat_lt (up a) (up b) ≡ c
    by true e = lt-ltb (up a) (up b) (let less : a < b = ltb-true a b e in omega (arith, less))
    by false e = no_case (nat_lt (up a) (up b)) (λ h. false≢true (sym e ∙ lt-ltb a b (let less : up a < up b = ltb-true (up a) (up b) h in omega (arith, less))))

abbrev pub is_none : Forest → Bool
is_none none = true
is_none _ = false

-- something is done between the items
abbrev pub acts : Item → Bool
acts (act a) = true
acts (a · b) = acts a || acts b
acts (choice a b) = acts a || acts b
acts (maybe a) = acts a
acts (many t a) = acts a
acts (deep a) = acts a
acts _ = false

abbrev pub is_main_one : Production → Bool
is_main_one Main = true
is_main_one _ = false

not_main : (p : Production) (n : ℕ) → is_main_one p ≡ false → is_at (labelled p n) Main 4 ≡ false
not_main Main n e = absurd (false≢true (sym e))
not_main _ n e = refl

module _ (z : List Token) (g : Grammar) (words : List Spelled) where
  abbrev h : Grammar
  h = with_words words g

  abbrev uses : ℕ → Bool
  uses = used z

  abbrev uses_up : ℕ → Bool
  uses_up = behind_four (used z)

  -- the two states; `pre` stands in the open node before what is read
  pub record Beside (pre : Forest) (s t : State) : Type 0 where
    pub text : s.toks ≡ fronted z
    pub text' : t.toks ≡ z
    pub at : s.at ≡ up t.at
    pub names : s.names ≡ up_names t.names
    pub near : s.near ≡ t.near
    pub label : s.built.label ≡ t.built.label
    pub begins : is_none pre ≡ true → s.built.first ≡ up t.built.first
    pub outer : is_none pre ≡ false → s.built.first ≡ t.built.first
    pub under : s.built.under ≡ joined pre (raised t.built.under)
    pub others : NamesOther uses t.names
    pub clean : dirty uses t.built.label t.built.under ≡ false

  pub record Went (pre : Forest) (t s' t' : State) : Type 0 where
    pub beside : Beside pre s' t'
    pub same : t'.built.label ≡ t.built.label
    pub first : t'.built.first ≡ t.built.first

  abbrev pub DirtyUp : State → State → Type 0
  DirtyUp s s' = dirty uses_up s.built.label s'.built.under ≡ true

  abbrev pub Dirty : State → State → Type 0
  Dirty t t' = dirty uses t.built.label t'.built.under ≡ true

  -- what becomes of both
  abbrev pub Sim : Forest → State → State → Step → Step → Type 0
  Sim pre s t (Ok s') (Ok t') = Went pre t s' t' ⊎ (DirtyUp s s' × Dirty t t')
  Sim pre s t (Ok s') (Err stop) = DirtyUp s s'
  Sim pre s t (Err stop) (Ok t') = Dirty t t'
  Sim pre s t (Err stop) (Err stop') = Unit {0}

  sim_if : (pre : Forest) (s t : State) (c c' : Bool) (r r' q q' : Step) → c ≡ c' → Sim pre s t r r' → Sim pre s t q q' → Sim pre s t (if c then r else q) (if c' then r' else q')
  sim_if pre s t true c' r r' q q' e m n = subst (λ b. Sim pre s t r (if b then r' else q')) e m
  sim_if pre s t false c' r r' q q' e m n = subst (λ b. Sim pre s t q (if b then r' else q')) e n

  went_on : (pre : Forest) (t t' s'' t'' : State) → t'.built.label ≡ t.built.label → t'.built.first ≡ t.built.first → Went pre t' s'' t'' → Went pre t s'' t''
  went_on pre t t' s'' t'' e k w = record { beside = w.beside; same = w.same ∙ e; first = w.first ∙ k }

  pub sim_then : (pre : Forest) (s t : State) (r r' : Step) (f f' : State → Step) → s.built.label ≡ t.built.label → Sim pre s t r r'
      → ((s' : State) → Grown uses_up s' (f s')) → ((t' : State) → Grown uses t' (f' t'))
      → ((s' t' : State) → Beside pre s' t' → t'.built.label ≡ t.built.label → Sim pre s' t' (f s') (f' t')) → Sim pre s t (and_then r f) (and_then r' f')
  sim_then pre s t (Err stop) (Err stop') f f' same m grown grown' n = tt
  sim_then pre s t (Ok s') (Err stop') f f' same m grown grown' n = by (f s') (grown s')
    where
      by : (r : Step) → Grown uses_up s' r → Sim pre s t r (Err stop')
      by (Err stop) k = tt
      by (Ok s'') k = k.1 s.built.label m
  sim_then pre s t (Err stop) (Ok t') f f' same m grown grown' n = by (f' t') (grown' t')
    where
      by : (r : Step) → Grown uses t' r → Sim pre s t (Err stop) r
      by (Err stop') k = tt
      by (Ok t'') k = k.1 t.built.label m
  sim_then pre s t (Ok s') (Ok t') f f' same (inr d) grown grown' n = by (f s') (f' t') (grown s') (grown' t')
    where
      by : (r r' : Step) → Grown uses_up s' r → Grown uses t' r' → Sim pre s t r r'
      by (Err stop) (Err stop') k k' = tt
      by (Ok s'') (Err stop') k k' = k.1 s.built.label d.0
      by (Err stop) (Ok t'') k k' = k'.1 t.built.label d.1
      by (Ok s'') (Ok t'') k k' = inr (k.1 s.built.label d.0, k'.1 t.built.label d.1)
  sim_then pre s t (Ok s') (Ok t') f f' same (inl w) grown grown' n = by (f s') (f' t') (n s' t' w.beside w.same)
    where
      old : s'.built.label ≡ s.built.label
      old = w.beside.label ∙ (w.same ∙ sym same)

      by : (r r' : Step) → Sim pre s' t' r r' → Sim pre s t r r'
      by (Err stop) (Err stop') k = tt
      by (Ok s'') (Err stop') k = subst (λ l. dirty uses_up l s''.built.under ≡ true) old k
      by (Err stop) (Ok t'') k = subst (λ l. dirty uses l t''.built.under ≡ true) w.same k
      by (Ok s'') (Ok t'') (inl v) = inl (went_on pre t t' s'' t'' w.same w.first v)
      by (Ok s'') (Ok t'') (inr d) = inr (subst (λ l. dirty uses_up l s''.built.under ≡ true) old d.0, subst (λ l. dirty uses l t''.built.under ≡ true) w.same d.1)

  -- nothing was read
  stayed : (pre : Forest) (s t : State) → Beside pre s t → Went pre t s t
  stayed pre s t b = record { beside = b; same = refl; first = refl }

  -- what strays in the one tree strays in the other
  strays_up : (pre : Forest) (l l' : Label) (f f' : Forest) → l ≡ l' → f ≡ joined pre (raised f') → dirty uses l' f' ≡ true → dirty uses_up l f ≡ true
  strays_up pre l l' f f' e k d =
      ap (dirty uses_up l) k ∙ (dirty-joined uses_up l pre (raised f')
      ∙ or_right (dirty uses_up l pre) (dirty uses_up l (raised f')) (dirty-raised uses l f' ∙ (ap (λ m. dirty uses m f') e ∙ d)))

  module _ (fits : (k : ℕ) → Fits z g h k) where
    class_same : (pre : Forest) (s t : State) (k : ℕ) → Beside pre s t → class_at g s (up k) ≡ class_at h t k
    class_same pre s t k b = class_up z g h k (fits k) s t b.text b.text' (ap (λ n. n.scopes) b.names) b.others.opens b.others.scopes

    may_same : (pre : Forest) (s t : State) (q : Test) (a : Item) → Beside pre s t → may g q a s ≡ may h q a t
    may_same pre s t q a b =
        let c : class_at g s s.at ≡ class_at h t t.at = ap (class_at g s) b.at ∙ class_same pre s t t.at b in
        let place : s.at + 1 ≡ up (t.at + 1) = (let e : s.at ≡ up t.at = b.at in omega (arith, e)) in
        let d : class_at g s (s.at + 1) ≡ class_at h t (t.at + 1) = ap (class_at g s) place ∙ class_same pre s t (t.at + 1) b in
        ap (λ x. holds g q (starts g a x (class_at g s (s.at + 1))) x (class_at g s (s.at + 1))) c
        ∙ (ap (λ y. holds g q (starts g a (class_at h t t.at) y) (class_at h t t.at) y) d
        ∙ sym (says_same g words q a (class_at h t t.at) (class_at h t (t.at + 1))))

    -- ---- Tokens

    abbrev with_token : State → State
    with_token s = record s { at = s.at + 1; built = record s.built { under = put s.built.under (leaf s.at) } }

    under_leaf : (pre : Forest) (s t : State) → Beside pre s t → put s.built.under (leaf s.at) ≡ joined pre (raised (put t.built.under (leaf t.at)))
    under_leaf pre s t b =
        ap (λ f. put f (leaf s.at)) b.under ∙ (ap (λ i. put (joined pre (raised t.built.under)) (leaf i)) b.at
        ∙ (put-joined pre (raised t.built.under) (leaf (up t.at)) ∙ ap (joined pre) (raised-leaf t.built.under t.at)))

    took : (pre : Forest) (s t : State) → Beside pre s t → Sim pre s t (Ok (with_token s)) (Ok (with_token t))
    took pre s t b = by (strays uses t.built.label t.at) refl
      where
        by : (c : Bool) → strays uses t.built.label t.at ≡ c → Sim pre s t (Ok (with_token s)) (Ok (with_token t))
        by true e =
            let d : dirty uses t.built.label (put t.built.under (leaf t.at)) ≡ true =
            dirty-leaf uses t.built.label t.built.under t.at ∙ or_right (dirty uses t.built.label t.built.under) (strays uses t.built.label t.at) e in
            inr (strays_up pre s.built.label t.built.label (put s.built.under (leaf s.at)) (put t.built.under (leaf t.at)) b.label (under_leaf pre s t b) d, d)
        by false e = inl (record {
          beside = record {
            text = b.text;
            text' = b.text';
            at = (let k : s.at ≡ up t.at = b.at in omega (arith, k));
            names = b.names;
            near = b.near;
            label = b.label;
            begins = b.begins;
            outer = b.outer;
            under = under_leaf pre s t b;
            others = b.others;
            clean = dirty-leaf uses t.built.label t.built.under t.at ∙ (ap (λ x. x || strays uses t.built.label t.at) b.clean ∙ e);
          };
          same = refl;
          first = refl;
        })

    long_up : (s t : State) → s.toks ≡ fronted z → t.toks ≡ z → length s.toks ≡ up (length t.toks)
    long_up s t e e' = ap length e ∙ ap (λ x. up (length x)) (sym e')

    one_same : (L : List Class) (pre : Forest) (s t : State) → Beside pre s t → Sim pre s t (take_one g L s) (take_one h L t)
    unfolding take_one
    one_same L pre s t b =
        sim_if pre s t (nat_lt s.at (length s.toks) && among L (class_at g s s.at)) (nat_lt t.at (length t.toks) && among L (class_at h t t.at)) (Ok (with_token s)) (Ok (with_token t))
        (Err (syntax s.at)) (Err (syntax t.at))
        (ap (λ x. nat_lt x (length s.toks) && among L (class_at g s s.at)) b.at
        ∙ (ap (λ x. nat_lt (up t.at) x && among L (class_at g s s.at)) (long_up s t b.text b.text')
        ∙ (ap (λ x. x && among L (class_at g s s.at)) (lt_up t.at (length t.toks))
        ∙ ap (λ x. nat_lt t.at (length t.toks) && among L x) (ap (class_at g s) b.at ∙ class_same pre s t t.at b))))
        (took pre s t b) tt

    pub end_same : (pre : Forest) (s t : State) → Beside pre s t → Sim pre s t (at_end s) (at_end t)
    unfolding at_end
    end_same pre s t b =
        sim_if pre s t (s.at == length s.toks) (t.at == length t.toks) (Ok s) (Ok t) (Err (syntax s.at)) (Err (syntax t.at))
        (ap (λ x. x == length s.toks) b.at ∙ (ap (λ x. up t.at == x) (long_up s t b.text b.text') ∙ eq_up t.at (length t.toks))) (inl (stayed pre s t b)) tt

    -- ---- Actions

    some_up : (c : Bool) (i : ℕ) (found : Option ℕ) → (if c then Some (up i) else up_option found) ≡ up_option (if c then Some i else found)
    some_up true i found = refl
    some_up false i found = refl

    token_other : (b u : Bool) → b ≡ false → (not b && u) ≡ false → u ≡ false
    token_other true u e k = absurd (false≢true (sym e))
    token_other false u e k = k

    named_same : (i : ℕ) → used z i ≡ false → is_identifier (base_at g (fronted z) (up i)) ≡ is_identifier (base_at h z i)
    named_same i plain = ap is_identifier (base_up z g i) ∙ by (fits i)
      where
        by : Fits z g h i → is_identifier (base_at g z i) ≡ is_identifier (base_at h z i)
        by (inl same) = ap is_identifier (sym same.0)
        by (inr use_so) = absurd (false≢true (sym plain ∙ use_so.0))

    identifier_up : (l : Label) (f : Forest) (found : Option ℕ) → is_at l Main 4 ≡ false → dirty uses l f ≡ false
        → last_identifier g (fronted z) (raised f) (up_option found) ≡ up_option (last_identifier h z f found)
    identifier_up l none found a d = refl
    identifier_up l (token i rest) found a d =
        let both = or_parts (strays uses l i) (dirty uses l rest) d in
        ap (λ c. last_identifier g (fronted z) (raised rest) (if c then Some (up i) else up_option found)) (named_same i (token_other (is_at l Main 4) (used z i) a both.0))
        ∙ (ap (last_identifier g (fronted z) (raised rest)) (some_up (is_identifier (base_at h z i)) i found)
        ∙ identifier_up l rest (if is_identifier (base_at h z i) then Some i else found) a both.1)
    identifier_up l (node m first under rest) found a d = identifier_up l rest found a (or_parts (dirty uses m under) (dirty uses l rest) d).1

    after_up : (action : Action) (s t : State) → Beside none s t → is_at t.built.label Main 4 ≡ false → names_after g action s ≡ up_names (names_after h action t)
    after_up scope s t b a =
        ap (λ (n : Names). record n { scopes = [] ∷ n.scopes }) b.names ∙ ap (λ x. record (up_names t.names) { scopes = x }) (scope_up [] t.names.scopes b.others.opens)
    after_up end s t b a = ap (λ (n : Names). with_scope_ended n n.scopes) b.names ∙ ended_up t.names t.names.scopes
    after_up declare s t b a =
        ap (λ n. with_declared n (last_declared s.built.under) s.near) b.names
        ∙ (ap (λ i. with_declared (up_names t.names) i s.near) (ap last_declared b.under ∙ last-raised t.built.under)
        ∙ (ap (λ c. with_declared (up_names t.names) (up_option (last_declared t.built.under)) c) b.near ∙ declared_up t.names (last_declared t.built.under) t.near))
    after_up name s t b a =
        ap (λ n. with_declared n (last_identifier g s.toks s.built.under None) false) b.names
        ∙ (ap (λ i. with_declared (up_names t.names) i false)
        (ap (λ x. last_identifier g x s.built.under None) b.text ∙ (ap (λ f. last_identifier g (fronted z) f None) b.under
        ∙ (identifier_up t.built.label t.built.under None a b.clean ∙ ap (λ x. up_option (last_identifier h x t.built.under None)) (sym b.text'))))
        ∙ declared_up t.names (last_identifier h t.toks t.built.under None) false)
    after_up keep s t b a =
        ap (λ (n : Names). record n { heads = given_names (length n.scopes) n.ended n.heads }) b.names
        ∙ ap (λ x. record (up_names t.names) { heads = x })
        (ap (λ k. given_names k (up_names t.names).ended (up_names t.names).heads) (length-up t.names.scopes) ∙ given_up (length t.names.scopes) t.names.ended t.names.heads)
    after_up again s t b a =
        ap (λ (n : Names). record n { scopes = n.kept ∷ n.scopes }) b.names ∙ ap (λ x. record (up_names t.names) { scopes = x }) (scope_up t.names.kept t.names.scopes b.others.opens)

    acted_same : (action : Action) (s t : State) → Beside none s t → is_at t.built.label Main 4 ≡ false → Sim none s t (Ok (acted g action s)) (Ok (acted h action t))
    unfolding acted
    acted_same action s t b a = inl (record {
      beside = record {
        text = b.text;
        text' = b.text';
        at = b.at;
        names = after_up action s t b a;
        near = b.near;
        label = b.label;
        begins = b.begins;
        outer = b.outer;
        under = b.under;
        others = after_other uses h action t a b.clean b.others;
        clean = b.clean;
      };
      same = refl;
      first = refl;
    })

    -- ---- Nodes

    opened_same : (p : Production) (n : ℕ) (pre : Forest) (s t : State) → Beside pre s t → Beside none (opened p n s) (opened p n t)
    unfolding opened
    opened_same p n pre s t b = record {
      text = b.text;
      text' = b.text';
      at = b.at;
      names = ap (λ x. names_opened p x) b.names ∙ opened_up p t.names;
      near = b.near;
      label = refl;
      begins = λ e. b.at;
      outer = λ e. absurd (false≢true (sym e));
      under = refl;
      others = opened_other uses p t.names b.others;
      clean = refl;
    }

    node_same : (s t : State) → Beside none s t → s.built ≡ raised_node t.built
    node_same s t b =
        ap (λ l. node_of l s.built.first s.built.under) b.label ∙ (ap (λ k. node_of t.built.label k s.built.under) (b.begins refl) ∙ ap (node_of t.built.label (up t.built.first)) b.under)

    near_same : (p : Production) (n m : Node) (c d : Bool) → n.under ≡ raised m.under → c ≡ d → nearest p n c ≡ nearest p m d
    near_same p n m c d e k = by (is_specs p)
      where
        by : (x : Bool) → (if x then has_typedef n.under else c) ≡ (if x then has_typedef m.under else d)
        by true = ap has_typedef e ∙ typedef-raised m.under
        by false = k

    closed_same : (p : Production) (pre : Forest) (s t s' t' : State) → Beside pre s t → Beside none s' t' → Went pre t (closed p s s') (closed p t t') ⊎ ((dirty uses t'.built.label t'.built.under ≡ true) × Unit {0})
    unfolding closed
    closed_same p pre s t s' t' b c =
        let tree : finished p s'.built ≡ raised_node (finished p t'.built) = ap (finished p) (node_same s' t' c) ∙ finished-raised p t'.built in
        inl (record {
          beside = record {
            text = c.text;
            text' = c.text';
            at = c.at;
            names = ap (λ x. names_closed p x) c.names ∙ closed_up p t'.names;
            near = near_same p s'.built t'.built s.near t.near c.under b.near;
            label = b.label;
            begins = b.begins;
            outer = b.outer;
            under = ap (λ f. put f (inner (finished p s'.built))) b.under
                ∙ (ap (λ n. put (joined pre (raised t.built.under)) (inner n)) tree
                ∙ (put-joined pre (raised t.built.under) (inner (raised_node (finished p t'.built))) ∙ ap (joined pre) (raised-inner t.built.under (finished p t'.built))));
            others = closed_other uses p t'.names c.others;
            clean = dirty-inner uses t.built.label t.built.under (finished p t'.built)
                ∙ (ap (λ x. x || dirty uses (finished p t'.built).label (finished p t'.built).under) b.clean ∙ (finished-dirty uses p t'.built ∙ c.clean));
          };
          same = refl;
          first = refl;
        })

    -- what strays in a node strays in the one around it
    out_up : (p : Production) (n : ℕ) (s s' : State) → s'.built.label ≡ labelled p n → dirty uses_up (labelled p n) s'.built.under ≡ true
        → dirty uses_up s.built.label (put s.built.under (inner (finished p s'.built))) ≡ true
    out_up p n s s' e d =
        dirty-inner uses_up s.built.label s.built.under (finished p s'.built)
        ∙ or_right (dirty uses_up s.built.label s.built.under) (dirty uses_up (finished p s'.built).label (finished p s'.built).under)
        (finished-dirty uses_up p s'.built ∙ (ap (λ l. dirty uses_up l s'.built.under) e ∙ d))

    out_of : (p : Production) (n : ℕ) (t t' : State) → t'.built.label ≡ labelled p n → dirty uses (labelled p n) t'.built.under ≡ true
        → dirty uses t.built.label (put t.built.under (inner (finished p t'.built))) ≡ true
    out_of p n t t' e d =
        dirty-inner uses t.built.label t.built.under (finished p t'.built)
        ∙ or_right (dirty uses t.built.label t.built.under) (dirty uses (finished p t'.built).label (finished p t'.built).under)
        (finished-dirty uses p t'.built ∙ (ap (λ l. dirty uses l t'.built.under) e ∙ d))

    child_same : (p : Production) (n : ℕ) (pre : Forest) (s t : State) (r r' : Step) → Beside pre s t → Sim none (opened p n s) (opened p n t) r r'
        → Grown uses_up (opened p n s) r → Grown uses (opened p n t) r' → Sim pre s t (and_then r (λ s'. Ok (closed p s s'))) (and_then r' (λ t'. Ok (closed p t t')))
    unfolding opened closed
    child_same p n pre s t (Err stop) (Err stop') b m k k' = tt
    child_same p n pre s t (Ok s') (Err stop') b m k k' = out_up p n s s' k.0 m
    child_same p n pre s t (Err stop) (Ok t') b m k k' = out_of p n t t' k'.0 m
    child_same p n pre s t (Ok s') (Ok t') b (inr d) k k' = inr (out_up p n s s' k.0 d.0, out_of p n t t' k'.0 d.1)
    child_same p n pre s t (Ok s') (Ok t') b (inl w) k k' = by (closed_same p pre s t s' t' b w.beside)
      where
        by : Went pre t (closed p s s') (closed p t t') ⊎ ((dirty uses t'.built.label t'.built.under ≡ true) × Unit {0}) → Sim pre s t (Ok (closed p s s')) (Ok (closed p t t'))
        by (inl v) = inl v
        by (inr d) = absurd (false≢true (sym w.beside.clean ∙ d.0))

    -- ---- Items

    -- nothing is done in a node before which something stands, nor in one that begins with a type name
    abbrev pub Quiet : Forest → Label → Item → Type 0
    Quiet pre l a = acts a ≡ true → (pre ≡ none) × (is_at l Main 4 ≡ false)

    enter_same : (depth : ℕ) (pre : Forest) (s t : State) (c c' : Bool) → c ≡ c' → Beside pre s t → Sim pre s t (enter depth c s) (enter depth c' t)
    unfolding enter
    enter_same depth pre s t c c' e b =
        sim_if pre s t c c' (if nat_lt depth deepest then Ok s else Err (too_deep s.at)) (if nat_lt depth deepest then Ok t else Err (too_deep t.at)) (Err (syntax s.at)) (Err (syntax t.at)) e
        (sim_if pre s t (nat_lt depth deepest) (nat_lt depth deepest) (Ok s) (Ok t) (Err (too_deep s.at)) (Err (too_deep t.at)) refl (inl (stayed pre s t b)) tt) tt

    act_same : (action : Action) (pre : Forest) (s t : State) → pre ≡ none → is_at t.built.label Main 4 ≡ false → Beside pre s t → Sim pre s t (Ok (acted g action s)) (Ok (acted h action t))
    act_same action pre s t e a b =
        subst (λ f. Sim f s t (Ok (acted g action s)) (Ok (acted h action t))) (sym e) (acted_same action s t (subst (λ f. Beside f s t) e b) a)

    module _ (below below' : ℕ → Goal → State → Step) (grown : (depth : ℕ) (goal : Goal) (s : State) → Grown uses_up s (below depth goal s))
        (grown' : (depth : ℕ) (goal : Goal) (t : State) → Grown uses t (below' depth goal t))
        (parts : (depth : ℕ) (p : Production) (pre : Forest) (s t : State) → Beside pre s t → Sim pre s t (below depth (produce p) s) (below' depth (produce p) t))
        (turns : (depth : ℕ) (q : Test) (a : Item) (pre : Forest) (s t : State) → Beside pre s t → Quiet pre t.built.label a
        → Sim pre s t (below depth (repeat q a) s) (below' depth (repeat q a) t)) where
      pub item_same : (item : Item) (depth : ℕ) (pre : Forest) (s t : State) → Beside pre s t → Quiet pre t.built.label item
          → Sim pre s t (step g below depth item s) (step h below' depth item t)
      item_same (one L) depth pre s t b quiet = one_same L pre s t b
      item_same (part p) depth pre s t b quiet = parts depth p pre s t b
      item_same end_of_text depth pre s t b quiet = end_same pre s t b
      item_same (act action) depth pre s t b quiet = let k = quiet refl in act_same action pre s t k.0 k.1 b
      item_same (a · c) depth pre s t b quiet =
          sim_then pre s t (step g below depth a s) (step h below' depth a t) (step g below depth c) (step h below' depth c) b.label
          (item_same a depth pre s t b (λ e. quiet (left_acts (acts a) (acts c) e)))
          (λ s'. grown_item uses_up g below grown c depth s') (λ t'. grown_item uses h below' grown' c depth t')
          (λ s' t' b' e. item_same c depth pre s' t' b' (λ k. (let q = quiet (or_right (acts a) (acts c) k) in (q.0, ap (λ l. is_at l Main 4) e ∙ q.1))))
      item_same (choice a c) depth pre s t b quiet =
          sim_if pre s t (may g own a s) (may h own a t) (step g below depth a s) (step h below' depth a t) (if may g own c s then step g below depth c s else Err (syntax s.at))
          (if may h own c t then step h below' depth c t else Err (syntax t.at)) (may_same pre s t own a b) (item_same a depth pre s t b (λ e. quiet (left_acts (acts a) (acts c) e)))
          (sim_if pre s t (may g own c s) (may h own c t) (step g below depth c s) (step h below' depth c t) (Err (syntax s.at)) (Err (syntax t.at)) (may_same pre s t own c b)
          (item_same c depth pre s t b (λ e. quiet (or_right (acts a) (acts c) e))) tt)
      item_same (maybe a) depth pre s t b quiet =
          sim_if pre s t (may g own a s) (may h own a t) (step g below depth a s) (step h below' depth a t) (Ok s) (Ok t) (may_same pre s t own a b) (item_same a depth pre s t b quiet)
          (inl (stayed pre s t b))
      item_same (many q a) depth pre s t b quiet =
          sim_if pre s t (may g q a s) (may h q a t) (and_then (step g below depth a s) (below depth (repeat q a))) (and_then (step h below' depth a t) (below' depth (repeat q a))) (Ok s) (Ok t)
          (may_same pre s t q a b)
          (sim_then pre s t (step g below depth a s) (step h below' depth a t) (below depth (repeat q a)) (below' depth (repeat q a)) b.label (item_same a depth pre s t b quiet)
          (λ s'. grown depth (repeat q a) s') (λ t'. grown' depth (repeat q a) t')
          (λ s' t' b' e. turns depth q a pre s' t' b' (λ k. (let x = quiet k in (x.0, ap (λ l. is_at l Main 4) e ∙ x.1)))))
          (inl (stayed pre s t b))
      item_same (deep a) depth pre s t b quiet =
          sim_then pre s t (enter depth (may g own a s) s) (enter depth (may h own a t) t) (step g below (depth + 1) a) (step h below' (depth + 1) a) b.label
          (enter_same depth pre s t (may g own a s) (may h own a t) (may_same pre s t own a b) b)
          (λ s'. grown_item uses_up g below grown a (depth + 1) s') (λ t'. grown_item uses h below' grown' a (depth + 1) t')
          (λ s' t' b' e. item_same a (depth + 1) pre s' t' b' (λ k. (let x = quiet k in (x.0, ap (λ l. is_at l Main 4) e ∙ x.1))))

      quiet_one : (p : Production) (n : ℕ) (body : Item) → not (is_main_one p && acts body) ≡ true → Quiet none (labelled p n) body
      quiet_one p n body e k = (refl, not_main p n (by (is_main_one p) refl))
        where
          by : (c : Bool) → is_main_one p ≡ c → is_main_one p ≡ false
          by true x = absurd (false≢true (ap (λ y. not (y && true)) (sym x) ∙ (ap (λ y. not (is_main_one p && y)) (sym k) ∙ e)))
          by false x = x

      first_same : (p : Production) (alternatives : List Alternative) (depth n : ℕ) (pre : Forest) (s t : State) → list_all (λ a. not (is_main_one p && acts a.body)) alternatives ≡ true → Beside pre s t
          → Sim pre s t (pick g below depth p n alternatives s) (pick h below' depth p n alternatives t)
      unfolding opened
      first_same p [] depth n pre s t k b = tt
      first_same p (a ∷ more) depth n pre s t k b =
          let both = and_parts (not (is_main_one p && acts a.body)) (list_all (λ x. not (is_main_one p && acts x.body)) more) k in
          sim_if pre s t (may g a.test a.body s) (may h a.test a.body t) (alternative g below depth p n a.body s) (alternative h below' depth p n a.body t)
          (pick g below depth p (n + 1) more s) (pick h below' depth p (n + 1) more t) (may_same pre s t a.test a.body b)
          (child_same p n pre s t (step g below depth a.body (opened p n s)) (step h below' depth a.body (opened p n t)) b
          (item_same a.body depth none (opened p n s) (opened p n t) (opened_same p n pre s t b) (quiet_one p n a.body both.0))
          (grown_item uses_up g below grown a.body depth (opened p n s)) (grown_item uses h below' grown' a.body depth (opened p n t)))
          (first_same p more depth (n + 1) pre s t both.1 b)

    module _ (quiet : (p : Production) → list_all (λ a. not (is_main_one p && acts a.body)) (g.table p) ≡ true) where
      -- readings in so many steps
      record Same (fuel : ℕ) : Type 0 where
        parts : (depth : ℕ) (p : Production) (pre : Forest) (s t : State) → Beside pre s t → Sim pre s t (read_within g fuel depth (produce p) s) (read_within h fuel depth (produce p) t)
        turns : (depth : ℕ) (q : Test) (a : Item) (pre : Forest) (s t : State) → Beside pre s t → Quiet pre t.built.label a
            → Sim pre s t (read_within g fuel depth (repeat q a) s) (read_within h fuel depth (repeat q a) t)

      same_at : (fuel : ℕ) → Same fuel
      unfolding read_within
      same_at zero = record { parts = λ depth p pre s t b. tt; turns = λ depth q a pre s t b k. tt }
      same_at (suc fuel) =
          let less = same_at fuel in
          record {
            parts = λ depth p pre s t b.
                first_same (read_within g fuel) (read_within h fuel) (grown_within uses_up g fuel) (grown_within uses h fuel) less.parts less.turns p (g.table p) depth 1 pre s t (quiet p) b;
            turns = λ depth q a pre s t b k.
                item_same (read_within g fuel) (read_within h fuel) (grown_within uses_up g fuel) (grown_within uses h fuel) less.parts less.turns (many q a) depth pre s t b k;
          }

      pub turns_same : (fuel depth : ℕ) (q : Test) (a : Item) (pre : Forest) (s t : State) → Beside pre s t → Quiet pre t.built.label a
          → Sim pre s t (read_within g fuel depth (repeat q a) s) (read_within h fuel depth (repeat q a) t)
      turns_same fuel depth q a pre s t b k = (same_at fuel).turns depth q a pre s t b k
