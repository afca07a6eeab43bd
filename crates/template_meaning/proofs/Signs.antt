-- What reading adds to the children of the open node: tokens of classes that the item asks for.
use Rattle.std.proofs.Common.{ℕ, zero, suc, ◌+◌, ◌≡◌, inl, inr, Bool, true, false, ◌&&◌, if◌then◌else◌, List, [], ◌∷◌, ◌++◌, length, Some, Ok, Err, nat_lt, refl, sym, ap, subst, ◌∙◌, arith, append_assoc, append-nil}
use Rattle.std.specs.Prelude.{slice_get, ◌==◌}
use Rattle.std.proofs.lemmas.Bool.{false≢true, and_parts}
use Rattle.c99_grammar.specs.declared.dialects.Edition.{Edition}
use Rattle.cs_base.specs.Token.{Token}
use Rattle.c99_tree.specs.Tree.{Forest, none, token, node, Node, leaf, inner, put, lone, collapsed}
use Rattle.c99_tree.specs.declared.production.Label.{Label}
use Rattle.c99_tree.specs.declared.production.Production.{Production}
use Rattle.c99_tree.specs.declared.production.Production.TheVariants.{TranslationUnit}
use Rattle.c99_grammar.specs.declared.classes.Class.{Class}
use Rattle.c99_grammar.specs.declared.classes.Class.TheVariants.{TypedefName}
use Rattle.c99_grammar.specs.Classes.{among}
use Rattle.c99_grammar.specs.Items.{Item, one, part, end_of_text, act, ◌·◌, choice, maybe, many, deep, own, Action, Alternative}
use Rattle.c99_grammar.specs.Standard.{Grammar, iso}
use Rattle.c99_read.specs.State.{State, base_at, class_at, is_identifier, is_typedef_at, collapses, finished, acted, opened, closed}
use Rattle.c99_read.specs.Reading.{Goal, produce, repeat, Step, and_then, deepest, take_one, syntax, at_end, enter, may, step, alternative, pick, run, read_within, steps_for, whole, at_first, tree_of}
use Rattle.tree_laws.specs.ReadTexts.{Reads}
use Rattle.tree_laws.proofs.Walked.{After, after_if, with_token}
use Rattle.template_meaning.specs.Children.{EachNode}
use Rattle.template_meaning.specs.Ends.{Sign, a_token, a_node, signs, HasClass, AreOfClasses, IsOfClasses}

-- ---- One child more

signs_leaf : (f : Forest) (i : ℕ) → signs (put f (leaf i)) ≡ signs f ++ a_token i ∷ []
signs_leaf none i = refl
signs_leaf (token j rest) i = ap (λ (w : List Sign). a_token j ∷ w) (signs_leaf rest i)
signs_leaf (node l first under rest) i = ap (λ (w : List Sign). a_node ∷ w) (signs_leaf rest i)

signs_inner : (f : Forest) (n : Node) → signs (put f (inner n)) ≡ signs f ++ a_node ∷ []
signs_inner none n = refl
signs_inner (token j rest) n = ap (λ (w : List Sign). a_token j ∷ w) (signs_inner rest n)
signs_inner (node l first under rest) n = ap (λ (w : List Sign). a_node ∷ w) (signs_inner rest n)

module _ (P : Label → Forest → Type 0) where
  each_leaf : (f : Forest) (i : ℕ) → EachNode P f → EachNode P (put f (leaf i))
  each_leaf none i w = tt
  each_leaf (token j rest) i w = each_leaf rest i w
  each_leaf (node l first under rest) i w = (w.0, w.1, each_leaf rest i w.2)

  each_inner : (f : Forest) (n : Node) → EachNode P f → P n.label n.under → EachNode P n.under → EachNode P (put f (inner n))
  each_inner none n w mine below = (mine, below, tt)
  each_inner (token j rest) n w mine below = each_inner rest n w mine below
  each_inner (node l first under rest) n w mine below = (w.0, w.1, each_inner rest n w.2 mine below)

-- ---- The class of a token

after_same : (r : Step) (P Q : State → Type 0) → ((s : State) → P s → Q s) → After P r → After Q r
after_same (Ok s) P Q f m = f s m
after_same (Err stop) P Q f m = tt

class_is : (g : Grammar) (s : State) (i : ℕ) (c : Class) → is_identifier c ≡ false → base_at g s.toks i ≡ c → class_at g s i ≡ c
unfolding class_at
class_is g s i c no_name e =
    by (is_identifier (base_at g s.toks i)) (ap is_identifier e ∙ no_name)
  where
    by : (b : Bool) → b ≡ false → (if b && is_typedef_at s.toks s.names.scopes i then TypedefName else base_at g s.toks i) ≡ c
    by true h = absurd (false≢true (sym h))
    by false h = e

module _ (g : Grammar) (toks : List Token) where
  taken_class : (s : State) (classes : List Class) → s.toks ≡ toks → (nat_lt s.at (length s.toks) && among classes (class_at g s s.at)) ≡ true → HasClass g toks classes s.at
  taken_class s classes text h c no_name e =
      let pass = (and_parts (nat_lt s.at (length s.toks)) (among classes (class_at g s s.at)) h).1 in
      let same = class_is g s s.at c no_name (ap (λ (ts : List Token). base_at g ts s.at) text ∙ e) in
      subst (λ (d : Class). among classes d ≡ true) same pass

  -- ---- What an item adds

  -- what a goal adds
  abbrev OfGoal : Goal → List Sign → Type 0
  OfGoal (produce p) w = AreOfClasses g toks (part p) w
  OfGoal (repeat t a) w = AreOfClasses g toks (many t a) w

  -- a later state, in the same open node, which has new children
  record Adds (Of : List Sign → Type 0) (s s' : State) : Type 0 where
    label : s'.built.label ≡ s.built.label
    text : s'.toks ≡ s.toks
    new : List Sign
    made : s.toks ≡ toks → Of new
    more : signs s'.built.under ≡ signs s.built.under ++ new
    each : s.toks ≡ toks → EachNode (IsOfClasses g toks) s.built.under → EachNode (IsOfClasses g toks) s'.built.under

  still : (Of : List Sign → Type 0) (s : State) → Of [] → Adds Of s s
  still Of s of_none = record {
    label = refl;
    text = refl;
    new = [];
    made = λ t. of_none;
    more = sym (append-nil (signs s.built.under));
    each = λ t w. w;
  }

  further : (P Q R : List Sign → Type 0) (s s' s'' : State) → ((xs ys : List Sign) → P xs → Q ys → R (xs ++ ys)) → Adds P s s' → Adds Q s' s'' → Adds R s s''
  further P Q R s s' s'' joins x y = record {
    label = y.label ∙ x.label;
    text = y.text ∙ x.text;
    new = x.new ++ y.new;
    made = λ t. joins x.new y.new (x.made t) (y.made (x.text ∙ t));
    more = y.more ∙ ap (λ (w : List Sign). w ++ y.new) x.more ∙ append_assoc (signs s.built.under) x.new y.new;
    each = λ t w. y.each (x.text ∙ t) (x.each t w);
  }

  same : (P R : List Sign → Type 0) (s s' : State) → ((xs : List Sign) → P xs → R xs) → Adds P s s' → Adds R s s'
  same P R s s' gives x = record {
    label = x.label;
    text = x.text;
    new = x.new;
    made = λ t. gives x.new (x.made t);
    more = x.more;
    each = x.each;
  }

  token_adds : (s : State) (classes : List Class) → (nat_lt s.at (length s.toks) && among classes (class_at g s s.at)) ≡ true → Adds (AreOfClasses g toks (one classes)) s (with_token s)
  token_adds s classes h = record {
    label = refl;
    text = refl;
    new = a_token s.at ∷ [];
    made = λ t. (s.at, refl, taken_class s classes t h);
    more = signs_leaf s.built.under s.at;
    each = λ t. each_leaf (IsOfClasses g toks) s.built.under s.at;
  }

  acted_adds : (a : Action) (s : State) → Adds (λ w. w ≡ []) s (acted g a s)
  unfolding acted
  acted_adds a s = record {
    label = refl;
    text = refl;
    new = [];
    made = λ t. refl;
    more = sym (append-nil (signs s.built.under));
    each = λ t w. w;
  }

  then_adds : (P Q R : List Sign → Type 0) (s : State) (r : Step) (next_step : State → Step) → ((xs ys : List Sign) → P xs → Q ys → R (xs ++ ys))
      → After (Adds P s) r → ((s' : State) → After (Adds Q s') (next_step s')) → After (Adds R s) (and_then r next_step)
  then_adds P Q R s (Err stop) next_step joins m n = tt
  then_adds P Q R s (Ok s') next_step joins m n = after_same (next_step s') (Adds Q s') (Adds R s) (λ s'' y. further P Q R s s' s'' joins m y) (n s')

  end_adds : (s : State) → After (Adds (λ w. w ≡ []) s) (at_end s)
  unfolding at_end
  end_adds s = after_if (Adds (λ w. w ≡ []) s) (s.at == length s.toks) _ _ (still (λ w. w ≡ []) s refl) tt

  enter_adds : (depth : ℕ) (b : Bool) (s : State) → After (Adds (λ w. w ≡ []) s) (enter depth b s)
  unfolding enter
  enter_adds depth b s =
      after_if (Adds (λ w. w ≡ []) s) b _ _ (after_if (Adds (λ w. w ≡ []) s) (nat_lt depth deepest) _ _ (still (λ w. w ≡ []) s refl) tt) tt

  behind_none : (R : List Sign → Type 0) (xs ys : List Sign) → xs ≡ [] → R ys → R (xs ++ ys)
  behind_none R [] ys e h = h
  behind_none R (x ∷ xs) ys e h = absurd (cc)

  one_adds : (classes : List Class) (s : State) → After (Adds (AreOfClasses g toks (one classes)) s) (take_one g classes s)
  unfolding take_one
  one_adds classes s = by (nat_lt s.at (length s.toks) && among classes (class_at g s s.at)) refl
    where
      by : (b : Bool) → (nat_lt s.at (length s.toks) && among classes (class_at g s s.at)) ≡ b
          → After (Adds (AreOfClasses g toks (one classes)) s) (if b then Ok (record s { at = s.at + 1; built = record s.built { under = put s.built.under (leaf s.at) } }) else Err (syntax s.at))
      by true e = token_adds s classes e
      by false e = tt

  module _ (below : ℕ → Goal → State → Step) (adds : (depth : ℕ) (goal : Goal) (s : State) → After (Adds (OfGoal goal) s) (below depth goal s)) where
    step_adds : (item : Item) (depth : ℕ) (s : State) → After (Adds (AreOfClasses g toks item) s) (step g below depth item s)
    step_adds (one classes) depth s = one_adds classes s
    step_adds (part p) depth s = adds depth (produce p) s
    step_adds end_of_text depth s = end_adds s
    step_adds (act a) depth s = acted_adds a s
    step_adds (a · b) depth s =
        then_adds (AreOfClasses g toks a) (AreOfClasses g toks b) (AreOfClasses g toks (a · b)) s (step g below depth a s) (step g below depth b) (λ xs ys x y. (xs, ys, refl, x, y))
        (step_adds a depth s) (λ s'. step_adds b depth s')
    step_adds (choice a b) depth s =
        after_if (Adds (AreOfClasses g toks (choice a b)) s) (may g own a s) _ _
        (after_same (step g below depth a s) (Adds (AreOfClasses g toks a) s) (Adds (AreOfClasses g toks (choice a b)) s) (λ s' x. same (AreOfClasses g toks a) (AreOfClasses g toks (choice a b)) s s' (λ xs h. inl h) x) (step_adds a depth s))
        (after_if (Adds (AreOfClasses g toks (choice a b)) s) (may g own b s) _ _
        (after_same (step g below depth b s) (Adds (AreOfClasses g toks b) s) (Adds (AreOfClasses g toks (choice a b)) s) (λ s' x. same (AreOfClasses g toks b) (AreOfClasses g toks (choice a b)) s s' (λ xs h. inr h) x) (step_adds b depth s))
        tt)
    step_adds (maybe a) depth s =
        after_if (Adds (AreOfClasses g toks (maybe a)) s) (may g own a s) _ _
        (after_same (step g below depth a s) (Adds (AreOfClasses g toks a) s) (Adds (AreOfClasses g toks (maybe a)) s) (λ s' x. same (AreOfClasses g toks a) (AreOfClasses g toks (maybe a)) s s' (λ xs h. inl h) x) (step_adds a depth s))
        (still (AreOfClasses g toks (maybe a)) s (inr refl))
    step_adds (many t a) depth s =
        after_if (Adds (AreOfClasses g toks (many t a)) s) (may g t a s) _ _
        (then_adds (AreOfClasses g toks a) (AreOfClasses g toks (many t a)) (AreOfClasses g toks (many t a)) s (step g below depth a s) (below depth (repeat t a))
        (λ xs ys x y. (suc y.0, (xs, ys, refl, x, y.1))) (step_adds a depth s) (λ s'. adds depth (repeat t a) s'))
        (still (AreOfClasses g toks (many t a)) s (0, refl))
    step_adds (deep a) depth s =
        then_adds (λ w. w ≡ []) (AreOfClasses g toks a) (AreOfClasses g toks a) s (enter depth (may g own a s) s) (step g below (depth + 1) a) (behind_none (AreOfClasses g toks a))
        (enter_adds depth (may g own a s) s) (λ s'. step_adds a (depth + 1) s')

  -- ---- What a production adds

  -- a node that was read
  record IsChild (n : Node) : Type 0 where
    own : IsOfClasses g toks n.label n.under
    below : EachNode (IsOfClasses g toks) n.under

  lone_child : (f : Forest) (n : Node) → n.under ≡ f → IsChild n → IsChild (lone f n)
  lone_child none n e x = x
  lone_child (token i rest) n e x = x
  lone_child (node l first under none) n e x =
      let each : EachNode (IsOfClasses g toks) (node l first under none) = subst (EachNode (IsOfClasses g toks)) e x.below in
      record { own = each.0; below = each.1 }
  lone_child (node l first under (token i rest)) n e x = x
  lone_child (node l first under (node m second u2 rest)) n e x = x

  finished_child : (p : Production) (n : Node) → IsChild n → IsChild (finished p n)
  finished_child p n x = by (collapses p)
    where
      by : (c : Bool) → IsChild (if c then collapsed n else n)
      by true = lone_child n.under n refl x
      by false = x

  node_child : (p : Production) (m : ℕ) (a : Alternative) (s s' : State) → s.toks ≡ toks → slice_get (g.table p) m ≡ Some a → Adds (AreOfClasses g toks a.body) (opened p (m + 1) s) s' → IsChild s'.built
  unfolding opened
  node_child p m a s s' text at x =
      let named : s'.built.label.production ≡ p = ap (λ (l : Label). l.production) x.label in
      record {
        own = record {
          number = m;
          numbered = ap (λ (l : Label). l.alternative) x.label;
          alternative = a;
          is_one = ap (λ (q : Production). slice_get (g.table q) m) named ∙ at;
          own = subst (AreOfClasses g toks a.body) (sym x.more) (x.made text);
        };
        below = x.each text tt;
      }

  closed_adds : (p : Production) (m : ℕ) (a : Alternative) (s s' : State) → slice_get (g.table p) m ≡ Some a → Adds (AreOfClasses g toks a.body) (opened p (m + 1) s) s' → Adds (AreOfClasses g toks (part p)) s (closed p s s')
  unfolding closed opened
  closed_adds p m a s s' at x = record {
    label = refl;
    text = x.text;
    new = a_node ∷ [];
    made = λ t. refl;
    more = signs_inner s.built.under (finished p s'.built);
    each = λ t w. let child = finished_child p s'.built (node_child p m a s s' t at x) in each_inner (IsOfClasses g toks) s.built.under (finished p s'.built) w child.own child.below;
  }

  module _ (below : ℕ → Goal → State → Step) (adds : (depth : ℕ) (goal : Goal) (s : State) → After (Adds (OfGoal goal) s) (below depth goal s)) where
    alternative_adds : (depth : ℕ) (p : Production) (m : ℕ) (a : Alternative) (s : State) → slice_get (g.table p) m ≡ Some a
        → After (Adds (AreOfClasses g toks (part p)) s) (alternative g below depth p (m + 1) a.body s)
    alternative_adds depth p m a s at = by (step g below depth a.body (opened p (m + 1) s)) (step_adds below adds a.body depth (opened p (m + 1) s))
      where
        by : (r : Step) → After (Adds (AreOfClasses g toks a.body) (opened p (m + 1) s)) r → After (Adds (AreOfClasses g toks (part p)) s) (and_then r (λ s'. Ok (closed p s s')))
        by (Err stop) x = tt
        by (Ok s') x = closed_adds p m a s s' at x

    pick_adds : (depth : ℕ) (p : Production) (m : ℕ) (alternatives : List Alternative) (s : State) → ((k : ℕ) → slice_get alternatives k ≡ slice_get (g.table p) (m + k))
        → After (Adds (AreOfClasses g toks (part p)) s) (pick g below depth p (m + 1) alternatives s)
    pick_adds depth p m [] s here = tt
    pick_adds depth p m (a ∷ more) s here =
        let first : m + 0 ≡ m = omega arith in
        after_if (Adds (AreOfClasses g toks (part p)) s) (may g a.test a.body s) _ _
        (alternative_adds depth p m a s (sym (here 0 ∙ ap (λ (k : ℕ). slice_get (g.table p) k) first)))
        (pick_adds depth p (m + 1) more s (λ k. here (suc k) ∙ (let e : m + suc k ≡ m + 1 + k = omega arith in ap (λ (j : ℕ). slice_get (g.table p) j) e)))

    run_adds : (depth : ℕ) (goal : Goal) (s : State) → After (Adds (OfGoal goal) s) (run g below depth goal s)
    run_adds depth (produce p) s = pick_adds depth p 0 (g.table p) s (λ k. let e : k ≡ 0 + k = omega arith in ap (λ (j : ℕ). slice_get (g.table p) j) e)
    run_adds depth (repeat t a) s = step_adds below adds (many t a) depth s

  within_adds : (fuel depth : ℕ) (goal : Goal) (s : State) → After (Adds (OfGoal goal) s) (read_within g fuel depth goal s)
  unfolding read_within
  within_adds zero depth goal s = tt
  within_adds (suc fuel) depth goal s = run_adds (read_within g fuel) (within_adds fuel) depth goal s

  whole_adds : After (Adds (AreOfClasses g toks (part TranslationUnit)) (at_first toks)) (whole g 0 (produce TranslationUnit) (at_first toks))
  unfolding whole
  whole_adds = within_adds (steps_for (produce TranslationUnit) (at_first toks)) 0 (produce TranslationUnit) (at_first toks)

  lone_below : (f : Forest) (b n : Node) → signs f ≡ a_node ∷ [] → EachNode (IsOfClasses g toks) f → lone f b ≡ n → EachNode (IsOfClasses g toks) n.under
  lone_below none b n e each same_tree = absurd (cc)
  lone_below (token i rest) b n e each same_tree = absurd (cc)
  lone_below (node l first under none) b n e each same_tree = subst (λ (m : Node). EachNode (IsOfClasses g toks) m.under) same_tree each.1
  lone_below (node l first under (token i rest)) b n e each same_tree = absurd (cc)
  lone_below (node l first under (node m second u2 rest)) b n e each same_tree = absurd (cc)

  tree_each : (r : Step) (tree : Node) → After (Adds (AreOfClasses g toks (part TranslationUnit)) (at_first toks)) r → tree_of r ≡ Ok tree → EachNode (IsOfClasses g toks) tree.under
  tree_each (Ok s) tree x e =
      let same_tree : lone s.built.under s.built ≡ tree = cc in
      lone_below s.built.under s.built tree (x.more ∙ x.made refl) (x.each refl tt) same_tree
  tree_each (Err stop) tree x e = absurd (cc)

pub tokens_of_classes : (s : Edition) (toks : List Token) (tree : Node) → Reads (iso s) toks tree → EachNode (IsOfClasses (iso s) toks) tree.under
tokens_of_classes s toks tree e = tree_each (iso s) toks (whole (iso s) 0 (produce TranslationUnit) (at_first toks)) tree (whole_adds (iso s) toks) e
