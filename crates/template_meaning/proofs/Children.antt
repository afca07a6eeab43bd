-- What reading adds to the children of the open node: those of the item that is read.
use Rattle.std.proofs.Common.{ℕ, zero, suc, ◌+◌, ◌≡◌, ◌⊎◌, inl, inr, Bool, true, false, ◌&&◌, ◌||◌, not, if◌then◌else◌, List, [], ◌∷◌, ◌++◌, length, Some, Ok, Err, nat_lt, refl, sym, ap, subst, ◌∙◌, arith, append_assoc, append-nil}
use Rattle.std.specs.Prelude.{slice_get, ◌==◌}
use Rattle.std.specs.List.{list_all}
use Rattle.std.proofs.lemmas.Bool.{false≢true, and_parts, and_from, or_left, or_right}
use Rattle.c99_grammar.specs.declared.dialects.Edition.{Edition}
use Rattle.cs_base.specs.Token.{Token}
use Rattle.cs_base.proofs.BoolLemmas.{or_met as implied}
use Rattle.cs_base.proofs.ListLemmas.{passes-at as row_at}
use Rattle.c99_tree.specs.Tree.{Forest, none, token, node, Node, leaf, inner, put, lone, collapsed}
use Rattle.c99_tree.specs.declared.production.Label.{Label}
use Rattle.c99_tree.specs.declared.production.Production.{Production}
use Rattle.c99_tree.specs.declared.production.Production.TheVariants.{TranslationUnit}
use Rattle.c99_grammar.specs.Classes.{among}
use Rattle.c99_grammar.specs.Items.{Item, one, part, end_of_text, act, ◌·◌, choice, maybe, many, deep, own, Action, Alternative}
use Rattle.c99_grammar.specs.Standard.{Grammar, iso}
use Rattle.c99_read.specs.State.{State, class_at, collapses, finished, acted, opened, closed}
use Rattle.c99_read.specs.Reading.{Goal, produce, repeat, Step, and_then, deepest, take_one, at_end, enter, may, step, alternative, pick, run, read_within, steps_for, whole, at_first, tree_of, read_of}
use Rattle.tree_laws.specs.Shapes.{has_no_declaring, parts_all, goal_all, passes_on}
use Rattle.tree_laws.proofs.Walked.{After, after_if, with_token}
use Rattle.template_meaning.specs.Children.{Child, a_token, a_node, children, is_operand, StandsFor, AreTimes, AreOfItem, EachNode, IsInner, IsOfAlternative, whole_of, ChildrenAreOfAlternatives}
use Rattle.template_meaning.proofs.InnerTable.{can_none, is_lone_operand, stays_inner, inner_at}

-- ---- One child more

children_leaf : (f : Forest) (i : ℕ) → children (put f (leaf i)) ≡ children f ++ a_token ∷ []
children_leaf none i = refl
children_leaf (token j rest) i = ap (λ (w : List Child). a_token ∷ w) (children_leaf rest i)
children_leaf (node l first under rest) i = ap (λ (w : List Child). a_node l.production ∷ w) (children_leaf rest i)

children_inner : (f : Forest) (n : Node) → children (put f (inner n)) ≡ children f ++ a_node n.label.production ∷ []
children_inner none n = refl
children_inner (token j rest) n = ap (λ (w : List Child). a_token ∷ w) (children_inner rest n)
children_inner (node l first under rest) n = ap (λ (w : List Child). a_node l.production ∷ w) (children_inner rest n)

module _ (P : Label → Forest → Type 0) where
  each_leaf : (f : Forest) (i : ℕ) → EachNode P f → EachNode P (put f (leaf i))
  each_leaf none i w = tt
  each_leaf (token j rest) i w = each_leaf rest i w
  each_leaf (node l first under rest) i w = (w.0, w.1, each_leaf rest i w.2)

  each_inner : (f : Forest) (n : Node) → EachNode P f → P n.label n.under → EachNode P n.under → EachNode P (put f (inner n))
  each_inner none n w mine below = (mine, below, tt)
  each_inner (token j rest) n w mine below = each_inner rest n w mine below
  each_inner (node l first under rest) n w mine below = (w.0, w.1, each_inner rest n w.2 mine below)

-- ---- One child alone

one_split : (xs ys : List Child) (c : Child) → xs ++ ys ≡ c ∷ [] → ((xs ≡ c ∷ []) × (ys ≡ [])) ⊎ ((xs ≡ []) × (ys ≡ c ∷ []))
one_split [] ys c e = inr (refl, e)
one_split (x ∷ []) [] c e = inl (e, refl)
one_split (x ∷ []) (y ∷ ys) c e = absurd (cc)
one_split (x ∷ (z ∷ xs)) ys c e = absurd (cc)

both_none : (xs ys : List Child) → xs ++ ys ≡ [] → (xs ≡ []) × (ys ≡ [])
both_none [] ys e = (refl, e)
both_none (x ∷ xs) ys e = absurd (cc)

pub item_none : (a : Item) (w : List Child) → AreOfItem a w → w ≡ [] → can_none a ≡ true
item_none (one classes) w h e = let no : a_token ∷ [] ≡ [] = sym h ∙ e in absurd (cc)
item_none (part p) w (q, h, stands) e = let no : a_node q ∷ [] ≡ [] = sym h ∙ e in absurd (cc)
item_none end_of_text w h e = refl
item_none (act a) w h e = refl
item_none (a · b) w (xs, ys, all, x, y) e =
    let no = both_none xs ys (sym all ∙ e) in
    and_from (can_none a) (can_none b) (item_none a xs x no.0) (item_none b ys y no.1)
item_none (choice a b) w (inl h) e = or_left (can_none a) (can_none b) (item_none a w h e)
item_none (choice a b) w (inr h) e = or_right (can_none a) (can_none b) (item_none b w h e)
item_none (maybe a) w h e = refl
item_none (many t a) w h e = refl
item_none (deep a) w h e = item_none a w h e

times_operand : (P : List Child → Type 0) (q : Production) → ((v : List Child) → P v → v ≡ a_node q ∷ [] → is_operand q ≡ true) → (k : ℕ) (v : List Child) → AreTimes P k v
    → v ≡ a_node q ∷ [] → is_operand q ≡ true
times_operand P q each zero v is f = let no : [] ≡ a_node q ∷ [] = sym is ∙ f in absurd (cc)
times_operand P q each (suc k) v (xs, ys, all, x, more) f = elim (one_split xs ys (a_node q) (sym all ∙ f)) [
  | inl first ↦ each xs x first.0
  | inr second ↦ times_operand P q each k ys more second.1
]

lone_operand : (a : Item) (w : List Child) (q : Production) → is_lone_operand a ≡ true → AreOfItem a w → w ≡ a_node q ∷ [] → is_operand q ≡ true
lone_operand (one classes) w q ok h e = let no : a_token ∷ [] ≡ a_node q ∷ [] = sym h ∙ e in absurd (cc)
lone_operand (part p) w q ok (r, h, stands) e =
    let same : a_node r ∷ [] ≡ a_node q ∷ [] = sym h ∙ e in
    let one_is : r ≡ q = cc in
    subst (λ (x : Production). is_operand x ≡ true) one_is (by stands)
  where
    by : StandsFor p r → is_operand r ≡ true
    by (inl s) = ap is_operand s ∙ ok
    by (inr c) = c.1
lone_operand end_of_text w q ok h e = let no : [] ≡ a_node q ∷ [] = sym h ∙ e in absurd (cc)
lone_operand (act a) w q ok h e = let no : [] ≡ a_node q ∷ [] = sym h ∙ e in absurd (cc)
lone_operand (a · b) w q ok (xs, ys, all, x, y) e =
    let both = and_parts (not (can_none b) || is_lone_operand a) (not (can_none a) || is_lone_operand b) ok in
    elim (one_split xs ys (a_node q) (sym all ∙ e)) [
      | inl first ↦ lone_operand a xs q (implied (can_none b) (is_lone_operand a) both.0 (item_none b ys y first.1)) x first.0
      | inr second ↦ lone_operand b ys q (implied (can_none a) (is_lone_operand b) both.1 (item_none a xs x second.0)) y second.1
    ]
lone_operand (choice a b) w q ok (inl h) e = lone_operand a w q (and_parts (is_lone_operand a) (is_lone_operand b) ok).0 h e
lone_operand (choice a b) w q ok (inr h) e = lone_operand b w q (and_parts (is_lone_operand a) (is_lone_operand b) ok).1 h e
lone_operand (maybe a) w q ok (inl h) e = lone_operand a w q ok h e
lone_operand (maybe a) w q ok (inr h) e = let no : [] ≡ a_node q ∷ [] = sym h ∙ e in absurd (cc)
lone_operand (many t a) w q ok (n, h) e = times_operand (AreOfItem a) q (λ v x f. lone_operand a v q ok x f) n w h e
lone_operand (deep a) w q ok h e = lone_operand a w q ok h e

-- ---- What an item adds

after_same : (r : Step) (P Q : State → Type 0) → ((s : State) → P s → Q s) → After P r → After Q r
after_same (Ok s) P Q f m = f s m
after_same (Err stop) P Q f m = tt

-- what a goal adds
abbrev OfGoal : Goal → List Child → Type 0
OfGoal (produce p) w = AreOfItem (part p) w
OfGoal (repeat t a) w = AreOfItem (many t a) w

module _ (g : Grammar) where
  -- a later state, in the same open node, which has new children; where these productions are allowed, nodes are such
  record Adds (Of : List Child → Type 0) (allowed : Bool) (s s' : State) : Type 0 where
    label : s'.built.label ≡ s.built.label
    new : List Child
    made : Of new
    more : children s'.built.under ≡ children s.built.under ++ new
    each : EachNode (IsOfAlternative g) s.built.under → EachNode (IsOfAlternative g) s'.built.under
    inside : allowed ≡ true → EachNode IsInner s.built.under → EachNode IsInner s'.built.under

  still : (Of : List Child → Type 0) (allowed : Bool) (s : State) → Of [] → Adds Of allowed s s
  still Of allowed s of_none = record {
    label = refl;
    new = [];
    made = of_none;
    more = sym (append-nil (children s.built.under));
    each = λ w. w;
    inside = λ h w. w;
  }

  further : (P Q R : List Child → Type 0) (a b c : Bool) (s s' s'' : State) → ((xs ys : List Child) → P xs → Q ys → R (xs ++ ys))
      → (c ≡ true → (a ≡ true) × (b ≡ true)) → Adds P a s s' → Adds Q b s' s'' → Adds R c s s''
  further P Q R a b c s s' s'' joins allows x y = record {
    label = y.label ∙ x.label;
    new = x.new ++ y.new;
    made = joins x.new y.new x.made y.made;
    more = y.more ∙ ap (λ (w : List Child). w ++ y.new) x.more ∙ append_assoc (children s.built.under) x.new y.new;
    each = λ w. y.each (x.each w);
    inside = λ h w. y.inside (allows h).1 (x.inside (allows h).0 w);
  }

  same : (P R : List Child → Type 0) (a c : Bool) (s s' : State) → ((xs : List Child) → P xs → R xs) → (c ≡ true → a ≡ true) → Adds P a s s' → Adds R c s s'
  same P R a c s s' gives allows x = record {
    label = x.label;
    new = x.new;
    made = gives x.new x.made;
    more = x.more;
    each = x.each;
    inside = λ h. x.inside (allows h);
  }

  token_adds : (allowed : Bool) (s : State) → Adds (λ w. w ≡ a_token ∷ []) allowed s (with_token s)
  token_adds allowed s = record {
    label = refl;
    new = a_token ∷ [];
    made = refl;
    more = children_leaf s.built.under s.at;
    each = each_leaf (IsOfAlternative g) s.built.under s.at;
    inside = λ h. each_leaf IsInner s.built.under s.at;
  }

  acted_adds : (a : Action) (s : State) → Adds (λ w. w ≡ []) true s (acted g a s)
  unfolding acted
  acted_adds a s = record {
    label = refl;
    new = [];
    made = refl;
    more = sym (append-nil (children s.built.under));
    each = λ w. w;
    inside = λ h w. w;
  }

  then_adds : (P Q R : List Child → Type 0) (a b c : Bool) (s : State) (r : Step) (next_step : State → Step)
      → ((xs ys : List Child) → P xs → Q ys → R (xs ++ ys)) → (c ≡ true → (a ≡ true) × (b ≡ true))
      → After (Adds P a s) r → ((s' : State) → After (Adds Q b s') (next_step s')) → After (Adds R c s) (and_then r next_step)
  then_adds P Q R a b c s (Err stop) next_step joins allows m n = tt
  then_adds P Q R a b c s (Ok s') next_step joins allows m n =
      after_same (next_step s') (Adds Q b s') (Adds R c s) (λ s'' y. further P Q R a b c s s' s'' joins allows m y) (n s')

  end_adds : (allowed : Bool) (s : State) → After (Adds (λ w. w ≡ []) allowed s) (at_end s)
  unfolding at_end
  end_adds allowed s = after_if (Adds (λ w. w ≡ []) allowed s) (s.at == length s.toks) _ _ (still (λ w. w ≡ []) allowed s refl) tt

  enter_adds : (depth : ℕ) (b : Bool) (s : State) → After (Adds (λ w. w ≡ []) true s) (enter depth b s)
  unfolding enter
  enter_adds depth b s =
      after_if (Adds (λ w. w ≡ []) true s) b _ _
      (after_if (Adds (λ w. w ≡ []) true s) (nat_lt depth deepest) _ _ (still (λ w. w ≡ []) true s refl) tt) tt

  behind_none : (R : List Child → Type 0) (xs ys : List Child) → xs ≡ [] → R ys → R (xs ++ ys)
  behind_none R [] ys e h = h
  behind_none R (x ∷ xs) ys e h = absurd (cc)

  module _ (below : ℕ → Goal → State → Step)
      (adds : (depth : ℕ) (goal : Goal) (s : State) → After (Adds (OfGoal goal) (goal_all has_no_declaring goal) s) (below depth goal s)) where
    step_adds : (item : Item) (depth : ℕ) (s : State) → After (Adds (AreOfItem item) (parts_all has_no_declaring item) s) (step g below depth item s)
    unfolding take_one
    step_adds (one classes) depth s =
        after_if (Adds (AreOfItem (one classes)) true s) (nat_lt s.at (length s.toks) && among classes (class_at g s s.at)) _ _ (token_adds true s) tt
    step_adds (part p) depth s = adds depth (produce p) s
    step_adds end_of_text depth s = end_adds true s
    step_adds (act a) depth s = acted_adds a s
    step_adds (a · b) depth s =
        then_adds (AreOfItem a) (AreOfItem b) (AreOfItem (a · b)) (parts_all has_no_declaring a) (parts_all has_no_declaring b) (parts_all has_no_declaring (a · b)) s
        (step g below depth a s) (step g below depth b) (λ xs ys x y. (xs, ys, refl, x, y))
        (λ h. and_parts (parts_all has_no_declaring a) (parts_all has_no_declaring b) h) (step_adds a depth s) (λ s'. step_adds b depth s')
    step_adds (choice a b) depth s =
        after_if (Adds (AreOfItem (choice a b)) (parts_all has_no_declaring (choice a b)) s) (may g own a s) _ _
        (after_same (step g below depth a s) (Adds (AreOfItem a) (parts_all has_no_declaring a) s) (Adds (AreOfItem (choice a b)) (parts_all has_no_declaring (choice a b)) s)
        (λ s' x. same (AreOfItem a) (AreOfItem (choice a b)) (parts_all has_no_declaring a) (parts_all has_no_declaring (choice a b)) s s' (λ xs h. inl h)
        (λ h. (and_parts (parts_all has_no_declaring a) (parts_all has_no_declaring b) h).0) x) (step_adds a depth s))
        (after_if (Adds (AreOfItem (choice a b)) (parts_all has_no_declaring (choice a b)) s) (may g own b s) _ _
        (after_same (step g below depth b s) (Adds (AreOfItem b) (parts_all has_no_declaring b) s) (Adds (AreOfItem (choice a b)) (parts_all has_no_declaring (choice a b)) s)
        (λ s' x. same (AreOfItem b) (AreOfItem (choice a b)) (parts_all has_no_declaring b) (parts_all has_no_declaring (choice a b)) s s' (λ xs h. inr h)
        (λ h. (and_parts (parts_all has_no_declaring a) (parts_all has_no_declaring b) h).1) x) (step_adds b depth s))
        tt)
    step_adds (maybe a) depth s =
        after_if (Adds (AreOfItem (maybe a)) (parts_all has_no_declaring a) s) (may g own a s) _ _
        (after_same (step g below depth a s) (Adds (AreOfItem a) (parts_all has_no_declaring a) s) (Adds (AreOfItem (maybe a)) (parts_all has_no_declaring a) s)
        (λ s' x. same (AreOfItem a) (AreOfItem (maybe a)) (parts_all has_no_declaring a) (parts_all has_no_declaring a) s s' (λ xs h. inl h) (λ h. h) x) (step_adds a depth s))
        (still (AreOfItem (maybe a)) (parts_all has_no_declaring a) s (inr refl))
    step_adds (many t a) depth s =
        after_if (Adds (AreOfItem (many t a)) (parts_all has_no_declaring a) s) (may g t a s) _ _
        (then_adds (AreOfItem a) (AreOfItem (many t a)) (AreOfItem (many t a)) (parts_all has_no_declaring a) (parts_all has_no_declaring a) (parts_all has_no_declaring a) s
        (step g below depth a s) (below depth (repeat t a)) (λ xs ys x y. (suc y.0, (xs, ys, refl, x, y.1))) (λ h. (h, h))
        (step_adds a depth s) (λ s'. adds depth (repeat t a) s'))
        (still (AreOfItem (many t a)) (parts_all has_no_declaring a) s (0, refl))
    step_adds (deep a) depth s =
        then_adds (λ w. w ≡ []) (AreOfItem a) (AreOfItem a) true (parts_all has_no_declaring a) (parts_all has_no_declaring a) s
        (enter depth (may g own a s) s) (step g below (depth + 1) a) (behind_none (AreOfItem a)) (λ h. (refl, h))
        (enter_adds depth (may g own a s) s) (λ s'. step_adds a (depth + 1) s')

  -- ---- What a production adds

  -- a node that stands for a production
  record IsChild (p : Production) (n : Node) : Type 0 where
    stands : StandsFor p n.label.production
    own : IsOfAlternative g n.label n.under
    below : EachNode (IsOfAlternative g) n.under
    inside : has_no_declaring p ≡ true → IsInner n.label n.under × EachNode IsInner n.under

  abbrev IsLone : Type 0
  IsLone = (p : Production) → list_all (stays_inner p) (g.table p) ≡ true

  lone_child : IsLone → (p : Production) (f : Forest) (n : Node) → n.label.production ≡ p → n.under ≡ f → collapses p ≡ true → IsChild p n → IsChild p (lone f n)
  lone_child table p none n named e c x = x
  lone_child table p (token i rest) n named e c x = x
  lone_child table p (node l first under none) n named e c x =
      let each : EachNode (IsOfAlternative g) (node l first under none) = subst (EachNode (IsOfAlternative g)) e x.below in
      let own_ = x.own in
      let at : slice_get (g.table p) own_.number ≡ Some own_.alternative = ap (λ (q : Production). slice_get (g.table q) own_.number) (sym named) ∙ own_.is_one in
      let row = row_at (stays_inner p) (g.table p) own_.number own_.alternative (table p) at in
      let lone_ok = implied (collapses p) (is_lone_operand own_.alternative.body) (and_parts (passes_on has_no_declaring p own_.alternative.body) _ row).1 c in
      record {
        stands = inr (c, lone_operand own_.alternative.body (children n.under) l.production lone_ok own_.own (ap children e));
        own = each.0;
        below = each.1;
        inside = λ h. let inner_each : EachNode IsInner (node l first under none) = subst (EachNode IsInner) e (x.inside h).1 in (inner_each.0, inner_each.1);
      }
  lone_child table p (node l first under (token i rest)) n named e c x = x
  lone_child table p (node l first under (node m second list rest)) n named e c x = x

  finished_child : IsLone → (p : Production) (n : Node) → n.label.production ≡ p → IsChild p n → IsChild p (finished p n)
  finished_child table p n named x = by (collapses p) refl
    where
      by : (c : Bool) → collapses p ≡ c → IsChild p (if c then collapsed n else n)
      by true e = lone_child table p n.under n named refl e x
      by false e = x

  node_child : (p : Production) (m : ℕ) (a : Alternative) (s s' : State) → slice_get (g.table p) m ≡ Some a → stays_inner p a ≡ true
      → Adds (AreOfItem a.body) (parts_all has_no_declaring a.body) (opened p (m + 1) s) s' → IsChild p s'.built
  unfolding opened
  node_child p m a s s' at stays x =
      let named : s'.built.label.production ≡ p = ap (λ (l : Label). l.production) x.label in
      let inside_ok = (and_parts (passes_on has_no_declaring p a.body) _ stays).0 in
      record {
        stands = inl named;
        own = record {
          number = m;
          numbered = ap (λ (l : Label). l.alternative) x.label;
          alternative = a;
          is_one = ap (λ (q : Production). slice_get (g.table q) m) named ∙ at;
          own = subst (AreOfItem a.body) (sym x.more) x.made;
          inner = λ h. x.inside (implied (has_no_declaring p) (parts_all has_no_declaring a.body) inside_ok (sym (ap has_no_declaring named) ∙ h)) tt;
        };
        below = x.each tt;
        inside = λ h. (ap has_no_declaring named ∙ h, x.inside (implied (has_no_declaring p) (parts_all has_no_declaring a.body) inside_ok h) tt);
      }

  node_named : (p : Production) (m : ℕ) (a : Alternative) (s s' : State) → Adds (AreOfItem a.body) (parts_all has_no_declaring a.body) (opened p (m + 1) s) s'
      → s'.built.label.production ≡ p
  unfolding opened
  node_named p m a s s' x = ap (λ (l : Label). l.production) x.label

  closed_adds : (p : Production) (s s' : State) → IsChild p (finished p s'.built) → Adds (AreOfItem (part p)) (has_no_declaring p) s (closed p s s')
  unfolding closed
  closed_adds p s s' x = record {
    label = refl;
    new = a_node (finished p s'.built).label.production ∷ [];
    made = ((finished p s'.built).label.production, refl, x.stands);
    more = children_inner s.built.under (finished p s'.built);
    each = λ w. each_inner (IsOfAlternative g) s.built.under (finished p s'.built) w x.own x.below;
    inside = λ h w. each_inner IsInner s.built.under (finished p s'.built) w (x.inside h).0 (x.inside h).1;
  }

  module _ (inner_table : (p : Production) → list_all (stays_inner p) (g.table p) ≡ true) where
    module _ (below : ℕ → Goal → State → Step)
        (adds : (depth : ℕ) (goal : Goal) (s : State) → After (Adds (OfGoal goal) (goal_all has_no_declaring goal) s) (below depth goal s)) where
      alternative_adds : (depth : ℕ) (p : Production) (m : ℕ) (a : Alternative) (s : State) → slice_get (g.table p) m ≡ Some a → stays_inner p a ≡ true
          → After (Adds (AreOfItem (part p)) (has_no_declaring p) s) (alternative g below depth p (m + 1) a.body s)
      alternative_adds depth p m a s at stays =
          by (step g below depth a.body (opened p (m + 1) s)) (step_adds below adds a.body depth (opened p (m + 1) s))
        where
          by : (r : Step) → After (Adds (AreOfItem a.body) (parts_all has_no_declaring a.body) (opened p (m + 1) s)) r
              → After (Adds (AreOfItem (part p)) (has_no_declaring p) s) (and_then r (λ s'. Ok (closed p s s')))
          by (Err stop) x = tt
          by (Ok s') x = closed_adds p s s' (finished_child inner_table p s'.built (node_named p m a s s' x) (node_child p m a s s' at stays x))

      pick_adds : (depth : ℕ) (p : Production) (m : ℕ) (alternatives : List Alternative) (s : State)
          → ((k : ℕ) → slice_get alternatives k ≡ slice_get (g.table p) (m + k)) → list_all (stays_inner p) alternatives ≡ true
          → After (Adds (AreOfItem (part p)) (has_no_declaring p) s) (pick g below depth p (m + 1) alternatives s)
      pick_adds depth p m [] s here stay = tt
      pick_adds depth p m (a ∷ more) s here stay =
          let both = and_parts (stays_inner p a) (list_all (stays_inner p) more) stay in
          let first : m + 0 ≡ m = omega arith in
          after_if (Adds (AreOfItem (part p)) (has_no_declaring p) s) (may g a.test a.body s) _ _
          (alternative_adds depth p m a s (sym (here 0 ∙ ap (λ (k : ℕ). slice_get (g.table p) k) first)) both.0)
          (pick_adds depth p (m + 1) more s (λ k. here (suc k) ∙ (let e : m + suc k ≡ m + 1 + k = omega arith in ap (λ (j : ℕ). slice_get (g.table p) j) e)) both.1)

      run_adds : (depth : ℕ) (goal : Goal) (s : State) → After (Adds (OfGoal goal) (goal_all has_no_declaring goal) s) (run g below depth goal s)
      run_adds depth (produce p) s = pick_adds depth p 0 (g.table p) s (λ k. let e : k ≡ 0 + k = omega arith in ap (λ (j : ℕ). slice_get (g.table p) j) e) (inner_table p)
      run_adds depth (repeat t a) s = step_adds below adds (many t a) depth s

    within_adds : (fuel depth : ℕ) (goal : Goal) (s : State) → After (Adds (OfGoal goal) (goal_all has_no_declaring goal) s) (read_within g fuel depth goal s)
    unfolding read_within
    within_adds zero depth goal s = tt
    within_adds (suc fuel) depth goal s = run_adds (read_within g fuel) (within_adds fuel) depth goal s

    whole_adds : (toks : List Token)
        → After (Adds (AreOfItem (part TranslationUnit)) (has_no_declaring TranslationUnit) (at_first toks)) (whole g 0 (produce TranslationUnit) (at_first toks))
    unfolding whole
    whole_adds toks = within_adds (steps_for (produce TranslationUnit) (at_first toks)) 0 (produce TranslationUnit) (at_first toks)

  -- the only child of the node around the unit
  lone_whole : (f : Forest) (b n : Node) (q : Production) → children f ≡ a_node q ∷ [] → q ≡ TranslationUnit → EachNode (IsOfAlternative g) f → lone f b ≡ n
      → (n.label.production ≡ TranslationUnit) × EachNode (IsOfAlternative g) (whole_of n)
  lone_whole none b n q e unit each same = absurd (cc)
  lone_whole (token i rest) b n q e unit each same = absurd (cc)
  lone_whole (node l first under none) b n q e unit each same =
      let is_q : l.production ≡ q = cc in
      subst (λ (m : Node). (m.label.production ≡ TranslationUnit) × EachNode (IsOfAlternative g) (whole_of m)) same (is_q ∙ unit, (each.0, each.1, tt))
  lone_whole (node l first under (token i rest)) b n q e unit each same = absurd (cc)
  lone_whole (node l first under (node m second list rest)) b n q e unit each same = absurd (cc)

  unit_alone : (q : Production) → StandsFor TranslationUnit q → q ≡ TranslationUnit
  unit_alone q (inl same) = same
  unit_alone q (inr collapsed) = absurd (let no_ = collapsed.0 in false≢true no_)

  tree_each : (toks : List Token) (r : Step) (tree : Node) → After (Adds (AreOfItem (part TranslationUnit)) (has_no_declaring TranslationUnit) (at_first toks)) r
      → tree_of r ≡ Ok tree → (tree.label.production ≡ TranslationUnit) × EachNode (IsOfAlternative g) (whole_of tree)
  tree_each toks (Ok s) tree x e =
      let same_tree : lone s.built.under s.built ≡ tree = cc in
      let made = x.made in
      lone_whole s.built.under s.built tree made.0 (x.more ∙ made.1) (unit_alone made.0 made.2) (x.each tt) same_tree
  tree_each toks (Err stop) tree x e = absurd (cc)

pub children_of_alternatives : ChildrenAreOfAlternatives
children_of_alternatives s toks tree e =
    tree_each (iso s) toks (whole (iso s) 0 (produce TranslationUnit) (at_first toks)) tree (whole_adds (iso s) (inner_at s) toks) e

-- .. and of each below the unit
pub each_below : (s : Edition) (toks : List Token) (tree : Node) → read_of (iso s) toks ≡ Ok tree → EachNode (IsOfAlternative (iso s)) tree.under
each_below s toks tree e = let whole_ = (children_of_alternatives s toks tree e).1 in whole_.1
