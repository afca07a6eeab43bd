-- Tests of the lists of a tree, of the children of lists, and where the first list of some children ends.
use Rattle.std.proofs.Common.{ℕ, ◌+◌, ◌<◌, ◌≤◌, ◌≡◌, Bool, true, false, ◌&&◌, ◌||◌, not, if◌then◌else◌, List, [], ◌∷◌, Option, None, Some, inl, inr, refl, sym, ap, ◌∙◌, arith}
use Rattle.std.specs.Option.{option_or}
use Rattle.std.proofs.lemmas.Bool.{false≢true, and_parts, and_from}
use Rattle.std.proofs.lemmas.Option.{same_Some}
use Rattle.c99_tree.specs.Tree.{Forest, none, token, node, Node}
use Rattle.c99_tree.specs.declared.production.Label.{Label}
use Rattle.c99_tree.specs.declared.production.Production.{Production}
use Rattle.c99_tree.specs.declared.production.Production.TheVariants.{Param, Assign, Cond, Lor, Land, Bor, Bxor, Band, Equal, Relate, Shift, Add, Mul, Cast, Unary, Primary, Post}
use Rattle.c_types.specs.Trees.{is_at, is_list, first_list, last_token}
use Rattle.tree_laws.specs.TreesOfTexts.{token_count, AreFrom}
use Rattle.reordered_tree_laws.specs.Premises.{is_item_production, lists_pass}
use Rattle.reordered_tree_laws.specs.Reordered.{nodes_in, is_among}
use Rattle.template_meaning.specs.Children.{Child, a_token, a_node, is_operand, StandsFor, EachNode}
use Rattle.template_meaning.proofs.FitTable.{not_these, all_nodes}
use Rattle.template_meaning.proofs.Forms.{is_param, are_items, are_more}
use Rattle.template_meaning.proofs.Parens.{begins, Begins}

-- ---- Children that pass

pub item_part : (q : Production) → StandsFor Assign q → is_item_production q ≡ true
item_part q (inl same) = ap is_item_production same
item_part q (inr c) = operand q c.1
  where
    operand : (q : Production) → is_operand q ≡ true → is_item_production q ≡ true
    operand Assign e = refl
    operand Cond e = refl
    operand Lor e = refl
    operand Land e = refl
    operand Bor e = refl
    operand Bxor e = refl
    operand Band e = refl
    operand Equal e = refl
    operand Relate e = refl
    operand Shift e = refl
    operand Add e = refl
    operand Mul e = refl
    operand Cast e = refl
    operand Unary e = refl
    operand Primary e = refl
    operand _ e = absurd (false≢true e)

pub no_param : (q : Production) → StandsFor Assign q → not_these is_param q ≡ true
no_param q (inl same) = ap (not_these is_param) same
no_param q (inr c) = operand q c.1
  where
    operand : (q : Production) → is_operand q ≡ true → not_these is_param q ≡ true
    operand Param e = absurd (false≢true e)
    operand _ e = refl

pub param_item : (q : Production) → is_param q ≡ true → is_item_production q ≡ true
param_item Param e = refl
param_item _ e = absurd (false≢true e)

mutual
  pub items_nodes : (dots : Bool) (ok : Production → Bool) (w : List Child) → are_items dots ok w ≡ true → all_nodes ok w ≡ true
  items_nodes dots ok [] h = absurd (false≢true h)
  items_nodes dots ok (a_token ∷ w) h = absurd (false≢true h)
  items_nodes dots ok (a_node q ∷ w) h =
      let parts = and_parts (ok q) (are_more dots ok w) h in
      and_from (ok q) (all_nodes ok w) parts.0 (more_nodes dots ok w parts.1)

  more_nodes : (dots : Bool) (ok : Production → Bool) (w : List Child) → are_more dots ok w ≡ true → all_nodes ok w ≡ true
  more_nodes dots ok [] h = refl
  more_nodes dots ok (a_node q ∷ w) h = absurd (false≢true h)
  more_nodes dots ok (a_token ∷ []) h = refl
  more_nodes dots ok (a_token ∷ (a_token ∷ [])) h = refl
  more_nodes dots ok (a_token ∷ (a_token ∷ (a_token ∷ w))) h = absurd (false≢true (sym (none_of dots) ∙ h))
    where
      none_of : (c : Bool) → (c && false) ≡ false
      none_of true = refl
      none_of false = refl
  more_nodes dots ok (a_token ∷ (a_token ∷ (a_node q ∷ w))) h = absurd (false≢true (sym (none_of dots) ∙ h))
    where
      none_of : (c : Bool) → (c && false) ≡ false
      none_of true = refl
      none_of false = refl
  more_nodes dots ok (a_token ∷ (a_node q ∷ w)) h =
      let parts = and_parts (ok q) (are_more dots ok w) h in
      and_from (ok q) (all_nodes ok w) parts.0 (more_nodes dots ok w parts.1)

pub nodes_pass : (ok ok' : Production → Bool) → ((q : Production) → ok q ≡ true → ok' q ≡ true) → (w : List Child) → all_nodes ok w ≡ true → all_nodes ok' w ≡ true
nodes_pass ok ok' f [] h = refl
nodes_pass ok ok' f (a_token ∷ w) h = nodes_pass ok ok' f w h
nodes_pass ok ok' f (a_node q ∷ w) h =
    let parts = and_parts (ok q) (all_nodes ok w) h in and_from (ok' q) (all_nodes ok' w) (f q parts.0) (nodes_pass ok ok' f w parts.1)

-- ---- Tests of lists

-- the children of each child pass
abbrev pub NodesTest : (List Node → Bool) → Forest → Type 0
NodesTest test none = Unit {0}
NodesTest test (token i rest) = NodesTest test rest
NodesTest test (node m first under rest) = (test (nodes_in under) ≡ true) × NodesTest test rest

module _ (lists_ : ℕ → Bool) (test : List Node → Bool) where
  abbrev pub IsGood : Label → Forest → Type 0
  IsGood m under = is_among lists_ m under ≡ true → NodesTest test under

  pub passes : (f : Forest) (listed : Bool) → EachNode IsGood f → (listed ≡ true → NodesTest test f) → lists_pass lists_ test listed f ≡ true
  passes none listed good here = refl
  passes (token i rest) listed good here = passes rest listed good here
  passes (node m first under rest) listed good here =
      and_from (if listed then test (nodes_in under) else true) _ (by listed (λ e. (here e).0))
      (and_from (lists_pass lists_ test (not listed && is_among lists_ m under) under) _
      (passes under (not listed && is_among lists_ m under) good.1 (λ e. good.0 (and_parts (not listed) (is_among lists_ m under) e).1))
      (passes rest listed good.2 (λ e. (here e).1)))
    where
      by : (c : Bool) → (c ≡ true → test (nodes_in under) ≡ true) → (if c then test (nodes_in under) else true) ≡ true
      by true g = g refl
      by false g = refl

-- ---- The first list of some children

last_in : (f : Forest) (a k lo hi : ℕ) → AreFrom a f → lo ≤ a → a + token_count f ≤ hi → (lo ≤ k) × (k < hi) → (lo ≤ last_token f k) × (last_token f k < hi)
last_in none a k lo hi w low high h = h
last_in (token i rest) a k lo hi w low high h = last_in rest (a + 1) i lo hi w.1 (omega (arith, low)) (omega (arith, high)) (omega (arith, w.0, low), omega (arith, w.0, high))
last_in (node m first under rest) a k lo hi w low high h =
    last_in rest (a + token_count under) (last_token under k) lo hi w.2 (omega (arith, low)) (omega (arith, high)) (last_in under a k lo hi w.1 low (omega (arith, high)) h)

list_last : (f : Forest) (a lo hi : ℕ) → begins f ≡ true → AreFrom a f → lo ≤ a → a + token_count f ≤ hi → (lo ≤ last_token f 0) × (last_token f 0 < hi)
list_last none a lo hi b w low high = absurd (false≢true b)
list_last (token i rest) a lo hi b w low high = last_in rest (a + 1) i lo hi w.1 (omega (arith, low)) (omega (arith, high)) (omega (arith, w.0, low), omega (arith, w.0, high))
list_last (node m first under rest) a lo hi b w low high = absurd (false≢true b)

pub first_range : (f : Forest) (a found lo hi : ℕ) → EachNode Begins f → AreFrom a f → lo ≤ a → a + token_count f ≤ hi → first_list f ≡ Some found → (lo ≤ found) × (found < hi)
first_range none a found lo hi each w low high e = absurd (cc)
first_range (token i rest) a found lo hi each w low high e = first_range rest (a + 1) found lo hi each w.1 (omega (arith, low)) (omega (arith, high)) e
first_range (node m first under rest) a found lo hi each w low high e =
    by (is_list m) (first_list under) refl e
    (λ g. first_range under a found lo hi each.1 w.1 low (omega (arith, high)) g)
    (λ g. first_range rest (a + token_count under) found lo hi each.2 w.2 (omega (arith, low)) (omega (arith, high)) g)
  where
    parenthesised : (b : Bool) → is_list m ≡ true → (b || is_list m) ≡ true
    parenthesised true h = refl
    parenthesised false h = h

    here : is_list m ≡ true → last_token under 0 ≡ found → (lo ≤ found) × (found < hi)
    here h same =
        let r = list_last under a lo hi (each.0 (parenthesised (is_at m Post 2) h)) w.1 low (omega (arith, high)) in
        (omega (arith, r.0, same), omega (arith, r.1, same))

    by : (c : Bool) (o : Option ℕ) → is_list m ≡ c → (if c then Some (last_token under 0) else option_or o (first_list rest)) ≡ Some found → (o ≡ Some found → (lo ≤ found) × (found < hi))
        → (first_list rest ≡ Some found → (lo ≤ found) × (found < hi)) → (lo ≤ found) × (found < hi)
    by true o h e g k = here h (same_Some (last_token under 0) found e)
    by false None h e g k = k e
    by false (Some j) h e g k = g e
