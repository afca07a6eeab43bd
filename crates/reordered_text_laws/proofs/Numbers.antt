-- Tokens are read alike whatever their numbers are.
use Rattle.std.proofs.Common.{ℕ, suc, zero, ◌+◌, ◌≡◌, Bool, true, false, ◌&&◌, if◌then◌else◌, List, [], ◌∷◌, map, Option, None, Some, nat_lt, refl, sym, ap, ◌∙◌}
use Rattle.c99_tree.specs.Tree.{Forest, none, token, node, Node, node_of, inner, put, lone, collapsed}
use Rattle.c99_tree.specs.declared.production.Production.{Production}
use Rattle.c99_grammar.specs.declared.classes.Class.{Class}
use Rattle.c99_grammar.specs.Classes.{among}
use Rattle.c99_grammar.specs.Items.{Item, one, part, end_of_text, act, ◌·◌, choice, maybe, many, deep, own, Test, Alternative}
use Rattle.c99_grammar.specs.Standard.{Grammar}
use Rattle.c99_read.specs.Reading.{Goal, produce, repeat, deepest}
use Rattle.c99_read.specs.State.{collapses, finished}
use Rattle.reordered_text_laws.specs.ByClasses.{joined, Taken, taken, behind_children, then_read, child_of, as_child, may_read, read_one, read_end, read_item, read_first, read_goal, read_by_classes}
use Rattle.reordered_text_laws.specs.ReorderedTexts.{renumbered, renumbered_reading, NumbersDoNotMatter}

module _ (m : ℕ → ℕ) where
  renumbered-joined : (a b : Forest) → renumbered m (joined a b) ≡ joined (renumbered m a) (renumbered m b)
  renumbered-joined none b = refl
  renumbered-joined (token i rest) b = ap (token (m i)) (renumbered-joined rest b)
  renumbered-joined (node l first under rest) b = ap (node l first (renumbered m under)) (renumbered-joined rest b)

  abbrev renumbered_node : Node → Node
  renumbered_node n = node_of n.label n.first (renumbered m n.under)

  lone-renumbered : (f : Forest) (n k : Node) → renumbered_node n ≡ k → renumbered_node (lone f n) ≡ lone (renumbered m f) k
  lone-renumbered none n k e = e
  lone-renumbered (token i rest) n k e = e
  lone-renumbered (node l first under none) n k e = refl
  lone-renumbered (node l first under (token i rest)) n k e = e
  lone-renumbered (node l first under (node j second below rest)) n k e = e

  finished-renumbered : (p : Production) (n : Node) → renumbered_node (finished p n) ≡ finished p (renumbered_node n)
  finished-renumbered p n = by (collapses p)
    where
      by : (c : Bool) → renumbered_node (if c then collapsed n else n) ≡ (if c then collapsed (renumbered_node n) else renumbered_node n)
      by true = lone-renumbered n.under n (renumbered_node n) refl
      by false = refl

  child-renumbered : (p : Production) (n : ℕ) (f : Forest) → renumbered m (child_of p n f) ≡ child_of p n (renumbered m f)
  child-renumbered p n f = ap (λ x. put none (inner x)) (finished-renumbered p (node_of (record { production = p; alternative = n }) 0 f))

  as_child-renumbered : (p : Production) (n : ℕ) (r : Option Taken) → as_child p n (renumbered_reading m r) ≡ renumbered_reading m (as_child p n r)
  as_child-renumbered p n None = refl
  as_child-renumbered p n (Some t) = ap (λ f. Some (taken f (map m t.left))) (sym (child-renumbered p n t.read))

  behind-renumbered : (f : Forest) (r : Option Taken) → behind_children (renumbered m f) (renumbered_reading m r) ≡ renumbered_reading m (behind_children f r)
  behind-renumbered f None = refl
  behind-renumbered f (Some t) = ap (λ k. Some (taken k (map m t.left))) (sym (renumbered-joined f t.read))

  if-renumbered : (c c' : Bool) (r q r' q' : Option Taken) → c ≡ c' → r ≡ renumbered_reading m r' → q ≡ renumbered_reading m q'
      → (if c then r else q) ≡ renumbered_reading m (if c' then r' else q')
  if-renumbered true c' r q r' q' e h k = h ∙ ap (λ b. renumbered_reading m (if b then r' else q')) e
  if-renumbered false c' r q r' q' e h k = k ∙ ap (λ b. renumbered_reading m (if b then r' else q')) e

  then-renumbered : (r r' : Option Taken) (f f' : List ℕ → Option Taken) → r ≡ renumbered_reading m r' → ((ys : List ℕ) → f (map m ys) ≡ renumbered_reading m (f' ys))
      → then_read r f ≡ renumbered_reading m (then_read r' f')
  then-renumbered r None f f' e h = ap (λ x. then_read x f) e
  then-renumbered r (Some t) f f' e h =
      ap (λ x. then_read x f) e ∙ (ap (behind_children (renumbered m t.read)) (h t.left) ∙ behind-renumbered t.read (f' t.left))

  module _ (g : Grammar) (class_of : ℕ → Class) where
    abbrev other : ℕ → Class
    other i = class_of (m i)

    may-same : (t : Test) (a : Item) (xs : List ℕ) → may_read g class_of t a (map m xs) ≡ may_read g other t a xs
    may-same t a [] = refl
    may-same t a (i ∷ []) = refl
    may-same t a (i ∷ j ∷ xs) = refl

    one-same : (L : List Class) (xs : List ℕ) → read_one g class_of L (map m xs) ≡ renumbered_reading m (read_one g other L xs)
    one-same L [] = refl
    one-same L (i ∷ xs) =
        if-renumbered (among L (class_of (m i))) (among L (class_of (m i))) (Some (taken (token (m i) none) (map m xs))) None (Some (taken (token i none) xs)) None refl refl refl

    end-same : (xs : List ℕ) → read_end g class_of (map m xs) ≡ renumbered_reading m (read_end g other xs)
    end-same [] = refl
    end-same (i ∷ xs) = refl

    module _ (below below' : ℕ → Goal → List ℕ → Option Taken)
        (same : (depth : ℕ) (goal : Goal) (xs : List ℕ) → below depth goal (map m xs) ≡ renumbered_reading m (below' depth goal xs)) where
      item-same : (item : Item) (depth : ℕ) (xs : List ℕ) → read_item g class_of below depth item (map m xs) ≡ renumbered_reading m (read_item g other below' depth item xs)
      item-same (one L) depth xs = one-same L xs
      item-same (part p) depth xs = same depth (produce p) xs
      item-same end_of_text depth xs = end-same xs
      item-same (act a) depth xs = refl
      item-same (a · b) depth xs =
          then-renumbered (read_item g class_of below depth a (map m xs)) (read_item g other below' depth a xs) (read_item g class_of below depth b) (read_item g other below' depth b)
          (item-same a depth xs) (λ ys. item-same b depth ys)
      item-same (choice a b) depth xs =
          if-renumbered (may_read g class_of own a (map m xs)) (may_read g other own a xs) (read_item g class_of below depth a (map m xs))
          (if may_read g class_of own b (map m xs) then read_item g class_of below depth b (map m xs) else None) (read_item g other below' depth a xs)
          (if may_read g other own b xs then read_item g other below' depth b xs else None) (may-same own a xs) (item-same a depth xs)
          (if-renumbered (may_read g class_of own b (map m xs)) (may_read g other own b xs) (read_item g class_of below depth b (map m xs)) None (read_item g other below' depth b xs) None
          (may-same own b xs) (item-same b depth xs) refl)
      item-same (maybe a) depth xs =
          if-renumbered (may_read g class_of own a (map m xs)) (may_read g other own a xs) (read_item g class_of below depth a (map m xs)) (Some (taken none (map m xs)))
          (read_item g other below' depth a xs) (Some (taken none xs)) (may-same own a xs) (item-same a depth xs) refl
      item-same (many t a) depth xs =
          if-renumbered (may_read g class_of t a (map m xs)) (may_read g other t a xs) (then_read (read_item g class_of below depth a (map m xs)) (below depth (repeat t a)))
          (Some (taken none (map m xs))) (then_read (read_item g other below' depth a xs) (below' depth (repeat t a))) (Some (taken none xs)) (may-same t a xs)
          (then-renumbered (read_item g class_of below depth a (map m xs)) (read_item g other below' depth a xs) (below depth (repeat t a)) (below' depth (repeat t a)) (item-same a depth xs)
          (λ ys. same depth (repeat t a) ys)) refl
      item-same (deep a) depth xs =
          if-renumbered (may_read g class_of own a (map m xs) && nat_lt depth deepest) (may_read g other own a xs && nat_lt depth deepest)
          (read_item g class_of below (depth + 1) a (map m xs)) None (read_item g other below' (depth + 1) a xs) None
          (ap (λ b. b && nat_lt depth deepest) (may-same own a xs)) (item-same a (depth + 1) xs) refl

      first-same : (p : Production) (alternatives : List Alternative) (depth n : ℕ) (xs : List ℕ)
          → read_first g class_of below depth p n alternatives (map m xs) ≡ renumbered_reading m (read_first g other below' depth p n alternatives xs)
      first-same p [] depth n xs = refl
      first-same p (a ∷ more) depth n xs =
          if-renumbered (may_read g class_of a.test a.body (map m xs)) (may_read g other a.test a.body xs) (as_child p n (read_item g class_of below depth a.body (map m xs)))
          (read_first g class_of below depth p (n + 1) more (map m xs)) (as_child p n (read_item g other below' depth a.body xs)) (read_first g other below' depth p (n + 1) more xs)
          (may-same a.test a.body xs)
          (ap (as_child p n) (item-same a.body depth xs) ∙ as_child-renumbered p n (read_item g other below' depth a.body xs))
          (first-same p more depth (n + 1) xs)

      goal-same : (depth : ℕ) (goal : Goal) (xs : List ℕ) → read_goal g class_of below depth goal (map m xs) ≡ renumbered_reading m (read_goal g other below' depth goal xs)
      goal-same depth (produce p) xs = first-same p (g.table p) depth 1 xs
      goal-same depth (repeat t a) xs = item-same (many t a) depth xs

    within-same : (fuel depth : ℕ) (goal : Goal) (xs : List ℕ)
        → read_by_classes g class_of fuel depth goal (map m xs) ≡ renumbered_reading m (read_by_classes g other fuel depth goal xs)
    unfolding read_by_classes
    within-same zero depth goal xs = refl
    within-same (suc fuel) depth goal xs = goal-same (read_by_classes g class_of fuel) (read_by_classes g other fuel) (within-same fuel) depth goal xs

pub numbers_do_not_matter : NumbersDoNotMatter
numbers_do_not_matter g class_of m fuel depth goal xs = within-same m g class_of fuel depth goal xs
