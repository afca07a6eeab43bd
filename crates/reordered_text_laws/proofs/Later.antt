-- What is read in so many steps is read in more of them.
use Rattle.std.proofs.Common.{ℕ, suc, zero, ◌+◌, ◌-◌, ◌≤◌, ◌≡◌, Bool, true, false, ◌&&◌, if◌then◌else◌, List, [], ◌∷◌, Option, None, Some, nat_lt, refl, sym, subst, arith}
use Rattle.c99_tree.specs.declared.production.Production.{Production}
use Rattle.c99_grammar.specs.declared.classes.Class.{Class}
use Rattle.c99_grammar.specs.Items.{Item, one, part, end_of_text, act, ◌·◌, choice, maybe, many, deep, own, Alternative}
use Rattle.c99_grammar.specs.Standard.{Grammar}
use Rattle.c99_read.specs.Reading.{Goal, produce, repeat, deepest}
use Rattle.reordered_text_laws.specs.ByClasses.{Taken, then_read, behind_children, as_child, may_read, read_one, read_end, read_item, read_first, read_goal, read_by_classes}

-- the second is what the first gives, if it gives something
abbrev pub Later : Option Taken → Option Taken → Type 0
Later None r = Unit {0}
Later (Some t) r = r ≡ Some t

later_same : (r : Option Taken) → Later r r
later_same None = tt
later_same (Some t) = refl

later_if : (c : Bool) (r r' q q' : Option Taken) → Later r r' → Later q q' → Later (if c then r else q) (if c then r' else q')
later_if true r r' q q' m n = m
later_if false r r' q q' m n = n

later_behind : (f : Option Taken → Option Taken) (r r' : Option Taken) → f None ≡ None → Later r r' → Later (f r) (f r')
later_behind f None r' e m = subst (λ x. Later x (f r')) (sym e) tt
later_behind f (Some t) r' e m = subst (λ x. Later (f (Some t)) (f x)) (sym m) (later_same (f (Some t)))

later_then : (r r' : Option Taken) (f f' : List ℕ → Option Taken) → Later r r' → ((ys : List ℕ) → Later (f ys) (f' ys)) → Later (then_read r f) (then_read r' f')
later_then None r' f f' m n = tt
later_then (Some t) r' f f' m n =
    subst (λ x. Later (behind_children t.read (f t.left)) (then_read x f')) (sym m) (later_behind (behind_children t.read) (f t.left) (f' t.left) refl (n t.left))

module _ (g : Grammar) (class_of : ℕ → Class) where
  module _ (below below' : ℕ → Goal → List ℕ → Option Taken) (later : (depth : ℕ) (goal : Goal) (xs : List ℕ) → Later (below depth goal xs) (below' depth goal xs)) where
    pub later_item : (item : Item) (depth : ℕ) (xs : List ℕ) → Later (read_item g class_of below depth item xs) (read_item g class_of below' depth item xs)
    later_item (one classes) depth xs = later_same (read_one g class_of classes xs)
    later_item (part p) depth xs = later depth (produce p) xs
    later_item end_of_text depth xs = later_same (read_end g class_of xs)
    later_item (act a) depth xs = refl
    later_item (a · b) depth xs = later_then _ _ (read_item g class_of below depth b) (read_item g class_of below' depth b) (later_item a depth xs) (λ ys. later_item b depth ys)
    later_item (choice a b) depth xs =
        later_if (may_read g class_of own a xs) _ _ _ _ (later_item a depth xs) (later_if (may_read g class_of own b xs) _ _ _ _ (later_item b depth xs) tt)
    later_item (maybe a) depth xs = later_if (may_read g class_of own a xs) _ _ _ _ (later_item a depth xs) refl
    later_item (many t a) depth xs =
        later_if (may_read g class_of t a xs) _ _ _ _
        (later_then _ _ (below depth (repeat t a)) (below' depth (repeat t a)) (later_item a depth xs) (λ ys. later depth (repeat t a) ys)) refl
    later_item (deep a) depth xs = later_if (may_read g class_of own a xs && nat_lt depth deepest) _ _ _ _ (later_item a (depth + 1) xs) tt

    later_first : (p : Production) (alternatives : List Alternative) (depth n : ℕ) (xs : List ℕ)
        → Later (read_first g class_of below depth p n alternatives xs) (read_first g class_of below' depth p n alternatives xs)
    later_first p [] depth n xs = tt
    later_first p (a ∷ more) depth n xs =
        later_if (may_read g class_of a.test a.body xs) _ _ _ _ (later_behind (as_child p n) _ _ refl (later_item a.body depth xs)) (later_first p more depth (n + 1) xs)

    later_goal : (depth : ℕ) (goal : Goal) (xs : List ℕ) → Later (read_goal g class_of below depth goal xs) (read_goal g class_of below' depth goal xs)
    later_goal depth (produce p) xs = later_first p (g.table p) depth 1 xs
    later_goal depth (repeat t a) xs = later_item (many t a) depth xs

  pub later_reading : (fuel depth : ℕ) (goal : Goal) (xs : List ℕ) → Later (read_by_classes g class_of fuel depth goal xs) (read_by_classes g class_of (suc fuel) depth goal xs)
  unfolding read_by_classes
  later_reading zero depth goal xs = tt
  later_reading (suc fuel) depth goal xs = later_goal (read_by_classes g class_of fuel) (read_by_classes g class_of (suc fuel)) (later_reading fuel) depth goal xs

  pub later_is : (r r' : Option Taken) (t : Taken) → Later r r' → r ≡ Some t → r' ≡ Some t
  later_is r r' t m e = subst (λ x. Later x r') e m

  -- one step more
  pub one_more : (fuel depth : ℕ) (goal : Goal) (xs : List ℕ) (t : Taken) → read_by_classes g class_of fuel depth goal xs ≡ Some t
      → read_by_classes g class_of (suc fuel) depth goal xs ≡ Some t
  one_more fuel depth goal xs t e = later_is _ _ t (later_reading fuel depth goal xs) e

  abbrev reads : ℕ → ℕ → Goal → List ℕ → Option Taken
  reads = read_by_classes g class_of

  abbrev item_read : ℕ → ℕ → Item → List ℕ → Option Taken
  item_read fuel = read_item g class_of (reads fuel)

  steps_on : (d fuel depth : ℕ) (goal : Goal) (xs : List ℕ) (t : Taken) → reads fuel depth goal xs ≡ Some t → reads (fuel + d) depth goal xs ≡ Some t
  steps_on zero fuel depth goal xs t e = subst (λ n. reads n depth goal xs ≡ Some t) (let same : fuel ≡ fuel + 0 = omega arith in same) e
  steps_on (suc d) fuel depth goal xs t e =
      subst (λ n. reads n depth goal xs ≡ Some t) (let same : suc (fuel + d) ≡ fuel + suc d = omega arith in same)
      (one_more (fuel + d) depth goal xs t (steps_on d fuel depth goal xs t e))

  -- more steps read the same
  pub goal_on : (n m depth : ℕ) (goal : Goal) (xs : List ℕ) (t : Taken) → n ≤ m → reads n depth goal xs ≡ Some t → reads m depth goal xs ≡ Some t
  goal_on n m depth goal xs t le e =
      subst (λ k. reads k depth goal xs ≡ Some t) (let same : n + (m - n) ≡ m = omega (arith, le) in same) (steps_on (m - n) n depth goal xs t e)

  found_later : (r r' : Option Taken) → ((t : Taken) → r ≡ Some t → r' ≡ Some t) → Later r r'
  found_later None r' f = tt
  found_later (Some t) r' f = f t refl

  pub item_on : (n m depth : ℕ) (item : Item) (xs : List ℕ) (t : Taken) → n ≤ m → item_read n depth item xs ≡ Some t → item_read m depth item xs ≡ Some t
  item_on n m depth item xs t le e =
      later_is (item_read n depth item xs) (item_read m depth item xs) t
      (later_item (reads n) (reads m) (λ depth' goal ys. found_later (reads n depth' goal ys) (reads m depth' goal ys) (λ u h. goal_on n m depth' goal ys u le h)) item depth xs) e
