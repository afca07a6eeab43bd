-- A grammar with other keywords reads the same of the same classes.
use Rattle.std.proofs.Common.{ℕ, suc, zero, ◌+◌, ◌≡◌, Bool, ◌&&◌, ◌||◌, if◌then◌else◌, List, [], ◌∷◌, Option, None, Some, nat_lt, refl, ap, ◌∙◌}
use Rattle.c99_tree.specs.Tree.{none}
use Rattle.c99_tree.specs.declared.production.Production.{Production}
use Rattle.c99_grammar.specs.declared.classes.Class.{Class}
use Rattle.c99_grammar.specs.Items.{Item, one, part, end_of_text, act, ◌·◌, choice, maybe, many, deep, Test, own, otherwise, next, next_two, Ask, is, is_not, begins, either, Alternative}
use Rattle.c99_grammar.specs.Spellings.{Spelled}
use Rattle.c99_grammar.specs.Standard.{Grammar}
use Rattle.c99_grammar.specs.Starting.{is_passed, asks, holds, starts}
use Rattle.c99_read.specs.Reading.{Goal, produce, repeat, deepest}
use Rattle.reordered_text_laws.specs.ByClasses.{Taken, taken, then_read, behind_children, as_child, here, may_read, read_item, read_first, read_by_classes}
use Rattle.reordered_text_laws.specs.InOrder.{with_words}

module _ (g : Grammar) (words : List Spelled) where
  abbrev h : Grammar
  h = with_words words g

  asks_same : (a : Ask) (c : Class) → asks h a c ≡ asks g a c
  asks_same (is L) c = refl
  asks_same (is_not L) c = refl
  asks_same (begins p) c = refl
  asks_same (either a b) c = ap (λ x. x || asks h b c) (asks_same a c) ∙ ap (λ x. asks g a c || x) (asks_same b c)

  holds_same : (t : Test) (x y : Bool) (c d : Class) → x ≡ y → holds h t x c d ≡ holds g t y c d
  holds_same own x y c d e = e
  holds_same otherwise x y c d e = refl
  holds_same (next a) x y c d e = asks_same a c
  holds_same (next_two a b) x y c d e = ap (λ v. v && asks h b d) (asks_same a c) ∙ ap (λ v. asks g a c && v) (asks_same b d)

  either_same : (p x x' y y' : Bool) → x ≡ x' → y ≡ y' → (if p then (x || y) else x) ≡ (if p then (x' || y') else x')
  either_same p x x' y y' e f = ap (λ v. if p then (v || y) else v) e ∙ ap (λ v. if p then (x' || v) else x') f

  starts_same : (a : Item) (c d : Class) → starts h a c d ≡ starts g a c d
  starts_same (one L) c d = refl
  starts_same (part p) c d = refl
  starts_same end_of_text c d = refl
  starts_same (act a) c d = refl
  starts_same (a · b) c d = either_same (is_passed a) (starts h a c d) (starts g a c d) (starts h b c d) (starts g b c d) (starts_same a c d) (starts_same b c d)
  starts_same (choice a b) c d = ap (λ v. v || starts h b c d) (starts_same a c d) ∙ ap (λ v. starts g a c d || v) (starts_same b c d)
  starts_same (maybe a) c d = starts_same a c d
  starts_same (many t a) c d = holds_same t (starts h a c d) (starts g a c d) c d (starts_same a c d)
  starts_same (deep a) c d = starts_same a c d

  pub says_same : (t : Test) (a : Item) (c d : Class) → holds h t (starts h a c d) c d ≡ holds g t (starts g a c d) c d
  says_same t a c d = holds_same t (starts h a c d) (starts g a c d) c d (starts_same a c d)

  module _ (class_of : ℕ → Class) where
    here_same : (xs : List ℕ) → here h class_of xs ≡ here g class_of xs
    here_same [] = refl
    here_same (x ∷ xs) = refl

    may_same : (t : Test) (a : Item) (xs : List ℕ) → may_read h class_of t a xs ≡ may_read g class_of t a xs
    may_same t a [] = holds_same t _ _ _ _ (starts_same a _ _)
    may_same t a (i ∷ []) = holds_same t _ _ _ _ (starts_same a _ _)
    may_same t a (i ∷ j ∷ xs) = holds_same t _ _ _ _ (starts_same a _ _)

    if_same : (c c' : Bool) (r q r' q' : Option Taken) → c ≡ c' → r ≡ r' → q ≡ q' → (if c then r else q) ≡ (if c' then r' else q')
    if_same c c' r q r' q' e f k = ap (λ b. if b then r else q) e ∙ (ap (λ x. if c' then x else q) f ∙ ap (λ x. if c' then r' else x) k)

    behind_same : (t : Taken) (f f' : List ℕ → Option Taken) → ((ys : List ℕ) → f ys ≡ f' ys) → then_read (Some t) f ≡ then_read (Some t) f'
    behind_same t f f' e = ap (behind_children t.read) (e t.left)

    then_same : (r r' : Option Taken) (f f' : List ℕ → Option Taken) → r ≡ r' → ((ys : List ℕ) → f ys ≡ f' ys) → then_read r f ≡ then_read r' f'
    then_same r None f f' e k = ap (λ x. then_read x f) e
    then_same r (Some t) f f' e k = ap (λ x. then_read x f) e ∙ behind_same t f f' k

    module _ (below below' : ℕ → Goal → List ℕ → Option Taken) (same : (depth : ℕ) (goal : Goal) (xs : List ℕ) → below depth goal xs ≡ below' depth goal xs) where
      item_same : (item : Item) (depth : ℕ) (xs : List ℕ) → read_item h class_of below depth item xs ≡ read_item g class_of below' depth item xs
      item_same (one L) depth [] = refl
      item_same (one L) depth (i ∷ xs) = refl
      item_same (part p) depth xs = same depth (produce p) xs
      item_same end_of_text depth [] = refl
      item_same end_of_text depth (i ∷ xs) = refl
      item_same (act a) depth xs = refl
      item_same (a · b) depth xs =
          then_same (read_item h class_of below depth a xs) (read_item g class_of below' depth a xs) (read_item h class_of below depth b) (read_item g class_of below' depth b)
          (item_same a depth xs) (λ ys. item_same b depth ys)
      item_same (choice a b) depth xs =
          if_same (may_read h class_of own a xs) (may_read g class_of own a xs) (read_item h class_of below depth a xs)
          (if may_read h class_of own b xs then read_item h class_of below depth b xs else None) (read_item g class_of below' depth a xs)
          (if may_read g class_of own b xs then read_item g class_of below' depth b xs else None) (may_same own a xs) (item_same a depth xs)
          (if_same (may_read h class_of own b xs) (may_read g class_of own b xs) (read_item h class_of below depth b xs) None (read_item g class_of below' depth b xs) None
          (may_same own b xs) (item_same b depth xs) refl)
      item_same (maybe a) depth xs =
          if_same (may_read h class_of own a xs) (may_read g class_of own a xs) (read_item h class_of below depth a xs) (Some (taken none xs)) (read_item g class_of below' depth a xs)
          (Some (taken none xs)) (may_same own a xs) (item_same a depth xs) refl
      item_same (many t a) depth xs =
          if_same (may_read h class_of t a xs) (may_read g class_of t a xs) (then_read (read_item h class_of below depth a xs) (below depth (repeat t a))) (Some (taken none xs))
          (then_read (read_item g class_of below' depth a xs) (below' depth (repeat t a))) (Some (taken none xs)) (may_same t a xs)
          (then_same (read_item h class_of below depth a xs) (read_item g class_of below' depth a xs) (below depth (repeat t a)) (below' depth (repeat t a)) (item_same a depth xs)
          (λ ys. same depth (repeat t a) ys)) refl
      item_same (deep a) depth xs =
          if_same (may_read h class_of own a xs && nat_lt depth deepest) (may_read g class_of own a xs && nat_lt depth deepest) (read_item h class_of below (depth + 1) a xs) None
          (read_item g class_of below' (depth + 1) a xs) None (ap (λ b. b && nat_lt depth deepest) (may_same own a xs)) (item_same a (depth + 1) xs) refl

      first_same : (p : Production) (alternatives : List Alternative) (depth n : ℕ) (xs : List ℕ)
          → read_first h class_of below depth p n alternatives xs ≡ read_first g class_of below' depth p n alternatives xs
      first_same p [] depth n xs = refl
      first_same p (a ∷ more) depth n xs =
          if_same (may_read h class_of a.test a.body xs) (may_read g class_of a.test a.body xs) (as_child p n (read_item h class_of below depth a.body xs))
          (read_first h class_of below depth p (n + 1) more xs) (as_child p n (read_item g class_of below' depth a.body xs)) (read_first g class_of below' depth p (n + 1) more xs)
          (may_same a.test a.body xs) (ap (as_child p n) (item_same a.body depth xs)) (first_same p more depth (n + 1) xs)

    pub reads_same : (fuel depth : ℕ) (goal : Goal) (xs : List ℕ) → read_by_classes h class_of fuel depth goal xs ≡ read_by_classes g class_of fuel depth goal xs
    unfolding read_by_classes
    reads_same zero depth goal xs = refl
    reads_same (suc fuel) depth (produce p) xs = first_same (read_by_classes h class_of fuel) (read_by_classes g class_of fuel) (reads_same fuel) p (g.table p) depth 1 xs
    reads_same (suc fuel) depth (repeat t a) xs = item_same (read_by_classes h class_of fuel) (read_by_classes g class_of fuel) (reads_same fuel) (many t a) depth xs
