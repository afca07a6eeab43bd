-- Declarations that are moved: lists of them, and what is found in these.
use Rattle.std.proofs.Common.{ℕ, zero, suc, ◌≡◌, Bool, true, false, ◌&&◌, ◌||◌, cond, List, [], ◌∷◌, ◌++◌, reverse, Option, None, Some, refl, sym, ap, subst, ◌∙◌}
use mathlib.Core.List.{reverse-cons}
use Rattle.std.specs.Prelude.{find, filter, slice_get}
use Rattle.std.specs.List.{list_any}
use Rattle.std.specs.Option.{option_map_or}
use Rattle.scope_bind.specs.Named.{Declaration}
use Rattle.scope_bind.specs.Moved.{IsMoved}
use Rattle.reordered_tree_laws.specs.Moving.{AreMoved}

-- ---- Two tests, one after the other

module _ {X : Type 0} (p r c : X → Bool) (law : (x : X) → c x ≡ (p x && r x)) where
  find_step : (x : X) (fs : List X) (o : Option X) (a : Bool) → o ≡ find r fs → cond (a && r x) (Some x) o ≡ find r (cond a (x ∷ fs) fs)
  find_step x fs o true e = ap (λ y. cond (r x) (Some x) y) e
  find_step x fs o false e = e

  pub find_both : (xs : List X) → find c xs ≡ find r (filter p xs)
  find_both [] = refl
  find_both (x ∷ xs) = ap (λ b. cond b (Some x) (find c xs)) (law x) ∙ find_step x (filter p xs) (find c xs) (p x) (find_both xs)

  filter_step : (x : X) (fs gs : List X) (a : Bool) → gs ≡ filter r fs → cond (a && r x) (x ∷ gs) gs ≡ filter r (cond a (x ∷ fs) fs)
  filter_step x fs gs true e = ap (λ (ys : List X). cond (r x) (x ∷ ys) ys) e
  filter_step x fs gs false e = e

  pub filter_both : (xs : List X) → filter c xs ≡ filter r (filter p xs)
  filter_both [] = refl
  filter_both (x ∷ xs) =
      ap (λ b. cond b (x ∷ filter c xs) (filter c xs)) (law x) ∙ filter_step x (filter p xs) (filter c xs) (p x) (filter_both xs)

  any_step : (x : X) (fs : List X) (o a : Bool) → o ≡ list_any r fs → ((a && r x) || o) ≡ list_any r (cond a (x ∷ fs) fs)
  any_step x fs o true e = ap (λ y. r x || y) e
  any_step x fs o false e = e

  pub any_both : (xs : List X) → list_any c xs ≡ list_any r (filter p xs)
  any_both [] = refl
  any_both (x ∷ xs) = ap (λ b. b || list_any c xs) (law x) ∙ any_step x (filter p xs) (list_any c xs) (p x) (any_both xs)

pub and_three : (a b c : Bool) → (a && (b && c)) ≡ ((a && b) && c)
and_three true b c = refl
and_three false b c = refl

-- ---- Lists of declarations

module _ (m : ℕ → ℕ) where
  abbrev Moved : List Declaration → List Declaration → Type 0
  Moved ds es = AreMoved m ds es

  pub moved_more : (d e : Declaration) (ds es : List Declaration) (c b : Bool) → b ≡ c → IsMoved m d e → Moved ds es
      → Moved (cond c (d ∷ ds) ds) (cond b (e ∷ es) es)
  moved_more d e ds es true true w h k = (h, k)
  moved_more d e ds es false false w h k = k
  moved_more d e ds es true false w h k = absurd cc
  moved_more d e ds es false true w h k = absurd cc

  -- both are there and moved, or neither is
  abbrev pub AreFound : Option Declaration → Option Declaration → Type 0
  AreFound None None = Unit {0}
  AreFound (Some d) (Some e) = IsMoved m d e
  AreFound _ _ = ⊥

  module _ (r s : Declaration → Bool) (same : (d e : Declaration) → IsMoved m d e → s e ≡ r d) where
    found_step : (d e : Declaration) (x y : Option Declaration) (c b : Bool) → b ≡ c → IsMoved m d e → AreFound x y
        → AreFound (cond c (Some d) x) (cond b (Some e) y)
    found_step d e x y true true w h k = h
    found_step d e x y false false w h k = k
    found_step d e x y true false w h k = absurd cc
    found_step d e x y false true w h k = absurd cc

    pub found_moved : (ds es : List Declaration) → Moved ds es → AreFound (find r ds) (find s es)
    found_moved [] [] k = tt
    found_moved (d ∷ ds) (e ∷ es) k = found_step d e (find r ds) (find s es) (r d) (s e) (same d e k.0) k.0 (found_moved ds es k.1)
    found_moved [] (e ∷ es) k = absurd k
    found_moved (d ∷ ds) [] k = absurd k

    pub filter_moved : (ds es : List Declaration) → Moved ds es → Moved (filter r ds) (filter s es)
    filter_moved [] [] k = tt
    filter_moved (d ∷ ds) (e ∷ es) k = moved_more d e (filter r ds) (filter s es) (r d) (s e) (same d e k.0) k.0 (filter_moved ds es k.1)
    filter_moved [] (e ∷ es) k = absurd k
    filter_moved (d ∷ ds) [] k = absurd k

    pub any_moved : (ds es : List Declaration) → Moved ds es → list_any s es ≡ list_any r ds
    any_moved [] [] k = refl
    any_moved (d ∷ ds) (e ∷ es) k = ap (λ b. b || list_any s es) (same d e k.0) ∙ ap (λ b. r d || b) (any_moved ds es k.1)
    any_moved [] (e ∷ es) k = absurd k
    any_moved (d ∷ ds) [] k = absurd k

  pub append_moved : (ds es xs ys : List Declaration) → Moved ds es → Moved xs ys → Moved (ds ++ xs) (es ++ ys)
  append_moved [] [] xs ys h k = k
  append_moved (d ∷ ds) (e ∷ es) xs ys h k = (h.0, append_moved ds es xs ys h.1 k)
  append_moved [] (e ∷ es) xs ys h k = absurd h
  append_moved (d ∷ ds) [] xs ys h k = absurd h

  pub reverse_moved : (ds es : List Declaration) → Moved ds es → Moved (reverse ds) (reverse es)
  reverse_moved [] [] k = tt
  reverse_moved (d ∷ ds) (e ∷ es) k =
      subst (λ (xs : List Declaration). Moved xs (reverse (e ∷ es))) (sym (reverse-cons d ds))
      (subst (λ (ys : List Declaration). Moved (reverse ds ++ d ∷ []) ys) (sym (reverse-cons e es))
      (append_moved (reverse ds) (reverse es) (d ∷ []) (e ∷ []) (reverse_moved ds es k.1) (k.0, tt)))
  reverse_moved [] (e ∷ es) k = absurd k
  reverse_moved (d ∷ ds) [] k = absurd k

  pub at_moved : (ds es : List Declaration) (n : ℕ) → Moved ds es → AreFound (slice_get ds n) (slice_get es n)
  at_moved [] [] n k = tt
  at_moved (d ∷ ds) (e ∷ es) zero k = k.0
  at_moved (d ∷ ds) (e ∷ es) (suc n) k = at_moved ds es n k.1
  at_moved [] (e ∷ es) n k = absurd k
  at_moved (d ∷ ds) [] n k = absurd k

  -- what depends on one that is found alone
  pub told_moved : {A : Type 0} (x y : Declaration → A) (other : A) → ((d e : Declaration) → IsMoved m d e → y e ≡ x d)
      → (a b : Option Declaration) → AreFound a b → option_map_or y b other ≡ option_map_or x a other
  told_moved x y other same None None k = refl
  told_moved x y other same (Some d) (Some e) k = same d e k
  told_moved x y other same None (Some e) k = absurd k
  told_moved x y other same (Some d) None k = absurd k
