-- Lists of names, and keys with such spellings.
use Rattle.std.proofs.Common.{◌≡◌, ℕ, Bool, true, false, List, [], ◌∷◌, ◌++◌, map, refl, sym, ◌∙◌, subst, inl, inr, arith}
use Rattle.std.specs.List.{list_any}
use Rattle.std.specs.Str.{bytes_eq}
use Rattle.std.proofs.lemmas.Bool.{cases_Bool, and_parts, not-true, or_parts}
use Rattle.std.proofs.lemmas.List.{map-append}
use Rattle.std.proofs.lemmas.List.Folds.{list_any-append}
use Rattle.std.proofs.Math.Bool.{or-true}
use Rattle.cs_base.proofs.FileMapLemmas.{bytes_eq-same, bytes_eq-equal}
use Rattle.cs_base.proofs.ListLemmas.{bytes_eq-apart}
use Rattle.line_shape.specs.MacroLine.{are_distinct}

-- a key passes the test exactly where its spelling does
pub list_any-map : {K : Type 0} (spelling : K → List ℕ) (p : List ℕ → Bool) (ks : List K)
    → list_any (λ k. p (spelling k)) ks ≡ list_any p (map spelling ks)
list_any-map spelling p [] = refl
list_any-map spelling p (k ∷ ks) = rw (list_any-map spelling p ks) refl

pub bytes_eq-sym : (a b : List ℕ) → bytes_eq a b ≡ true → bytes_eq b a ≡ true
bytes_eq-sym a b h = subst (λ (c : List ℕ). bytes_eq b c ≡ true) (sym (bytes_eq-equal a b h)) (bytes_eq-same b)

-- a name that stands among those before it stands twice
pub are_distinct-twice : (xs : List (List ℕ)) (y : List ℕ) (ys : List (List ℕ)) → list_any (bytes_eq y) xs ≡ true
    → are_distinct (xs ++ y ∷ ys) ≡ false
are_distinct-twice [] y ys h = absurd (cc)
are_distinct-twice (x ∷ xs) y ys h =
    elim (cases_Bool (bytes_eq y x)) [
      | inl same ↦
          let again : list_any (bytes_eq x) (xs ++ y ∷ ys) ≡ true =
          list_any-append (bytes_eq x) xs (y ∷ ys) ∙ rw (bytes_eq-sym y x same) (or-true (list_any (bytes_eq x) xs)) in
          rw again refl
      | inr other ↦
          let rest : list_any (bytes_eq y) xs ≡ true = rw other at h in
          let tail = are_distinct-twice xs y ys rest in
          rw tail (grind arith)
    ]

-- one name more, which is new
pub are_distinct-new : (xs : List (List ℕ)) (y : List ℕ) → are_distinct xs ≡ true → list_any (bytes_eq y) xs ≡ false
    → are_distinct (xs ++ y ∷ []) ≡ true
are_distinct-new [] y distinct new = refl
are_distinct-new (x ∷ xs) y distinct new =
    let once = not-true (list_any (bytes_eq x) xs) ((and_parts _ _ distinct).0) in
    let other = bytes_eq-apart y x ((or_parts (bytes_eq y x) (list_any (bytes_eq y) xs) new).0) in
    let none : list_any (bytes_eq x) (xs ++ y ∷ []) ≡ false = list_any-append (bytes_eq x) xs (y ∷ []) ∙ rw (once, other) refl in
    let more = are_distinct-new xs y ((and_parts _ _ distinct).1) ((or_parts (bytes_eq y x) (list_any (bytes_eq y) xs) new).1) in
    rw (none, more) refl

-- the spellings of the keys, one of which is new
pub map-push : {K : Type 0} (spelling : K → List ℕ) (old new : List K) (k : K) → new ≡ old ++ k ∷ []
    → map spelling new ≡ map spelling old ++ spelling k ∷ []
map-push spelling old new k h = rw h (map-append spelling old (k ∷ []))
