-- Elements of a list whose numbers rise, which are looked for by their numbers.
use Rattle.std.proofs.Common.{◌≡◌, ℕ, ◌+◌, ◌<◌, ◌≤◌, suc, Bool, true, false, ◌&&◌, List, [], ◌∷◌, length, get_or, Some, slice_get, inl, inr, refl, sym, ap, ◌∙◌, arith}
use Rattle.std.specs.Prelude.{nat_eq, nat_lt}
use Rattle.std.specs.List.{list_any}
use Rattle.std.specs.List.Sorted.{IsNonDecreasingBy}
use Rattle.std.proofs.lemmas.Bool.{cases_Bool, and_parts, eqb-true}
use Rattle.std.proofs.lemmas.Bool.Decides.{nat_tests}
use Rattle.std.proofs.lemmas.Option.{get_or_from_slice_get, slice_get_within}
use Rattle.cs_base.specs.declared.positions.Part.{Part}
use Rattle.cs_base.proofs.ListLemmas.{any_there as some_at}
use Rattle.find_names.specs.FileTokens.{is_part, place_number}

-- one part has one number
pub same_place : (part p : Part) → is_part p part ≡ true → place_number p ≡ place_number part
same_place part p is =
    let outer = and_parts (nat_eq p.start.file part.start.file && nat_eq p.start.at part.start.at) (nat_eq p.len part.len) is in
    let inner = and_parts (nat_eq p.start.file part.start.file) (nat_eq p.start.at part.start.at) outer.0 in
    let file : p.start.file ≡ part.start.file = eqb-true p.start.file part.start.file inner.0 in
    let at : p.start.at ≡ part.start.at = eqb-true p.start.at part.start.at inner.1 in
    rw (file, at) refl

-- no element before this one passes a test
abbrev pub NoneTo : {X : Type 0} → (X → Bool) → List X → ℕ → Type 0
NoneTo {X} test xs n = (k : ℕ) (x : X) → slice_get xs k ≡ Some x → k < n → test x ≡ false

none_passes : {X : Type 0} (test : X → Bool) (xs : List X) → ((k : ℕ) (x : X) → slice_get xs k ≡ Some x → test x ≡ false) → list_any test xs ≡ false
none_passes test [] none = refl
none_passes test (x ∷ xs) none = rw (none 0 x refl, none_passes test xs (λ k y at. none (suc k) y at)) refl

pub stands_in : {X : Type 0} (test : X → Bool) (xs : List X) (n : ℕ) (x : X) → slice_get xs n ≡ Some x → test x ≡ true → list_any test xs ≡ true
stands_in test xs n x at is = some_at test xs n x at is

pub none_to_next : {X : Type 0} (test : X → Bool) (xs : List X) (n : ℕ) (x : X) → slice_get xs n ≡ Some x → test x ≡ false → NoneTo test xs n
    → NoneTo test xs (n + 1)
none_to_next test xs n x at other before i y at_i on = elim (cases_Bool (nat_lt i n)) [
  | inl less ↦ before i y at_i (grind (arith, nat_tests))
  | inr here ↦
      let same : i ≡ n = grind (arith, nat_tests) in
      let found : Some y ≡ Some x = sym at_i ∙ ap (slice_get xs) same ∙ at in
      let it : y ≡ x = cc in
      rw it other
]

-- none does where all were looked at
pub none_left : {X : Type 0} (test : X → Bool) (xs : List X) (n : ℕ) → length xs ≤ n → NoneTo test xs n → list_any test xs ≡ false
none_left test xs n past before =
    none_passes test xs (λ j x at. let within = slice_get_within xs j x at in before j x at (omega (arith, within, past)))

-- ---- elements with one number

module _ {X : Type 0} (number : X → ℕ) (test : X → Bool) (wanted : ℕ) (same : (x : X) → test x ≡ true → number x ≡ wanted) where
  elsewhere : (x : X) → (number x ≡ wanted → ⊥) → test x ≡ false
  elsewhere x other = elim (cases_Bool (test x)) [
    | inl is ↦ absurd (other (same x is))
    | inr none ↦ none
  ]

  -- none of lower numbers passes
  pub none_lower : (xs : List X) (n : ℕ) → ((i : ℕ) (x : X) → slice_get xs i ≡ Some x → i < n → number x < wanted) → NoneTo test xs n
  none_lower xs n lower i x at on = let less = lower i x at on in elsewhere x (λ is. omega (arith, less, is))

  -- and where one has a higher number, none does from there on
  pub none_higher : (xs : List X) → IsNonDecreasingBy number xs → (n : ℕ) (x : X) → slice_get xs n ≡ Some x → wanted < number x → NoneTo test xs n
      → list_any test xs ≡ false
  none_higher xs rising n x at past before = none_passes test xs (λ j y at_j. elim (cases_Bool (nat_lt j n)) [
    | inl less ↦ before j y at_j (grind (arith, nat_tests))
    | inr behind ↦
        let on : n ≤ j = grind (arith, nat_tests) in
        let within = slice_get_within xs j y at_j in
        let up = rising n j y on within in
        let one : get_or xs n y ≡ x = get_or_from_slice_get xs n x y at in
        let two : get_or xs j y ≡ y = get_or_from_slice_get xs j y y at_j in
        let up_ : number x ≤ number y = rw (one, two) at up in
        elsewhere y (λ is. omega (arith, up_, past, is))
  ])
