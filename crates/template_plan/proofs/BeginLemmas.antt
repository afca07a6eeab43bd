-- A token is among some tokens where that with its place is it.
use Rattle.std.proofs.Common.{◌≡◌, ◌==◌, ℕ, zero, suc, Bool, true, false, List, [], ◌∷◌, Option, None, Some, slice_get, refl, sym, ap, ◌∙◌, inl, inr}
use Rattle.std.specs.List.{list_any}
use Rattle.std.specs.Option.{option_map_or}
use Rattle.std.proofs.lemmas.Bool.{cases_Bool, false≢true, eq-eqb, eqb-true}
use Rattle.std.proofs.lemmas.Option.{none-some, same_Some}
use Rattle.cs_base.proofs.ListLemmas.{any_there}
use Rattle.template_meaning.specs.Compared.{ArePlaces}
use Rattle.template_meaning.specs.Matched.{begun}

where_begun : (k : ℕ) (lists : List ℕ) → begun lists k ≡ true → (q : ℕ) × (slice_get lists q ≡ Some k)
where_begun k [] e = absurd (false≢true e)
where_begun k (b ∷ lists) e = elim (cases_Bool (b == k)) [
  | inl same ↦ (zero, ap (λ (n : ℕ). Some n) (eqb-true b k same))
  | inr other ↦
      let rest = where_begun k lists (rw other at e) in
      (suc rest.0, rest.1)
]

-- token k is the one with this number
abbrev is_at : List ℕ → ℕ → ℕ → Bool
is_at lists number k = option_map_or (λ b. b == k) (slice_get lists number) false

module _ (lists places : List ℕ) (are : ArePlaces lists places) (k : ℕ) where
  pub unplaced : slice_get places k ≡ None → false ≡ begun lists k
  unplaced none = elim (cases_Bool (begun lists k)) [
    | inl some ↦
        let at = where_begun k lists some in
        absurd (none-some at.0 (sym none ∙ are at.0 k at.1))
    | inr no' ↦ sym no'
  ]

  there : (number : ℕ) (o : Option ℕ) → slice_get lists number ≡ o → option_map_or (λ b. b == k) o false ≡ true → begun lists k ≡ true
  there number None is e = absurd (false≢true e)
  there number (Some b) is e = any_there (λ c. c == k) lists number b is e

  pub placed : (number : ℕ) → slice_get places k ≡ Some number → is_at lists number k ≡ begun lists k
  placed number at = elim (cases_Bool (begun lists k)) [
    | inl some ↦
        let found = where_begun k lists some in
        let same : number ≡ found.0 = same_Some number found.0 (sym at ∙ are found.0 k found.1) in
        let here : slice_get lists number ≡ Some k = ap (slice_get lists) same ∙ found.1 in
        ap (λ (o : Option ℕ). option_map_or (λ b. b == k) o false) here ∙ (eq-eqb k k refl ∙ sym some)
    | inr no' ↦ elim (cases_Bool (is_at lists number k)) [
      | inl yes' ↦ absurd (false≢true (sym no' ∙ there number (slice_get lists number) refl yes'))
      | inr not_here ↦ not_here ∙ sym no'
    ]
  ]
