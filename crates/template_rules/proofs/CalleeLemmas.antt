-- Calls by their names, in their order.
use Rattle.std.proofs.Common.{◌≡◌, ℕ, ◌<◌, ◌≤◌, Bool, true, false, List, [], length, get_or, Some, slice_get, inl, inr, sym, ap, ◌∙◌, arith}
use Rattle.std.specs.Prelude.{◌==◌, nat_lt}
use Rattle.std.specs.List.{list_any}
use Rattle.std.specs.List.Sorted.{IsNonDecreasingBy, IsPartitionPoint}
use Rattle.std.proofs.lemmas.Bool.{cases_Bool, eq-eqb, ltb-true, ltb-false, ne_eqb}
use Rattle.std.proofs.lemmas.List.{get_or_default}
use Rattle.std.proofs.lemmas.Option.{get_or_from_slice_get, slice_get-get_or, slice_get_within}
use Rattle.cs_base.proofs.ListLemmas.{any_there as some_at}
use Rattle.c_types.specs.declared.lists.List.{List as NameList}
use Rattle.template_rules.proofs.PlaceLemmas.{none_passes}

module _ (xs : List NameList) (k n : ℕ) (cut : IsPartitionPoint (λ l. nat_lt l.name k ≡ true) (λ l. nat_lt l.name k ≡ false) xs n) where
  abbrev is_name : NameList → Bool
  is_name l = l.name == k

  lower : (j : ℕ) (l : NameList) → slice_get xs j ≡ Some l → j < n → is_name l ≡ false
  lower j l at less =
      let within = slice_get_within xs j l at in
      let it : get_or xs j l ≡ l = get_or_from_slice_get xs j l l at in
      let low : l.name < k = ltb-true l.name k (rw it at (cut.0 j l (omega arith) less)) in
      ne_eqb l.name k (λ same. omega (arith, low, same))

  -- where all names are lower, none is it
  pub none_called : length xs ≤ n → list_any is_name xs ≡ false
  none_called past = none_passes is_name xs (λ j l at. let within = slice_get_within xs j l at in lower j l at (omega (arith, within, past)))

  -- the first name that is not lower tells
  called_at : IsNonDecreasingBy (λ (l : NameList). l.name) xs → (x : NameList) → n < length xs → x ≡ get_or xs n x → is_name x ≡ list_any is_name xs
  called_at rising x within is = elim (cases_Bool (is_name x)) [
    | inl same ↦ same ∙ sym (some_at is_name xs n x (slice_get-get_or xs n x within ∙ ap (λ (l : NameList). Some l) (sym is)) same)
    | inr other ↦ other ∙ sym (none_passes is_name xs (λ j l at. elim (cases_Bool (nat_lt j n)) [
      | inl less ↦ lower j l at (ltb-true j n less)
      | inr on ↦
          let inside = slice_get_within xs j l at in
          let it : get_or xs j l ≡ l = get_or_from_slice_get xs j l l at in
          let first : get_or xs n l ≡ x = get_or_default xs n l x within ∙ sym is in
          let up = rising n j l (ltb-false j n on) inside in
          let higher : x.name ≤ l.name = rw (first, it) at up in
          let test : nat_lt x.name k ≡ false = rw (← is) at (cut.1 n x (omega arith) within) in
          let low : k ≤ x.name = ltb-false x.name k test in
          ne_eqb l.name k (λ same.
          let here : x.name ≡ k = omega (arith, higher, low, same) in
          let found = eq-eqb x.name k here in
          let both : true ≡ false = sym found ∙ other in
          cc)
    ]))
  ]

  pub called_from : IsNonDecreasingBy (λ (l : NameList). l.name) xs → (x : NameList) → n < length xs → is_name (get_or xs n x) ≡ list_any is_name xs
  called_from rising x within = called_at rising (get_or xs n x) within (get_or_default xs n x (get_or xs n x) within)
