-- Parameters by the names of their declarators, in the order of these.
use Rattle.std.proofs.Common.{◌≡◌, ℕ, ◌<◌, ◌≤◌, zero, suc, Bool, true, false, List, [], ◌∷◌, length, take, get_or, Some, None, slice_get, inl, inr, refl, sym, ◌∙◌, arith}
use Rattle.std.specs.Prelude.{◌==◌, nat_lt, find}
use Rattle.std.specs.List.Sorted.{IsNonDecreasingBy, IsPartitionPoint}
use Rattle.std.proofs.lemmas.Bool.{cases_Bool, eq-eqb, ltb-true, ltb-false, ne_eqb}
use Rattle.std.proofs.lemmas.List.{get_or_default}
use Rattle.std.proofs.lemmas.Option.{get_or_from_slice_get, slice_get_within}
use Rattle.c_types.specs.declared.parameters.ParameterList.{ParameterList}
use Rattle.template_rules.specs.Lists.{parameters_at}
use Rattle.template_rules.proofs.FindLemmas.{found_at}

-- what no element passes finds none
none_found : {X : Type 0} (p : X → Bool) (xs : List X) → ((k : ℕ) (x : X) → slice_get xs k ≡ Some x → p x ≡ false) → find p xs ≡ None
none_found p [] fails = refl
none_found p (x ∷ xs) fails = rw (fails 0 x refl) (none_found p xs (λ k y at. fails (suc k) y at))

-- nor in front of an element, if none there passes
none_before : {X : Type 0} (p : X → Bool) (xs : List X) (n : ℕ) → ((k : ℕ) (x : X) → slice_get xs k ≡ Some x → k < n → p x ≡ false)
    → find p (take n xs) ≡ None
none_before p [] zero fails = refl
none_before p [] (suc n) fails = refl
none_before p (x ∷ xs) zero fails = refl
none_before p (x ∷ xs) (suc n) fails =
    rw (fails 0 x refl (omega arith)) (none_before p xs n (λ k y at less. fails (suc k) y at (omega (arith, less))))

module _ (xs : List ParameterList) (k n : ℕ) (cut : IsPartitionPoint (λ p. nat_lt p.name k ≡ true) (λ p. nat_lt p.name k ≡ false) xs n) where
  abbrev is_name : ParameterList → Bool
  is_name p = p.name == k

  lower : (j : ℕ) (p : ParameterList) → slice_get xs j ≡ Some p → j < n → is_name p ≡ false
  lower j p at less =
      let within = slice_get_within xs j p at in
      let it : get_or xs j p ≡ p = get_or_from_slice_get xs j p p at in
      let low : p.name < k = ltb-true p.name k (rw it at (cut.0 j p (omega arith) less)) in
      ne_eqb p.name k (λ same. omega (arith, low, same))

  -- where all names are lower, none is it
  pub none_of_name : length xs ≤ n → parameters_at xs k ≡ None
  none_of_name past = none_found is_name xs (λ j p at. let within = slice_get_within xs j p at in lower j p at (omega (arith, within, past)))

  -- the first name that is not lower is it
  pub of_name_here : (p : ParameterList) → n < length xs → p ≡ get_or xs n p → is_name p ≡ true → parameters_at xs k ≡ Some p
  of_name_here p within is same = found_at is_name xs n p within is same (none_before is_name xs n lower)

  -- or none is
  pub not_of_name : IsNonDecreasingBy (λ (p : ParameterList). p.name) xs → (x : ParameterList) → n < length xs → x ≡ get_or xs n x
      → is_name x ≡ false → parameters_at xs k ≡ None
  not_of_name rising x within is other = none_found is_name xs (λ j p at. elim (cases_Bool (nat_lt j n)) [
    | inl less ↦ lower j p at (ltb-true j n less)
    | inr on ↦
        let inside = slice_get_within xs j p at in
        let it : get_or xs j p ≡ p = get_or_from_slice_get xs j p p at in
        let first : get_or xs n p ≡ x = get_or_default xs n p x within ∙ sym is in
        let up = rising n j p (ltb-false j n on) inside in
        let higher : x.name ≤ p.name = rw (first, it) at up in
        let test : nat_lt x.name k ≡ false = rw (← is) at (cut.1 n x (omega arith) within) in
        let low : k ≤ x.name = ltb-false x.name k test in
        ne_eqb p.name k (λ same.
        let here : x.name ≡ k = omega (arith, higher, low, same) in
        let found = eq-eqb x.name k here in
        let both : true ≡ false = sym found ∙ other in
        cc)
  ])
