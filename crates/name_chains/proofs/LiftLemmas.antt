-- All that is found in a structure or union, along its chain.
use Rattle.std.proofs.Common.{ℕ, zero, suc, ◌+◌, ◌-◌, ◌<◌, ◌≤◌, ◌≡◌, Bool, true, false, List, [], ◌∷◌, ◌++◌, map, reverse, take, length, get_or, Some, refl, sym, ap, subst, ◌∙◌, arith, append_assoc}
use Rattle.std.specs.Prelude.{filter, slice_get}
use Rattle.std.specs.Option.{option_to_list}
use Rattle.std.proofs.lemmas.Bool.{cond-true, cond-false}
use Rattle.std.proofs.lemmas.List.{append-nil, length-take-le, take-take}
use Rattle.c_types.specs.declared.declarations.Declaration.{Declaration}
use Rattle.name_chains.specs.Linked.{at_place}
use Rattle.name_chains.specs.Links.{latest_place, AreLinked}
use Rattle.name_chains.proofs.LatestLemmas.{slice_get_some}
use Rattle.name_chains.proofs.LinkedLemmas.{at_suc}
use Rattle.name_chains.proofs.ChainLemmas.{back_more, passes_here, leads_to, left_whole, left_all}

-- the way has come down to the place, and these are all behind it
pub record Lifting (own : Declaration → Bool) (lift : Declaration → Declaration) (xs all : List Declaration) (place : ℕ) : Type 0 where
  pub within : place ≤ length xs
  pub again : latest_place own (reverse (take place xs)) ≡ place
  pub rest : all ++ map lift (filter own (reverse (take place xs))) ≡ map lift (filter own (reverse xs))

module _ (own : Declaration → Bool) (lift : Declaration → Declaration) (xs : List Declaration) (before : List ℕ) (newest : ℕ) (linked : AreLinked own xs before newest) where
  skip : (d : Declaration) (ds : List Declaration) → own d ≡ false → filter own (d ∷ ds) ≡ filter own ds
  skip d ds fails = cond-false (own d) (d ∷ filter own ds) (filter own ds) fails

  pub lift_begins : (all : List Declaration) → all ≡ [] → Lifting own lift xs all newest
  lift_begins all none =
      let left = left_all own (filter own) skip xs before newest linked in
      record {
        within = left.within;
        again = left.again;
        rest = ap (λ ys. ys ++ map lift (filter own (reverse (take newest xs)))) none ∙ ap (map lift) left.rest;
      }

  pub lift_on : (all all' : List Declaration) (p next : ℕ) → Lifting own lift xs all p → 0 < p
      → all' ≡ all ++ map lift (option_to_list (at_place xs p)) → next ≡ get_or before (p - 1) 0
      → Lifting own lift xs all' next × (next < p)
  lift_on all all' zero next way l grown e = absurd (omega (arith, l))
  lift_on all all' (suc k) next way l grown e =
      let m : suc k - 1 ≡ k = omega arith in
      let x = slice_get_some xs k (omega (arith, way.within)) in
      let holds : own x.0 ≡ true = passes_here own xs k x.0 way.within x.1 way.again in
      let ds = reverse (take k xs) in
      let led : next ≡ latest_place own ds = e ∙ (ap (λ j. get_or before j 0) m ∙ leads_to own xs before newest k linked way.within way.again) in
      let down = left_whole own (filter own) skip (take k xs) in
      let n : length (take k xs) ≡ k = length-take-le k xs (omega (arith, way.within)) in
      let t : take next (take k xs) ≡ take next xs = take-take next k xs (omega (arith, led, down.within, n)) in
      let again : latest_place own (reverse (take next (take k xs))) ≡ next =
      subst (λ j. latest_place own (reverse (take j (take k xs))) ≡ j) (sym led) down.again in
      let left : filter own (reverse (take next (take k xs))) ≡ filter own ds =
      subst (λ j. filter own (reverse (take j (take k xs))) ≡ filter own ds) (sym led) down.rest in
      let one : all' ≡ all ++ lift x.0 ∷ [] = grown ∙ ap (λ o. all ++ map lift (option_to_list o)) (at_suc xs k ∙ x.1) in
      let whole : filter own (reverse (take (suc k) xs)) ≡ x.0 ∷ filter own ds =
      ap (filter own) (back_more xs k x.0 x.1) ∙ cond-true (own x.0) (x.0 ∷ filter own ds) (filter own ds) holds in (
        record {
          within = omega (arith, led, down.within, n, way.within);
          again = ap (λ ys. latest_place own (reverse ys)) (sym t) ∙ again;
          rest =
              ap (λ ys. ys ++ map lift (filter own (reverse (take next xs)))) one
              ∙ (append_assoc all (lift x.0 ∷ []) (map lift (filter own (reverse (take next xs))))
              ∙ (ap (λ ys. all ++ lift x.0 ∷ map lift ys) (ap (λ ys. filter own (reverse ys)) (sym t) ∙ left)
              ∙ (ap (λ ys. all ++ map lift ys) (sym whole) ∙ way.rest)));
        },
        omega (arith, led, down.within, n),
      )

pub lift_ends : (own : Declaration → Bool) (lift : Declaration → Declaration) (xs all : List Declaration) (p : ℕ) → Lifting own lift xs all p → p ≡ 0
    → all ≡ map lift (filter own (reverse xs))
lift_ends own lift xs all p way z =
    sym (append-nil all) ∙ (ap (λ j. all ++ map lift (filter own (reverse (take j xs)))) (sym z) ∙ way.rest)
