-- The first of some offences, and of others the first of which is known.
use Rattle.std.proofs.Common.{◌≡◌, zero, suc, Bool, true, false, List, [], ◌∷◌, ◌++◌, Option, Some, None, inl, inr, refl, sym, ap, subst, ◌∙◌}
use Rattle.std.specs.Prelude.{◌⊎◌}
use Rattle.std.specs.Cmp.{IsTotalOrder}
use Rattle.std.specs.List.{flat_map}
use Rattle.std.specs.Ordering.{ordering_reverse}
use Rattle.std.specs.declared.cmp.Ordering.{Ordering}
use Rattle.std.specs.declared.cmp.Ordering.TheVariants.{Less, Equal, Greater}
use Rattle.std.proofs.lemmas.Cmp.{then_total, on_total, nat_list_cmp_total, nat_cmp_total}
use Rattle.cs_base.specs.declared.positions.Part.{Part}
use Rattle.cs_base.specs.Order.{number_of}
use Rattle.analysis.specs.Analysis.{AnalysisValue, UnitAnalysis}
use Rattle.analysis.specs.Below.source_files.Files.{Table}
use Rattle.offences.specs.declared.firsts.Offence.{Offence}
use Rattle.offences.specs.First.{offence_cmp, path_of, IsAmong, IsFirst, FirstThen}
use Rattle.offences.proofs.AmongLemmas.{either_among, still_among, now_among}
use Rattle.offences.proofs.FirstLemmas.{then_none}
use Rattle.rename_rules.specs.Escapes.{escaped_places}
use Rattle.rename_rules.specs.InUnits.{kept_in}
use Rattle.rename_rules.specs.Offences.{kept_string_places, stringized_places}

-- the strings of all units
pub kept_strings : (a : AnalysisValue) (members : List Part) (strings : Bool)
    → flat_map (λ (u : UnitAnalysis). kept_in members strings u.text.stringized) a.units ≡ kept_string_places a members strings
unfolding escaped_places stringized_places
kept_strings a members true = refl
kept_strings a members false = refl

-- ---- one list behind another

module _ {X : Type 0} where
  in_either : (xs ys : List X) (x : X) → IsAmong (xs ++ ys) x → IsAmong xs x ⊎ IsAmong ys x
  in_either [] ys x at = inr at
  in_either (z ∷ xs) ys x (zero, at) = inl (zero, at)
  in_either (z ∷ xs) ys x (suc k, at) = elim (in_either xs ys x (k, at)) [
    | inl old ↦ inl (suc old.0, old.1)
    | inr new ↦ inr new
  ]

  in_first : (xs ys : List X) (x : X) → IsAmong xs x → IsAmong (xs ++ ys) x
  in_first [] ys x (k, at) = absurd (cc)
  in_first (z ∷ xs) ys x (zero, at) = (zero, at)
  in_first (z ∷ xs) ys x (suc k, at) = let later = in_first xs ys x (k, at) in (suc later.0, later.1)

  in_second : (xs ys : List X) (x : X) → IsAmong ys x → IsAmong (xs ++ ys) x
  in_second [] ys x at = at
  in_second (z ∷ xs) ys x at = let later = in_second xs ys x at in (suc later.0, later.1)

-- ---- the first of both

offences-ordered : (table : Table) → IsTotalOrder (offence_cmp table)
offences-ordered table =
    then_total
    (then_total (on_total (λ (o : Offence). path_of table o.at.file) nat_list_cmp_total) (on_total (λ (o : Offence). o.at.at) nat_cmp_total))
    (on_total (λ (o : Offence). number_of o.cause) nat_cmp_total)

module _ (table : Table) where
  -- what comes before one that no other one comes before comes before the other
  before_other : (p r o : Offence) → offence_cmp table p r ≡ Less → (offence_cmp table o r ≡ Less → ⊥) → offence_cmp table p o ≡ Less
  before_other p r o less not = by (offence_cmp table o r) refl
    where
      order : IsTotalOrder (offence_cmp table)
      order = offences-ordered table

      by : (c : Ordering) → offence_cmp table o r ≡ c → offence_cmp table p o ≡ Less
      by Less is = absurd (not is)
      by Equal is =
          order.antisymm p o ∙ ap (λ (c : Ordering). ordering_reverse c) (order.congr o r p is) ∙ sym (order.antisymm p r) ∙ less
      by Greater is =
          let first : offence_cmp table r o ≡ Less = order.antisymm r o ∙ ap (λ (c : Ordering). ordering_reverse c) is in
          order.trans p r o less first

  first_of_both : (os more : List Offence) (o r : Offence) → IsFirst table more (Some o) → IsFirst table (os ++ o ∷ []) (Some r) → IsFirst table (os ++ more) (Some r)
  first_of_both os more o r of_more first = (
    elim (either_among os o r first.0) [
      | inl old ↦ in_first os more r old
      | inr same ↦ in_second os more r (subst (λ (x : Offence). IsAmong more x) (sym same) of_more.0)
    ],
    λ p at less.
        elim (in_either os more p at) [
          | inl old ↦ first.1 p (still_among os o p old) less
          | inr new ↦ of_more.1 p new (before_other p r o less (first.1 o (now_among os o)))
        ],
  )

  -- one offence is taken into account, and is the first of these
  pub then_first : (more : List Offence) (o : Offence) (a b : Option Offence) → FirstThen table more None (Some o) → FirstThen table (o ∷ []) a b → FirstThen table more a b
  then_first more o a b of_more one = record { goes_on = λ os is. by b os (one.goes_on os is) }
    where
      first : IsFirst table more (Some o)
      first = of_more.goes_on [] refl

      by : (b : Option Offence) (os : List Offence) → IsFirst table (os ++ o ∷ []) b → IsFirst table (os ++ more) b
      by (Some r) os is = first_of_both os more o r first is
      by None [] is = absurd (cc)
      by None (x ∷ os) is = absurd (cc)

  -- there are none of these
  pub then_no : (more : List Offence) (a : Option Offence) → FirstThen table more None None → FirstThen table more a a
  then_no more a none =
      let empty : more ≡ [] = none.goes_on [] refl in
      subst (λ (os : List Offence). FirstThen table os a a) (sym empty) (then_none table a)
