-- The first of some offences, and of one more.
use Rattle.std.proofs.Common.{◌≡◌, ℕ, ◌+◌, ◌<◌, ◌≤◌, List, [], ◌∷◌, ◌++◌, length, take, get_or, Option, Some, None, inl, inr, sym, ap, ◌∙◌, append_assoc, append-nil}
use Rattle.std.specs.Cmp.{IsTotalOrder}
use Rattle.std.specs.List.{flat_map}
use Rattle.std.proofs.lemmas.Grind.{flat_map-append}
use Rattle.std.proofs.lemmas.List.{get_or_default, map-append, take_more, take_all}
use Rattle.cs_base.specs.declared.causes.Cause.{Cause}
use Rattle.cs_base.specs.declared.positions.Pos.{Pos}
use Rattle.std.specs.declared.cmp.Ordering.TheVariants.{Less}
use Rattle.std.proofs.lemmas.Cmp.{then_total, on_total, nat_list_cmp_total, nat_cmp_total, tied_itself}
use Rattle.analysis.specs.Below.source_files.Files.{Table}
use Rattle.offences.specs.declared.firsts.Offence.{Offence}
use Rattle.cs_base.specs.Order.{number_of}
use Rattle.offences.specs.First.{offence, offence_cmp, path_of, standing, IsAmong, IsFirst, FirstThen}
use Rattle.offences.proofs.AmongLemmas.{either_among, still_among, now_among}

offence_cmp-total : (table : Table) → IsTotalOrder (offence_cmp table)
offence_cmp-total table =
    then_total
    (then_total (on_total (λ (o : Offence). path_of table o.at.file) nat_list_cmp_total) (on_total (λ (o : Offence). o.at.at) nat_cmp_total))
    (on_total (λ (o : Offence). number_of o.cause) nat_cmp_total)

module _ (table : Table) where
  not_before_itself : (o : Offence) → offence_cmp table o o ≡ Less → ⊥
  not_before_itself o less = let e = tied_itself (offence_cmp-total table) o in cc

  not_both : (o p : Offence) → offence_cmp table o p ≡ Less → offence_cmp table p o ≡ Less → ⊥
  not_both o p less back = not_before_itself o ((offence_cmp-total table).trans o p o less back)

  pub first_one : (os : List Offence) (o : Offence) → IsFirst table os None → IsFirst table (os ++ o ∷ []) (Some o)
  first_one os o none = (
    now_among os o,
    λ p at less.
        let at' : IsAmong (o ∷ []) p = rw none at at in
        elim (either_among [] o p at') [
          | inl old ↦ absurd (cc)
          | inr same ↦ not_before_itself o (rw same at less)
        ],
  )

  pub first_now : (os : List Offence) (o b : Offence) → IsFirst table os (Some b) → offence_cmp table o b ≡ Less
      → IsFirst table (os ++ o ∷ []) (Some o)
  first_now os o b first less = (
    now_among os o,
    λ p at before.
        elim (either_among os o p at) [
          | inl old ↦ first.1 p old ((offence_cmp-total table).trans p o b before less)
          | inr same ↦ not_before_itself o (rw same at before)
        ],
  )

  pub first_still : (os : List Offence) (o b : Offence) → IsFirst table os (Some b) → (offence_cmp table o b ≡ Less → ⊥)
      → IsFirst table (os ++ o ∷ []) (Some b)
  first_still os o b first other = (
    still_among os o b first.0,
    λ p at before.
        elim (either_among os o p at) [
          | inl old ↦ first.1 p old before
          | inr same ↦ other (rw same at before)
        ],
  )

  -- ---- offences that come to others

  pub then_none : (first : Option Offence) → FirstThen table [] first first
  then_none first = record { goes_on = λ os is. rw (append-nil os) is }

  pub then_both : (xs ys : List Offence) (a b c : Option Offence) → FirstThen table xs a b → FirstThen table ys b c → FirstThen table (xs ++ ys) a c
  then_both xs ys a b c f g = record { goes_on = λ os is. rw (← append_assoc os xs ys) (g.goes_on (os ++ xs) (f.goes_on os is)) }

  -- one element of a list more
  pub then_next : {X : Type 0} (cause : Cause) (f : X → List Pos) (xs : List X) (k : ℕ) (x : X) (a b c : Option Offence) → k < length xs
      → x ≡ get_or xs k x → FirstThen table (standing cause (flat_map f (take k xs))) a b → FirstThen table (standing cause (f x)) b c
      → FirstThen table (standing cause (flat_map f (take (k + 1) xs))) a c
  then_next {X = X} cause f xs k x a b c h is before here =
      let more : take (k + 1) xs ≡ take k xs ++ x ∷ [] = take_more xs k x h ∙ ap (λ (y : X). take k xs ++ y ∷ []) (sym is) in
      let all : standing cause (flat_map f (take (k + 1) xs)) ≡ standing cause (flat_map f (take k xs)) ++ standing cause (f x) =
      rw (more, flat_map-append f (take k xs) (x ∷ []), append-nil (f x)) (map-append (offence cause) (flat_map f (take k xs)) (f x)) in
      rw all (then_both (standing cause (flat_map f (take k xs))) (standing cause (f x)) a b c before here)

  -- all of them
  pub then_all : {X : Type 0} (cause : Cause) (f : X → List Pos) (xs : List X) (k : ℕ) (a b : Option Offence) → length xs ≤ k
      → FirstThen table (standing cause (flat_map f (take k xs))) a b → FirstThen table (standing cause (flat_map f xs)) a b
  then_all cause f xs k a b h is = rw (← take_all k xs h) is

  pub then_next_or : {X : Type 0} (cause : Cause) (f : X → List Pos) (xs : List X) (k : ℕ) (d : X) (a b c : Option Offence) → k < length xs
      → FirstThen table (standing cause (flat_map f (take k xs))) a b → FirstThen table (standing cause (f (get_or xs k d))) b c
      → FirstThen table (standing cause (flat_map f (take (k + 1) xs))) a c
  then_next_or cause f xs k d a b c h before here =
      then_next cause f xs k (get_or xs k d) a b c h (get_or_default xs k d (get_or xs k d) h) before here
