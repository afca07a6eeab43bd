-- Offences that tell of others: where none comes before all of them, the first of them is the first of all.
use Rattle.std.proofs.Common.{◌≡◌, ℕ, zero, suc, ◌<◌, ◌≤◌, List, [], ◌∷◌, ◌++◌, Option, Some, None, inl, inr, refl, sym, ap, ◌∙◌, arith}
use Rattle.std.specs.Prelude.{◌⊎◌, map}
use Rattle.std.specs.List.{flat_map}
use Rattle.std.specs.Cmp.{IsTotalOrder}
use Rattle.std.specs.Cmp.Lexicographic.{slice_cmp}
use Rattle.std.specs.Ordering.{nat_cmp, ordering_reverse, ordering_then}
use Rattle.std.specs.declared.cmp.Ordering.{Ordering}
use Rattle.std.specs.declared.cmp.Ordering.TheVariants.{Less, Equal, Greater}
use Rattle.std.proofs.lemmas.Cmp.{ranked, then_total, on_total, nat_list_cmp_total, nat_cmp_total, tied_itself}
use Rattle.cs_base.specs.declared.causes.Cause.{Cause}
use Rattle.cs_base.specs.declared.positions.Pos.{Pos}
use Rattle.cs_base.specs.Order.{number_of}
use Rattle.cs_base.proofs.ListLemmas.{front_none as nil_before, nil_behind}
use Rattle.analysis.specs.Below.source_files.Files.{Table}
use Rattle.offences.specs.declared.firsts.Offence.{Offence}
use Rattle.offences.specs.First.{offence, offence_cmp, path_of, position_cmp, standing, IsAmong, IsFirst, FirstThen}

-- ---- what stands in lists

pub not_among : {X : Type 0} (x : X) → IsAmong [] x → ⊥
not_among x (zero, at) = cc
not_among x (suc k, at) = cc

pub none_among : {X : Type 0} (xs : List X) → ((x : X) → IsAmong xs x → ⊥) → xs ≡ []
none_among [] none = refl
none_among (x ∷ xs) none = absurd (none x (0, refl))

pub among_either : {X : Type 0} (xs ys : List X) (x : X) → IsAmong (xs ++ ys) x → IsAmong xs x ⊎ IsAmong ys x
among_either [] ys x at = inr at
among_either (z ∷ xs) ys x (zero, at) = inl (zero, at)
among_either (z ∷ xs) ys x (suc k, at) =
    elim (among_either xs ys x (k, at)) [
      | inl left ↦ inl (suc left.0, left.1)
      | inr right ↦ inr right
    ]

pub among_left : {X : Type 0} (xs ys : List X) (x : X) → IsAmong xs x → IsAmong (xs ++ ys) x
among_left [] ys x at = absurd (not_among x at)
among_left (z ∷ xs) ys x (zero, at) = (zero, at)
among_left (z ∷ xs) ys x (suc k, at) = let later = among_left xs ys x (k, at) in (suc later.0, later.1)

pub among_right : {X : Type 0} (xs ys : List X) (x : X) → IsAmong ys x → IsAmong (xs ++ ys) x
among_right [] ys x at = at
among_right (z ∷ xs) ys x at = let later = among_right xs ys x at in (suc later.0, later.1)

pub among_one : {X : Type 0} (x y : X) → IsAmong (x ∷ []) y → y ≡ x
among_one x y (zero, at) = cc
among_one x y (suc k, at) = absurd (not_among y (k, at))

pub in_flat : {X Y : Type 0} (f : X → List Y) (xs : List X) (x : X) (y : Y) → IsAmong xs x → IsAmong (f x) y → IsAmong (flat_map f xs) y
in_flat f [] x y at here = absurd (not_among x at)
in_flat f (z ∷ xs) x y (zero, at) here =
    let same : x ≡ z = cc in
    among_left (f z) (flat_map f xs) y (rw same at here)
in_flat f (z ∷ xs) x y (suc k, at) here = among_right (f z) (flat_map f xs) y (in_flat f xs x y (k, at) here)

pub of_flat : {X Y : Type 0} (f : X → List Y) (xs : List X) (y : Y) → IsAmong (flat_map f xs) y → (x : X) × IsAmong xs x × IsAmong (f x) y
of_flat f [] y at = absurd (not_among y at)
of_flat f (z ∷ xs) y at =
    elim (among_either (f z) (flat_map f xs) y at) [
      | inl here ↦ (z, (0, refl), here)
      | inr there ↦ let r = of_flat f xs y there in (r.0, (suc r.1.0, r.1.1), r.2)
    ]

pub in_map : {X Y : Type 0} (f : X → Y) (xs : List X) (x : X) → IsAmong xs x → IsAmong (map f xs) (f x)
in_map f [] x at = absurd (not_among x at)
in_map f (z ∷ xs) x (zero, at) =
    let same : z ≡ x = cc in
    (zero, ap (λ w. Some (f w)) same)
in_map f (z ∷ xs) x (suc k, at) = let later = in_map f xs x (k, at) in (suc later.0, later.1)

pub of_map : {X Y : Type 0} (f : X → Y) (xs : List X) (y : Y) → IsAmong (map f xs) y → (x : X) × IsAmong xs x × (y ≡ f x)
of_map f [] y at = absurd (not_among y at)
of_map f (z ∷ xs) y (zero, at) = (z, (zero, refl), cc)
of_map f (z ∷ xs) y (suc k, at) = let r = of_map f xs y (k, at) in (r.0, (suc r.1.0, r.1.1), r.2)

-- ---- the order of offences

offence_cmp-total : (table : Table) → IsTotalOrder (offence_cmp table)
offence_cmp-total table =
    then_total
    (then_total (on_total (λ (o : Offence). path_of table o.at.file) nat_list_cmp_total) (on_total (λ (o : Offence). o.at.at) nat_cmp_total))
    (on_total (λ (o : Offence). number_of o.cause) nat_cmp_total)

module _ (table : Table) where
  pub not_before_itself : (o : Offence) → offence_cmp table o o ≡ Less → ⊥
  not_before_itself o less = let e = tied_itself (offence_cmp-total table) o in cc

  not_less : (o p q : Offence) → (offence_cmp table o p ≡ Less → ⊥) → (offence_cmp table p q ≡ Less → ⊥) → offence_cmp table o q ≡ Less → ⊥
  not_less o p q first second less =
      let total = offence_cmp-total table in
      let by : (r : Ordering) → offence_cmp table o p ≡ r → ⊥ = λ r. elim r as (λ s. offence_cmp table o p ≡ s → ⊥) [
        | Less ↦ λ before. first before
        | Equal ↦ λ tied. second (sym (total.congr o p q tied) ∙ less)
        | Greater ↦ λ behind. second (total.trans p o q (total.antisymm p o ∙ ap ordering_reverse behind) less)
      ] in
      by (offence_cmp table o p) refl

  -- nothing among these, if nothing is among those of them that tell
  none_told : (told all : List Offence) → told ≡ [] → ((o : Offence) → IsAmong all o → (p : Offence) × IsAmong told p) → all ≡ []
  none_told told [] none covered = refl
  none_told told (o ∷ all) none covered =
      let p = covered o (0, refl) in
      let at : IsAmong [] p.0 = rw none at p.1 in
      absurd (not_among p.0 at)

  pub then_told : (told all : List Offence) (a b : Option Offence) → ((o : Offence) → IsAmong told o → IsAmong all o)
      → ((o : Offence) → IsAmong all o → (p : Offence) × IsAmong told p × (offence_cmp table o p ≡ Less → ⊥))
      → FirstThen table told a b → FirstThen table all a b
  then_told told all a b among covered then_ =
      let first : (os : List Offence) (c : Option Offence) → IsFirst table (os ++ told) c → IsFirst table (os ++ all) c = λ os c.
      elim c as (λ d. IsFirst table (os ++ told) d → IsFirst table (os ++ all) d) [
        | None ↦ λ none.
            let rest : told ≡ [] = nil_behind os told none in
            let front : os ≡ [] = nil_before os told none in
            rw (front, none_told told all rest (λ o at. ((covered o at).0, (covered o at).1))) refl
        | Some f ↦ λ is. (
          elim (among_either os told f is.0) [
            | inl old ↦ among_left os all f old
            | inr new ↦ among_right os all f (among f new)
          ],
          λ o at less.
              elim (among_either os all o at) [
                | inl old ↦ is.1 o (among_left os told o old) less
                | inr new ↦
                    let p = covered o new in
                    not_less o p.0 f p.2 (is.1 p.0 (among_right os told p.0 p.1)) less
              ],
        )
      ] in
      record { goes_on = λ os is. first os b (then_.goes_on os is) }

  -- what stands at the same places
  pub then_same : (cause : Cause) (told all : List Pos) (a b : Option Offence) → ((p : Pos) → IsAmong told p → IsAmong all p)
      → ((p : Pos) → IsAmong all p → IsAmong told p) → FirstThen table (standing cause told) a b → FirstThen table (standing cause all) a b
  then_same cause told all a b there back then_ =
      then_told (standing cause told) (standing cause all) a b
      (λ o at. let r = of_map (offence cause) told o at in rw r.2 (in_map (offence cause) all r.0 (there r.0 r.1)))
      (λ o at.
      let r = of_map (offence cause) all o at in
      let here : IsAmong (standing cause told) o = rw r.2 (in_map (offence cause) told r.0 (back r.0 r.1)) in
      (o, here, not_before_itself o))
      then_

  -- ---- in one file the place in it decides

  first_of : (x y : ℕ) → x ≤ y → (o : Ordering) → nat_cmp y x ≡ o → ordering_then o Equal ≡ Less → ⊥
  first_of x y on Less is e = let low : y < x = ranked y x Less (sym is) in absurd (omega (arith, low, on))
  first_of x y on Equal is e = cc
  first_of x y on Greater is e = cc

  not_sooner : (p q : Pos) → q.file ≡ p.file → p.at ≤ q.at → position_cmp table q p ≡ nat_cmp q.at p.at
  not_sooner p q file on =
      let tie : slice_cmp nat_cmp (path_of table q.file) (path_of table p.file) ≡ Equal =
      ap (λ (n : ℕ). slice_cmp nat_cmp (path_of table q.file) (path_of table n)) (sym file) ∙ tied_itself nat_list_cmp_total (path_of table q.file) in
      ap (λ (o : Ordering). ordering_then o (nat_cmp q.at p.at)) tie

  pub later_in_file : (cause : Cause) (p q : Pos) → q.file ≡ p.file → p.at ≤ q.at → offence_cmp table (offence cause q) (offence cause p) ≡ Less → ⊥
  later_in_file cause p q file on less =
      let same : nat_cmp (number_of cause) (number_of cause) ≡ Equal = tied_itself nat_cmp_total (number_of cause) in
      let by : ordering_then (nat_cmp q.at p.at) Equal ≡ Less =
      ap (λ (o : Ordering). ordering_then o Equal) (sym (not_sooner p q file on))
      ∙ ap (λ (o : Ordering). ordering_then (position_cmp table q p) o) (sym same) ∙ less in
      first_of p.at q.at on (nat_cmp q.at p.at) refl by
