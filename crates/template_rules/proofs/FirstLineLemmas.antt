-- The first of some lines, and of one more.
use Rattle.std.proofs.Common.{◌≡◌, ℕ, ◌<◌, ◌≤◌, true, false, List, [], ◌∷◌, ◌++◌, Option, Some, None, inl, inr, refl, arith}
use Rattle.cs_base.specs.declared.positions.Pos.{Pos}
use Rattle.cs_base.proofs.BoolLemmas.{not_both}
use Rattle.offences.proofs.AmongLemmas.{either_among, still_among, now_among}
use Rattle.template_rules.specs.declared.odd_lines.OddLine.{OddLine}
use Rattle.template_rules.specs.OddLines.{FirstAmong, is_line_among}

module _ (lines : List OddLine) (from : Pos) (to : ℕ) (o : OddLine) where
  pub first_kept : (best : Option Pos) → is_line_among from to o ≡ false → FirstAmong lines from to best → FirstAmong (lines ++ o ∷ []) from to best
  first_kept None out none = λ p at. elim (either_among lines o p at) [
    | inl old ↦ none p old
    | inr same ↦ rw same out
  ]
  first_kept (Some b) out first = (
    (first.0.0, still_among lines o first.0.0 first.0.1, first.0.2, first.0.3),
    λ p at is. elim (either_among lines o p at) [
      | inl old ↦ first.1 p old is
      | inr same ↦ let other : is_line_among from to p ≡ false = rw same out in absurd (not_both (is_line_among from to p) is other)
    ],
  )

  pub first_new : is_line_among from to o ≡ true → FirstAmong lines from to None → FirstAmong (lines ++ o ∷ []) from to (Some o.first)
  first_new here none = (
    (o, now_among lines o, refl, here),
    λ p at is. elim (either_among lines o p at) [
      | inl old ↦ absurd (not_both (is_line_among from to p) is (none p old))
      | inr same ↦ rw same (omega arith)
    ],
  )

  pub first_sooner : (b : Pos) → is_line_among from to o ≡ true → o.first.at < b.at → FirstAmong lines from to (Some b)
      → FirstAmong (lines ++ o ∷ []) from to (Some o.first)
  first_sooner b here less first = (
    (o, now_among lines o, refl, here),
    λ p at is. elim (either_among lines o p at) [
      | inl old ↦ let on = first.1 p old is in omega (arith, less, on)
      | inr same ↦ rw same (omega arith)
    ],
  )

  pub first_still : (b : Pos) → b.at ≤ o.first.at → FirstAmong lines from to (Some b) → FirstAmong (lines ++ o ∷ []) from to (Some b)
  first_still b on first = (
    (first.0.0, still_among lines o first.0.0 first.0.1, first.0.2, first.0.3),
    λ p at is. elim (either_among lines o p at) [
      | inl old ↦ first.1 p old is
      | inr same ↦ rw same on
    ],
  )
