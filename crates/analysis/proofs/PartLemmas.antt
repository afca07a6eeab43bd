-- A character lies in one part.
use Rattle.std.proofs.Common.{◌≡◌, ℕ, ◌-◌, ◌<◌, true, inl, inr, sym, ap, ◌∙◌, subst, arith}
use Rattle.std.proofs.lemmas.Bool.{cases_lt}
use Rattle.cs_base.specs.declared.positions.Part.{Part}
use Rattle.cs_base.specs.declared.positions.Pos.{Pos}
use Rattle.cs_base.proofs.PlaceLemmas.{pos_is as same_pos}
use Rattle.eclass_map.specs.Positions.{along, holds}
use Rattle.eclass_map.proofs.TokenFacts.{Holding, holding}
use Rattle.analysis.specs.Analysis.{AnalysisValue}
use Rattle.analysis.specs.Parts.{IsCharacter, IsStart, IsPart}

same_part : (x y : Part) → x.start ≡ y.start → x.len ≡ y.len → x ≡ y
same_part x y e f = ap (λ (p : Pos). record { start = p; len = x.len }) e ∙ ap (λ (n : ℕ). record { start = y.start; len = n }) f

module _ (a : AnalysisValue) where
  -- no part begins inside another
  no_earlier : (x y : Part) (p : Pos) → IsPart a x → IsPart a y → Holding x p → Holding y p → x.start.at < y.start.at → ⊥
  no_earlier x y p is other h k less =
      let o = y.start.at - x.start.at in
      let here : along x.start o ≡ y.start = same_pos (along x.start o) y.start (h.file ∙ sym k.file) (omega (arith, less)) in
      let P : Pos → Type 0 = IsStart a in
      (is.goes_on o (omega (arith, less)) (omega (arith, less, h, k))).1 (subst P (sym here) other.start)

  no_longer : (x y : Part) → IsPart a x → IsPart a y → x.start ≡ y.start → x.len < y.len → ⊥
  no_longer x y is other same less =
      let some : 0 < x.len = is.some in
      let on = other.goes_on x.len some less in
      let P : Pos → Type 0 = λ s. IsCharacter a (along s x.len) in
      let Q : Pos → Type 0 = λ s. IsStart a (along s x.len) in
      on.1 (subst Q same (is.ends (subst P (sym same) on.0)))

  pub part_once : (x y : Part) (p : Pos) → IsPart a x → IsPart a y → holds x p ≡ true → holds y p ≡ true → x ≡ y
  part_once x y p is other hx hy =
      let h = holding x p hx in
      let k = holding y p hy in
      let start : x.start ≡ y.start =
      same_pos x.start y.start (h.file ∙ sym k.file)
      (elim (cases_lt x.start.at y.start.at) [
        | inl less ↦ absurd (no_earlier x y p is other h k less)
        | inr most ↦ elim (cases_lt y.start.at x.start.at) [
          | inl less ↦ absurd (no_earlier y x p other is k h less)
          | inr least ↦ omega (arith, most, least)
        ]
      ]) in
      same_part x y start
      (elim (cases_lt x.len y.len) [
        | inl less ↦ absurd (no_longer x y is other start less)
        | inr most ↦ elim (cases_lt y.len x.len) [
          | inl less ↦ absurd (no_longer y x other is (sym start) less)
          | inr least ↦ omega (arith, most, least)
        ]
      ])

  pub held_character : (x : Part) (p : Pos) → IsPart a x → holds x p ≡ true → IsCharacter a p
  held_character x p is hx =
      let h = holding x p hx in
      let o = p.at - x.start.at in
      let here : along x.start o ≡ p = same_pos (along x.start o) p h.file (omega (arith, h)) in
      let P : Pos → Type 0 = IsCharacter a in
      elim (cases_lt 0 o) [
        | inl some ↦ subst P here (is.goes_on o some (omega (arith, h))).0
        | inr none ↦ subst P (same_pos x.start p h.file (omega (arith, h, none))) is.held
      ]
