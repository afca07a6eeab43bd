-- A search for the token that holds a character, by halving.
use Rattle.std.proofs.Common.{◌≡◌, ℕ, ◌-◌, ◌<◌, ◌≤◌, true, false, List, Some, None, sym, subst, ◌∙◌, inl, inr, arith}
use Rattle.std.specs.Prelude.{slice_get}
use Rattle.std.proofs.lemmas.Option.{same_Some}
use Rattle.std.proofs.lemmas.Bool.{cases_eq, cases_lt, leb-true, le-leb, both_ways, false_from_ne_true}
use Rattle.cs_base.specs.declared.positions.Pos.{Pos}
use Rattle.cs_base.specs.Token.{Token}
use Rattle.eclass_map.specs.Positions.{holds}
use Rattle.eclass_map.proofs.TokenFacts.{holding}
use Rattle.analysis.specs.FileTokens.{span_of}
use Rattle.analysis.specs.TokenSearch.{AreInLine, IsOver, begins_by}

-- what holds a character has begun by it
begun_where_held : (t : Token) (p : Pos) → holds (span_of t) p ≡ true → begins_by p.at t ≡ true
begun_where_held t p e = le-leb (span_of t).start.at p.at (holding (span_of t) p e).from

-- and does not hold the character
not_held_before : (toks : List Token) (p : Pos) (j k : ℕ) (t u : Token) → AreInLine p.file toks → j < k → slice_get toks j ≡ Some t → slice_get toks k ≡ Some u
    → begins_by p.at u ≡ true → holds (span_of t) p ≡ true → ⊥
not_held_before toks p j k t u are less e f begun held =
    let apart = are.ordered j k t u less e f in
    let from = leb-true (span_of u).start.at p.at begun in
    let h = holding (span_of t) p held in
    let a = h.from in
    let b = h.less in
    omega arith

-- one token holds a character at most
pub over_once : (toks : List Token) (p : Pos) (j k : ℕ) (t u : Token) → AreInLine p.file toks → slice_get toks j ≡ Some t → slice_get toks k ≡ Some u
    → holds (span_of t) p ≡ true → holds (span_of u) p ≡ true → j ≡ k
over_once toks p j k t u are e f held also = elim (cases_eq j k) [
  | inl same ↦ same
  | inr apart ↦ elim (cases_lt j k) [
    | inl less ↦ absurd (not_held_before toks p j k t u are less e f (begun_where_held u p also) held)
    | inr more ↦ absurd (not_held_before toks p k j u t are (omega arith) f e (begun_where_held t p held) also)
  ]
]

-- ---- halving

pub record Halved (toks : List Token) (p : Pos) (count : ℕ) : Type 0 where
  pub before : (k : ℕ) (t : Token) → k < count → slice_get toks k ≡ Some t → begins_by p.at t ≡ true
  pub behind : (k : ℕ) (t : Token) → count ≤ k → slice_get toks k ≡ Some t → begins_by p.at t ≡ false

pub over_not : (toks : List Token) (p : Pos) (count : ℕ) (t : Token) → AreInLine p.file toks → Halved toks p count → 0 < count → slice_get toks (count - 1) ≡ Some t
    → holds (span_of t) p ≡ false → IsOver toks p None
over_not toks p count t are h some e other = λ k u f. false_from_ne_true (holds (span_of u) p) (λ held. elim (cases_lt k count) [
  | inl less ↦ elim (cases_eq k (count - 1)) [
    | inl same ↦
        let P : ℕ → Type 0 = λ v. slice_get toks v ≡ Some u in
        let Q : Token → Type 0 = λ v. holds (span_of v) p ≡ true in
        both_ways (holds (span_of t) p) other (subst Q (same_Some u t (sym (subst P same f) ∙ e)) held)
    | inr apart ↦ not_held_before toks p k (count - 1) u t are (omega arith) f e (h.before (count - 1) t (omega arith) e) held
  ]
  | inr most ↦ both_ways (begins_by p.at u) (h.behind k u most f) (begun_where_held u p held)
])
