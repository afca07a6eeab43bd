-- The unit whose text or binding a call gives: calls count units from 1.
use Rattle.std.proofs.Common.{◌≡◌, ℕ, ◌+◌, ◌-◌, List, Option, Some, None, slice_get, refl, arith}
use Rattle.std.specs.Option.{option_map}
use Rattle.include_tree.specs.Below.unit_steps.Texts.{UnitTextValue}
use Rattle.gnu_bind.specs.Below.scope_bind.Bound.{Bound}
use Rattle.analysis.specs.Analysis.{UnitAnalysis}

text_in : (r : Option UnitAnalysis) (text : UnitTextValue) → option_map (λ (u : UnitAnalysis). u.text) r ≡ Some text
    → (u : UnitAnalysis) × (r ≡ Some u) × (u.text ≡ text)
text_in None text e = absurd (cc)
text_in (Some u) text e = (u, refl, cc)

-- the unit whose text is told
pub unit_of_text : (units : List UnitAnalysis) (k : ℕ) (text : UnitTextValue) → option_map (λ (u : UnitAnalysis). u.text) (slice_get units (k + 1 - 1)) ≡ Some text
    → (u : UnitAnalysis) × (slice_get units k ≡ Some u) × (u.text ≡ text)
unit_of_text units k text e =
    let same : k + 1 - 1 ≡ k = omega arith in
    let f : option_map (λ (u : UnitAnalysis). u.text) (slice_get units k) ≡ Some text = rw same at e in
    text_in (slice_get units k) text f

bound_in : (r : Option UnitAnalysis) (u : UnitAnalysis) (bound : Bound) → r ≡ Some u → option_map (λ (u : UnitAnalysis). u.bound) r ≡ Some bound → u.bound ≡ bound
bound_in None u bound is e = absurd (cc)
bound_in (Some v) u bound is e = cc

pub bound_of_unit : (units : List UnitAnalysis) (k : ℕ) (u : UnitAnalysis) (bound : Bound) → slice_get units k ≡ Some u
    → option_map (λ (u : UnitAnalysis). u.bound) (slice_get units (k + 1 - 1)) ≡ Some bound → u.bound ≡ bound
bound_of_unit units k u bound is e =
    let same : k + 1 - 1 ≡ k = omega arith in
    let f : option_map (λ (u : UnitAnalysis). u.bound) (slice_get units k) ≡ Some bound = rw same at e in
    bound_in (slice_get units k) u bound is f

-- the unit that is asked for by its number
pub unit_of_number : (units : List UnitAnalysis) (k : ℕ) (u : UnitAnalysis) → slice_get units (k + 1 - 1) ≡ Some u → slice_get units k ≡ Some u
unit_of_number units k u is =
    let same : k + 1 - 1 ≡ k = omega arith in
    rw same at is

-- a place has one unit
pub same_unit : (r : Option UnitAnalysis) (u v : UnitAnalysis) → r ≡ Some u → r ≡ Some v → v ≡ u
same_unit r u v is at = cc
