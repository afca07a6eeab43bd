-- Lemmas that several crates cite.
use Rattle.std.proofs.Common.{List, None, Option, Some, [], arith, length, ◌∷◌, ◌≡◌, ◌≤◌}
use Rattle.std.specs.Option.{option_and_then, option_map_or}
use Rattle.std.specs.Prelude.{slice_get}
use Rattle.edited_unit_laws.proofs.TracedLemmas.{AreChained}
use Rattle.edited_unit_laws.proofs.ListLemmas.{cons_nil}
use Rattle.cs_base.specs.declared.positions.Pos.{Pos}
use Rattle.analysis.specs.Analysis.{AnalysisValue}

pub first_some : (a : AnalysisValue) (os : List (Option Pos)) → AreChained a os → 1 ≤ length os
    → option_map_or (λ p. p ∷ []) (option_and_then (λ (o : Option Pos). o) (slice_get os 0)) [] ≡ [] → ⊥
first_some a [] chained some nothing = absurd (omega arith)
first_some a (None ∷ os) chained some nothing = absurd chained
first_some a (Some p ∷ os) chained some nothing = cons_nil p [] nothing
