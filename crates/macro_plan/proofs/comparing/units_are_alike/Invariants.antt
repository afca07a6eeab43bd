use Rattle.std.proofs.Common.{◌≡◌, map, take}
use Rattle.analysis.specs.Below.unit_steps.Texts.{UnitTextValue}
use Rattle.analysis.specs.Analysis.{UnitAnalysis}
use Rattle.macro_plan.specs.Kept.{plains}
use Rattle.macro_plan.proofs.comparing.units_are_alike.Given as goal

abbrev pub invariant-loop-unit : goal.invariant-loop-unit
invariant-loop-unit l =
    map (λ (t : UnitTextValue). plains t.toks) (take l.unit l.now.texts) ≡ map (λ (u : UnitAnalysis). plains u.text.toks) (take l.unit l.a.value.units)
