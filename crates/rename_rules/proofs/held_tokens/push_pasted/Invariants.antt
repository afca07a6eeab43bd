use Rattle.std.proofs.Common.{◌≡◌, ◌++◌, take}
use Rattle.std.specs.Prelude.{filter}
use Rattle.std.specs.List.{flat_map}
use Rattle.analysis.specs.Analysis.{UnitAnalysis}
use Rattle.offences.specs.Tokens.{holds_member}
use Rattle.rename_rules.proofs.held_tokens.push_pasted.Given as goal

abbrev pub invariant-loop-unit : goal.invariant-loop-unit
invariant-loop-unit l =
    l.out.items ≡ l.initial.out.items ++ filter (holds_member l.class.members) (flat_map (λ (u : UnitAnalysis). u.text.pasted) (take l.unit l.class.analysis.value.units))
