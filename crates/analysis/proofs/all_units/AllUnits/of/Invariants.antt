use Rattle.std.proofs.Common.{◌≡◌, take}
use Rattle.analysis.proofs.all_units.AllUnits.of.Given as goal

abbrev pub invariant-loop-unit : goal.invariant-loop-unit
invariant-loop-unit l = l.units.items ≡ take l.unit l.a.value.units
