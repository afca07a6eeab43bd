use Rattle.std.proofs.Common.{◌≡◌, [], take}
use Rattle.std.specs.List.{flat_map}
use Rattle.analysis.specs.GnuUnits.{gnu_place}
use Rattle.template_plan.proofs.plan.has_gnu.Given as goal

abbrev pub invariant-loop-unit : goal.invariant-loop-unit
invariant-loop-unit l = flat_map gnu_place (take l.unit l.a.value.units) ≡ []
