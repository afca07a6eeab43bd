use Rattle.std.proofs.Common.{take}
use Rattle.std.specs.List.{flat_map}
use Rattle.offences.specs.First.{FirstThen}
use Rattle.template_rules.specs.GnuOffences.{gnu_unit, spellings}
use Rattle.template_rules.proofs.gnu_units.at_gnu_units.Given as goal

abbrev pub invariant-loop-unit : goal.invariant-loop-unit
invariant-loop-unit l =
    FirstThen l.functions.analysis.value.table
    (flat_map (gnu_unit l.functions.members (spellings l.functions.members l.functions.analysis.value)) (take l.unit l.functions.analysis.value.units)) l.initial.now l.now
