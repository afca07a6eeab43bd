use Rattle.std.proofs.Common.{take}
use Rattle.std.specs.List.{flat_map}
use Rattle.offences.specs.First.{FirstThen}
use Rattle.rename_rules.specs.GnuOffences.{symbols, unit_offences}
use Rattle.rename_rules.specs.Undeclared.{declared, project_units}
use Rattle.rename_rules.proofs.words_and_texts.in_units.Given as goal

abbrev pub invariant-loop-unit : goal.invariant-loop-unit
invariant-loop-unit l =
    let class = l.renaming.class in
    let a = class.analysis.value in
    FirstThen a.table
    (flat_map (unit_offences class.members l.renaming.name (symbols a class.members) (declared a class.members)) (take l.unit (project_units a.workspace.units a.units)))
    l.initial.now l.now
