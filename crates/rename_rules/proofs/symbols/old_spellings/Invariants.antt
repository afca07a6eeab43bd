use Rattle.std.proofs.Common.{take}
use Rattle.std.specs.List.{flat_map}
use Rattle.rename_rules.specs.GnuOffences.{symbols_in}
use Rattle.rename_rules.specs.GnuTexts.{HaveTexts}
use Rattle.rename_rules.specs.Undeclared.{declared_in, project_units, HaveNames}
use Rattle.rename_rules.proofs.symbols.old_spellings.Given as goal

abbrev pub invariant-loop-unit : goal.invariant-loop-unit
invariant-loop-unit l =
    HaveTexts l.texts.items (flat_map (symbols_in l.class.members) (take l.unit l.class.analysis.value.units))
    × HaveNames l.names.items
    (flat_map (declared_in l.class.members) (take l.unit (project_units l.class.analysis.value.workspace.units l.class.analysis.value.units)))
