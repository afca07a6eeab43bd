use Rattle.std.proofs.Common.{take}
use Rattle.std.specs.List.{flat_map}
use Rattle.cs_base.specs.declared.causes.Cause.TheVariants as cause
use Rattle.offences.specs.First.{standing, FirstThen}
use Rattle.offences.specs.Moves.{renaming_by}
use Rattle.rename_rules.specs.GnuOffences.{failing_by}
use Rattle.rename_rules.proofs.failing_units.in_units.Given as goal

abbrev pub invariant-loop-unit : goal.invariant-loop-unit
invariant-loop-unit l =
    FirstThen l.renaming.class.analysis.value.table (standing cause.Syntax (flat_map (failing_by (renaming_by l.moves)) (take l.unit l.renaming.class.analysis.value.units)))
    l.initial.now l.now
