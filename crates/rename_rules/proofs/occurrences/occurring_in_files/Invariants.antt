use Rattle.std.proofs.Common.{drop}
use Rattle.offences.specs.First.{standing, FirstThen}
use Rattle.cs_base.specs.declared.causes.Cause.TheVariants as cause
use Rattle.std.specs.List.{flat_map}
use Rattle.std.specs.Prelude.{Option}
use Rattle.offences.specs.declared.firsts.Offence.{Offence}
use Rattle.rename_rules.specs.Offences.{occurring_place}
use Rattle.offences.specs.Tokens.{kept_tokens}
use Rattle.rename_rules.specs.RenamingValue.{held}
use Rattle.rename_rules.proofs.occurrences.occurring_in_files.Given as goal

abbrev pub invariant-loop-file : goal.invariant-loop-file
invariant-loop-file l =
    (last : Option Offence)
    → FirstThen l.a.value.table (standing cause.Occurs (flat_map (occurring_place l.renaming.class.members l.renaming.name (held l.renaming.class)) (kept_tokens l.file (drop l.file l.a.value.table)))) l.now last
    → FirstThen l.a.value.table (standing cause.Occurs (flat_map (occurring_place l.renaming.class.members l.renaming.name (held l.renaming.class)) (kept_tokens 0 l.a.value.table))) l.initial.now last
