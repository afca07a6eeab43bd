use Rattle.std.proofs.Common.{arith}
use Rattle.std.specs.List.{flat_map}
use Rattle.cs_base.specs.declared.causes.Cause.TheVariants as cause
use Rattle.offences.specs.First.{standing}
use Rattle.offences.specs.Tokens.{kept_tokens}
use Rattle.rename_rules.specs.Offences.{occurring_place}
use Rattle.rename_rules.specs.RenamingValue.{held}
use Rattle.rename_rules.proofs.UnitLemmas.{files_next, files_all}
use Rattle.rename_rules.proofs.occurrences.occurring_in_files.Goals as goal

pub loop-file-preserved : goal.loop-file-preserved
loop-file-preserved c =
    files_next c.args.a.now.value.table (standing cause.Occurs (flat_map (occurring_place c.args.renaming.now.class.members c.args.renaming.now.name (held c.args.renaming.now.class)) (kept_tokens 0 c.args.a.now.value.table))) cause.Occurs (occurring_place c.args.renaming.now.class.members c.args.renaming.now.name (held c.args.renaming.now.class)) c.loop-file.file c.args.first c.loop-file.now c.occurring_in_numbered-now.result
    (omega (arith, c.files-file-end.ensures.answer)) c.loop-file.invariant c.occurring_in_numbered-now.ensures

pub returns : goal.returns
returns c =
    files_all c.args.a.now.value.table (standing cause.Occurs (flat_map (occurring_place c.args.renaming.now.class.members c.args.renaming.now.name (held c.args.renaming.now.class)) (kept_tokens 0 c.args.a.now.value.table))) cause.Occurs (occurring_place c.args.renaming.now.class.members c.args.renaming.now.name (held c.args.renaming.now.class)) c.loop-file.file c.args.first c.loop-file.now
    (omega (arith, c.files-file-end.ensures.answer)) c.loop-file.invariant
