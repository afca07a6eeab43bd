use Rattle.std.proofs.Common.{arith}
use Rattle.rename_rules.proofs.PrefixLemmas.{files_next, files_all}
use Rattle.rename_rules.proofs.constant_prefixes.prefixes.Goals as goal

pub loop-file-preserved : goal.loop-file-preserved
loop-file-preserved c =
    files_next c.args.renaming.now.class.members c.args.renaming.now.name c.args.a.now.value.table c.loop-file.file c.args.first c.loop-file.now _
    (omega (arith, c.files-file-end.ensures.answer)) c.loop-file.invariant c.in_ok-now.ensures

pub returns : goal.returns
returns c =
    files_all c.args.renaming.now.class.members c.args.renaming.now.name c.args.a.now.value.table c.loop-file.file c.args.first c.loop-file.now
    (omega (arith, c.files-file-end.ensures.answer)) c.loop-file.invariant
