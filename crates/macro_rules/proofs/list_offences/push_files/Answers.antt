use Rattle.std.proofs.Common.{◌++◌, arith}
use Rattle.macro_rules.specs.Files.{in_files}
use Rattle.macro_rules.specs.FileOffences.{file_offences}
use Rattle.macro_rules.proofs.WalkLemmas.{files_next, files_all}
use Rattle.macro_rules.proofs.list_offences.push_files.Goals as goal

pub loop-number-preserved : goal.loop-number-preserved
loop-number-preserved c =
    files_next (file_offences c.args.a.now.value c.args.asked.now.macros.now c.args.asked.now.calls.now c.args.asked.now.torn.now c.args.asked.now.lines.now) c.args.a.now.value.table c.loop-number.number c.loop-number.out.items c.push_numbered.new.out.items (c.args.out.now.items ++ in_files (file_offences c.args.a.now.value c.args.asked.now.macros.now c.args.asked.now.calls.now c.args.asked.now.torn.now c.args.asked.now.lines.now) c.args.a.now.value.table)
    (omega (arith, c.files-number-end.ensures.answer)) c.loop-number.invariant c.in_ok-push_numbered.ensures

pub returns : goal.returns
returns c =
    files_all (file_offences c.args.a.now.value c.args.asked.now.macros.now c.args.asked.now.calls.now c.args.asked.now.torn.now c.args.asked.now.lines.now) c.args.a.now.value.table c.loop-number.number c.loop-number.out.items (c.args.out.now.items ++ in_files (file_offences c.args.a.now.value c.args.asked.now.macros.now c.args.asked.now.calls.now c.args.asked.now.torn.now c.args.asked.now.lines.now) c.args.a.now.value.table)
    (omega (arith, c.files-number-end.ensures.answer)) c.loop-number.invariant
