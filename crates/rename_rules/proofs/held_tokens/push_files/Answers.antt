use Rattle.std.proofs.Common.{◌++◌, length, ap, arith}
use Rattle.analysis.specs.Analysed.{Analysed}
use Rattle.std.specs.Prelude.{filter}
use Rattle.analysis.specs.FileTokens.{table_tokens}
use Rattle.offences.specs.Tokens.{holds_member}
use Rattle.rename_rules.proofs.UnitLemmas.{held_files_more, held_files_all}
use Rattle.rename_rules.proofs.held_tokens.push_files.Goals as goal

pub loop-file-preserved : goal.loop-file-preserved
loop-file-preserved c =
    held_files_more (holds_member c.args.class.now.members) c.args.class.now.analysis.value.table c.loop-file.file c.loop-file.out.items c.push_numbered.new.out.items
    (c.args.out.now.items ++ filter (holds_member c.args.class.now.members) (table_tokens 0 c.args.class.now.analysis.value.table))
    (omega (arith, ap (λ (x : Analysed). length x.value.table) c.analysis-a.ensures, c.files-file-end.ensures.answer)) c.loop-file.invariant c.in_ok-push_numbered.ensures

pub returns : goal.returns
returns c =
    held_files_all (holds_member c.args.class.now.members) c.args.class.now.analysis.value.table c.loop-file.file c.loop-file.out.items
    (c.args.out.now.items ++ filter (holds_member c.args.class.now.members) (table_tokens 0 c.args.class.now.analysis.value.table))
    (omega (arith, ap (λ (x : Analysed). length x.value.table) c.analysis-a.ensures, c.files-file-end.ensures.answer)) c.loop-file.invariant
