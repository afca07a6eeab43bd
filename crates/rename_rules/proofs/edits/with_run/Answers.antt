use Rattle.std.proofs.Common.{sym}
use Rattle.rename_rules.proofs.PathLemmas.{next_text}
use Rattle.rename_rules.proofs.edits.with_run.Goals as goal

pub with_file-requires-clause-text : goal.with_file-requires-clause-text
with_file-requires-clause-text c =
    next_text c.args.a.now.value.table c.args.edits c.args.run.now _ c.in-Some.file.now c.requires.next c.in-len1-up.len_at_least (sym c.in-Some.ensures)
