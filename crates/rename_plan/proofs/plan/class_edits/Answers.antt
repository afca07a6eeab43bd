use Rattle.rename_rules.proofs.RunLemmas.{members_apart}
use Rattle.rename_rules.proofs.PathLemmas.{members_by_path}
use Rattle.rename_plan.proofs.plan.class_edits.Goals as goal

pub edit_files-requires-clause-apart : goal.edit_files-requires-clause-apart
edit_files-requires-clause-apart c =
    let of_part = c.members.ensures.of_part in
    rw c.members.ensures.answer (members_apart _ of_part.0 _ of_part.1)

pub edit_files-requires-clause-by_path : goal.edit_files-requires-clause-by_path
edit_files-requires-clause-by_path c =
    let of_part = rw (← c.analysis-a.ensures) at c.members.ensures.of_part in
    rw c.members.ensures.answer
    (members_by_path c.analysis-a.result.now.value of_part.0 _ c.files-files.ensures.lines c.files-files.ensures.once of_part.1)
