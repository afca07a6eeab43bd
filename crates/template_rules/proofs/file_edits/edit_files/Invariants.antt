use Rattle.std.proofs.Common.{◌≡◌, drop}
use Rattle.edited_files.specs.Edited.{with_each}
use Rattle.template_rules.specs.FileLists.{edits_from, edits_of}
use Rattle.template_rules.proofs.file_edits.edit_files.Given as goal

abbrev pub invariant-loop-number : goal.invariant-loop-number
invariant-loop-number l =
    with_each (edits_from l.found.items l.order l.number (drop l.number l.functions.analysis.value.table)) l.edits ≡ edits_of l.functions.members l.functions.analysis.value l.order
