use Rattle.std.proofs.Common.{◌≡◌, drop}
use Rattle.edited_files.specs.Edited.{with_each}
use Rattle.macro_rules.specs.Edits.{edit_in, edits_of}
use Rattle.macro_rules.specs.Files.{found_from}
use Rattle.macro_rules.proofs.file_edits.edit_files.Given as goal

abbrev pub invariant-loop-number : goal.invariant-loop-number
invariant-loop-number l =
    with_each (found_from (edit_in l.order l.asked.macros.now l.asked.calls.now) l.number (drop l.number l.macros.analysis.value.table)) l.edits
    ≡ edits_of l.macros.members l.macros.analysis.value l.order
