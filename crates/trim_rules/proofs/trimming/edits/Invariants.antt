use Rattle.std.proofs.Common.{◌≡◌, drop}
use Rattle.edited_files.specs.Edited.{with_each}
use Rattle.trim_rules.specs.Trimmed.{edits_from, edits_of}
use Rattle.trim_rules.proofs.trimming.edits.Given as goal

abbrev pub invariant-loop-number : goal.invariant-loop-number
invariant-loop-number l = with_each (edits_from l.lines l.number (drop l.number l.a.value.table)) l.edits ≡ edits_of l.lines l.a.value.table
