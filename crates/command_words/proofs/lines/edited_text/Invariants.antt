use Rattle.std.proofs.Common.{◌≡◌, ◌++◌, drop}
use Rattle.command_words.specs.Message.{edited_lines}
use Rattle.command_words.proofs.lines.edited_text.Given as goal

abbrev pub invariant-loop-k : goal.invariant-loop-k
invariant-loop-k l = l.text.items ++ edited_lines (drop l.k l.edits) ≡ edited_lines l.edits
