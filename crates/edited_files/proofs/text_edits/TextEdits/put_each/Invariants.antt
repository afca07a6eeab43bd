use Rattle.std.proofs.Common.{◌≡◌, drop}
use Rattle.edited_files.specs.Edited.{with_each}
use Rattle.edited_files.proofs.text_edits.TextEdits.put_each.Given as goal

abbrev pub invariant-loop-k : goal.invariant-loop-k
invariant-loop-k l = with_each (drop l.k l.edits) l.self ≡ with_each l.edits l.initial.self
