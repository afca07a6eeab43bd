use Rattle.std.proofs.Common.{◌≡◌, take}
use Rattle.edited_files.specs.Fields.{edits_in}
use Rattle.edited_files.proofs.text_edits.copied_edits.Given as goal

abbrev pub invariant-loop-e : goal.invariant-loop-e
invariant-loop-e l = l.made ≡ take l.e-index (edits_in l.edits)
