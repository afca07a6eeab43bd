use Rattle.macro_plan.specs.Edited.{AreEdited}
use Rattle.macro_plan.proofs.edited_sources.edited_sources.Given as goal

abbrev pub invariant-loop-number : goal.invariant-loop-number
invariant-loop-number l = AreEdited l.a.value.table l.edits l.files.files
