use Rattle.std.proofs.Common.{◌≡◌, drop}
use Rattle.macro_plan.specs.Edited.{bytes_for}
use Rattle.macro_plan.proofs.edited_sources.bytes_for.Given as goal

abbrev pub invariant-loop-k : goal.invariant-loop-k
invariant-loop-k l = bytes_for l.path (drop l.k l.edits) ≡ bytes_for l.path l.edits
