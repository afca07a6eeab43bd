use Rattle.std.proofs.Common.{◌≡◌, ℕ, ◌<◌, Some, false, slice_get}
use Rattle.cs_base.specs.declared.positions.Part.{Part}
use Rattle.analysis.specs.Places.{is_read_only}
use Rattle.class_marks.proofs.read_only.any_read_only.Given as goal

abbrev pub invariant-loop-member : goal.invariant-loop-member
invariant-loop-member l =
    (j : ℕ) → j < l.member-index → (m : Part) → slice_get l.members j ≡ Some m → is_read_only l.a.value.table l.a.value.workspace.readonly m.start.file ≡ false
