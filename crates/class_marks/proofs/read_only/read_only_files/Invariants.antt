use Rattle.std.proofs.Common.{◌≡◌, length}
use Rattle.class_marks.specs.Touching.{AreReadOnly}
use Rattle.class_marks.proofs.read_only.read_only_files.Given as goal

abbrev pub invariant-loop-number : goal.invariant-loop-number
invariant-loop-number l = (length l.files.items ≡ l.number) × AreReadOnly l.a.value l.files.items
