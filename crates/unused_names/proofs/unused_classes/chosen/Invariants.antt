use Rattle.std.proofs.Common.{take}
use Rattle.class_marks.specs.Keeping.{Keeps}
use Rattle.unused_names.specs.Unused.{IsUnused}
use Rattle.unused_names.proofs.unused_classes.chosen.Given as goal

abbrev pub invariant-loop-part : goal.invariant-loop-part
invariant-loop-part l = Keeps (IsUnused l.a.value) (take l.part-index l.firsts) l.parts.items
