use Rattle.std.proofs.Common.{◌≡◌, take}
use Rattle.std.specs.List.{fold}
use Rattle.std.specs.Option.{IfSome}
use Rattle.class_marks.specs.Marks.{with_character, IsMarkedPart}
use Rattle.class_marks.proofs.marks.mark_token.Given as goal

abbrev pub invariant-loop-k : goal.invariant-loop-k
invariant-loop-k l =
    (l.marks.items ≡ fold (with_character l.classes) l.initial.marks.items (take l.k l.tok.origins))
    × IfSome l.part (IsMarkedPart l.classes l.marks.items)
