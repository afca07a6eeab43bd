use Rattle.std.proofs.Common.{take}
use Rattle.std.specs.List.{fold}
use Rattle.std.specs.Option.{IfSome}
use Rattle.class_marks.specs.ClassRoles.{Adds, IsAddedPart}
use Rattle.class_marks.specs.Marks.{with_character}
use Rattle.class_marks.proofs.all_roles.add_characters.Given as goal

abbrev pub invariant-loop-k : goal.invariant-loop-k
invariant-loop-k l =
    Adds l.roles (λ marks. fold (with_character l.classes) marks (take l.k l.tok.origins)) l.initial.all.items l.all.items
    × IfSome l.part (IsAddedPart l.classes l.roles l.all.items)
