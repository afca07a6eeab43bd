use Rattle.std.proofs.Common.{◌≡◌, ◌+◌, ◌-◌, length}
use Rattle.cs_base.specs.declared.positions.Pos.{Pos}
use Rattle.unseen_names.specs.Characters.{is_marked}
use Rattle.unseen_names.proofs.characters.reach.Given as goal

abbrev pub invariant-room : goal.invariant-room
invariant-room l = (p : Pos) → is_marked l.marks.items p ≡ is_marked l.initial.marks.items p

abbrev pub decreases-room : goal.decreases-room
decreases-room l = l.file + 1 - length l.marks.items
