use Rattle.std.proofs.Common.{◌≡◌, ◌++◌, take, drop, map}
use Rattle.class_labels.specs.Regrown.{moved_row}
use Rattle.class_labels.proofs.regrowth.move_rows.Given as goal

abbrev pub invariant-loop-index : goal.invariant-loop-index
invariant-loop-index l = l.rows ≡ map (moved_row l.numbers) (take l.index l.initial.rows) ++ drop l.index l.initial.rows
