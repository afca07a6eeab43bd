use Rattle.std.proofs.Common.{◌≡◌, ◌++◌, take}
use Rattle.unit_steps.proofs.unit_text.pieces.push_reached.Given as goal

abbrev pub invariant-loop-item : goal.invariant-loop-item
invariant-loop-item l = l.all.items ≡ l.initial.all.items ++ take l.item-index l.reached
