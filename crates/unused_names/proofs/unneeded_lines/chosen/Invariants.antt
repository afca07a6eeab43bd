use Rattle.std.proofs.Common.{◌≡◌, take, filter}
use Rattle.unused_names.specs.Lines.{has_position, is_chosen}
use Rattle.unused_names.proofs.unneeded_lines.chosen.Given as goal

abbrev pub invariant-loop-p : goal.invariant-loop-p
invariant-loop-p l = l.out.items ≡ filter (is_chosen l.a.value (has_position l.lines.needed)) (take l.p-index l.places)
