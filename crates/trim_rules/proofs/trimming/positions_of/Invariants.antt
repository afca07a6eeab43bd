use Rattle.std.proofs.Common.{take}
use Rattle.unused_names.specs.Lines.{has_position}
use Rattle.trim_rules.specs.Made.{AgreeOn}
use Rattle.trim_rules.proofs.trimming.positions_of.Given as goal

abbrev pub invariant-loop-p : goal.invariant-loop-p
invariant-loop-p l = AgreeOn (has_position l.set) (take l.p-index l.lines)
