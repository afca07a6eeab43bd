use Rattle.std.proofs.Common.{drop}
use Rattle.part_respell.specs.Order.{AreInOrder}
use Rattle.trim_rules.proofs.trimming.are_in_order.Given as goal

abbrev pub invariant-loop-part : goal.invariant-loop-part
invariant-loop-part l = AreInOrder l.file l.from (drop l.part-index l.parts) → AreInOrder l.file 0 l.parts
