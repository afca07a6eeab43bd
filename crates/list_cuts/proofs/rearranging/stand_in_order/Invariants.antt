use Rattle.std.proofs.Common.{◌≡◌, drop}
use Rattle.list_cuts.specs.Spans.{stand_in_order}
use Rattle.list_cuts.proofs.rearranging.stand_in_order.Given as goal

abbrev pub invariant-loop-span : goal.invariant-loop-span
invariant-loop-span l = stand_in_order l.from l.size (drop l.span-index l.list) ≡ stand_in_order 0 l.size l.list
