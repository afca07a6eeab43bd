use Rattle.analysis.specs.BroughtNumbers.{AreNumbers}
use Rattle.analysis.proofs.number_order.one_by_one.Given as goal

-- of the numbers so far
abbrev pub invariant-loop-tok : goal.invariant-loop-tok
invariant-loop-tok l = AreNumbers l.yielded l.numbers.items
