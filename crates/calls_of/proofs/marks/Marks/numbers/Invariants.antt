use Rattle.std.proofs.Common.{◌≡◌}
use Rattle.calls_of.specs.Graph.{numbers_of}
use Rattle.calls_of.specs.Walking.{is_marked}
use Rattle.calls_of.proofs.marks.Marks.numbers.Given as goal

abbrev pub invariant-loop-node : goal.invariant-loop-node
invariant-loop-node l = l.numbers.items ≡ numbers_of (is_marked l.self) l.node
