use Rattle.std.proofs.Common.{take}
use Rattle.calls_of.specs.Numbers.{AreCalls}
use Rattle.calls_of.proofs.numbering.edges_of.Given as goal

abbrev pub invariant-loop-call : goal.invariant-loop-call
invariant-loop-call l = AreCalls l.nodes (take l.call-index l.calls) l.edges.items
