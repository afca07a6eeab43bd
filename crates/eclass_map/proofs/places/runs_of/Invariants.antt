use Rattle.eclass_map.proofs.RunFacts.{ArePlacedTo}
use Rattle.eclass_map.proofs.places.runs_of.Given as goal

abbrev pub invariant-loop-k : goal.invariant-loop-k
invariant-loop-k l = ArePlacedTo l.k l.tokens l.places.list
