use Rattle.std.proofs.Common.{◌≡◌, take}
use Rattle.eclass_map.proofs.places.listed.Given as goal

abbrev pub invariant-loop-k : goal.invariant-loop-k
invariant-loop-k l = l.places.list ≡ take l.k l.positions
