use Rattle.std.proofs.Common.{◌≡◌, take, map}
use Rattle.include_tree.specs.Fronts.{trail_texts}
use Rattle.include_tree.proofs.fronts.Trail.copied.Given as goal

abbrev pub invariant-loop-k : goal.invariant-loop-k
invariant-loop-k l = map (λ r. r.value) l.pieces.items ≡ take l.k (trail_texts l.self)
