use Rattle.std.proofs.Common.{◌≡◌, take}
use Rattle.include_tree.proofs.fronts.copied_paths.Given as goal

abbrev pub invariant-loop-k : goal.invariant-loop-k
invariant-loop-k l = l.all.items ≡ take l.k l.paths
