use Rattle.std.proofs.Common.{◌≡◌, ◌≤◌, ◌+◌, ◌^◌, take, map}
use Rattle.std.specs.List.{range_with_len}
use Rattle.cs_base.proofs.OriginLemmas.{next_to}
use Rattle.cs_base.proofs.spans.first_of_neighbours.Given as goal

abbrev pub invariant-loop-k : goal.invariant-loop-k
invariant-loop-k l = (take l.k l.origins ≡ map (next_to l.first) (range_with_len 0 l.k)) × (l.first.at + l.k ≤ 2 ^ 32)
