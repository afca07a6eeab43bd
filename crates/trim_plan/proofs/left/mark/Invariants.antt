use Rattle.std.proofs.Common.{◌≡◌, ◌≤◌, ◌⊎◌}
use Rattle.trim_plan.specs.Places.{MarksMore}
use Rattle.trim_plan.proofs.PlaceLemmas.{in_front}
use Rattle.trim_plan.proofs.left.mark.Given as goal

abbrev pub invariant-loop-k : goal.invariant-loop-k
invariant-loop-k l = record {
  marks : MarksMore (in_front l.from l.k) l.initial.gone.items l.gone.items;
  within : (l.k ≤ l.to) ⊎ (l.k ≡ l.from);
}
