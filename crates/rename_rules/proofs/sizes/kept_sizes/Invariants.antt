use Rattle.std.proofs.Common.{◌≡◌, ◌+◌, ◌≤◌, drop}
use Rattle.std.specs.Prelude.{min}
use Rattle.rename_rules.specs.Runs.{kept_sizes, most_size}
use Rattle.rename_rules.proofs.sizes.kept_sizes.Given as goal

abbrev pub invariant-loop-number : goal.invariant-loop-number
invariant-loop-number l =
    record { within : l.total ≤ most_size; total : min (l.total + kept_sizes l.members l.number (drop l.number l.a.value.table)) most_size ≡ min (kept_sizes l.members 0 l.a.value.table) most_size }
