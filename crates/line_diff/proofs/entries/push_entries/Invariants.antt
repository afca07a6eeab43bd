use Rattle.std.proofs.Common.{◌≡◌, ◌++◌, ◌≤◌}
use Rattle.line_diff.specs.Pairs.{entries_text}
use Rattle.line_diff.proofs.entries.push_entries.Given as goal

abbrev pub invariant-loop-j : goal.invariant-loop-j
invariant-loop-j l =
    (l.told ≤ l.j)
    × (l.text.items ++ entries_text l.olds l.news l.told l.j l.end ≡ l.initial.text.items ++ entries_text l.olds l.news l.k l.k l.end)
