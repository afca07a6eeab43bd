use Rattle.std.proofs.Common.{◌≡◌, ◌-◌, ◌<◌, ◌≤◌, ℕ}
use Rattle.line_diff.specs.Rows.{is_near}
use Rattle.line_diff.specs.Pairs.{rows_in}
use Rattle.line_diff.proofs.rows.stretch_end.Given as goal

abbrev pub invariant-loop-end : goal.invariant-loop-end
invariant-loop-end l =
    (l.k < l.end) × (l.end ≤ l.count) × ((j : ℕ) → l.k ≤ j → j < l.end → is_near (rows_in l.olds l.news) j ≡ l.near)

abbrev pub decreases-loop-end : goal.decreases-loop-end
decreases-loop-end l = l.count - l.end
