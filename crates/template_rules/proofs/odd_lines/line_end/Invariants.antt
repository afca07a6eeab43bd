use Rattle.std.proofs.Common.{◌≡◌, ◌-◌, ◌<◌, ◌≤◌, ℕ, false}
use Rattle.std.specs.Prelude.{◌^◌}
use Rattle.template_rules.specs.LineOffences.{is_line_feed_at}
use Rattle.template_rules.proofs.odd_lines.line_end.Given as goal

abbrev pub invariant-line : goal.invariant-line
invariant-line l = (l.at ≤ l.end) × ((k : ℕ) → l.at ≤ k → k < l.end → is_line_feed_at l.file.bytes k ≡ false)

abbrev pub decreases-line : goal.decreases-line
decreases-line l = 2 ^ 32 - l.end
