use Rattle.std.proofs.Common.{◌≡◌}
use Rattle.template_rules.specs.LineOffences.{line_begin}
use Rattle.template_rules.proofs.odd_lines.line_begin.Given as goal

abbrev pub invariant-line : goal.invariant-line
invariant-line l = line_begin l.file.bytes l.begin ≡ line_begin l.file.bytes l.at

abbrev pub decreases-line : goal.decreases-line
decreases-line l = l.begin
