use Rattle.std.proofs.Common.{◌≡◌, sym, ◌∙◌, arith}
use Rattle.template_rules.proofs.OddLemmas.{line_same, line_ends, line_first}
use Rattle.template_rules.proofs.odd_lines.line_begin.Goals as goal

pub returns-then-is_line_feed_at : goal.returns-then-is_line_feed_at
returns-then-is_line_feed_at c =
    sym (line_ends c.args.file.now.bytes c.line.begin c.line-test.true (sym c.is_line_feed_at.ensures ∙ c.if-is_line_feed_at.true)) ∙ c.line.invariant

pub line-preserved : goal.line-preserved
line-preserved c =
    line_same c.args.file.now.bytes c.line.begin c.line-test.true (sym c.is_line_feed_at.ensures ∙ c.if-is_line_feed_at.false) ∙ c.line.invariant

pub returns : goal.returns
returns c =
    let none : c.line.begin ≡ 0 = omega (arith, c.line-test.false) in
    sym (line_first c.args.file.now.bytes) ∙ rw none at c.line.invariant
