use Rattle.std.proofs.Common.{[]}
use Rattle.std.proofs.lemmas.List.{take_all}
use Rattle.template_rules.proofs.LineOddsLemmas.{lines_more, no_lines}
use Rattle.template_rules.proofs.odd_lines.lines_of.Goals as goal

pub loop-p-preserved : goal.loop-p-preserved
loop-p-preserved c =
    lines_more c.args.a.now.value.table c.args.odds.now c.loop-p.p-index (record { file = 0; at = 0 }) c.loop-p.lines.items _ c.new_line-line.result c.loop-p-test.true
    c.in_ok-push_some.ensures (rw c.deref.ensures.value at c.new_line-line.ensures) c.loop-p.invariant
