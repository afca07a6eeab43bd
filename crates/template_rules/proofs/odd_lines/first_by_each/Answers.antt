use Rattle.template_rules.proofs.LineOddsLemmas.{best_more}
use Rattle.template_rules.proofs.odd_lines.first_by_each.Goals as goal

pub loop-line-preserved : goal.loop-line-preserved
loop-line-preserved c =
    best_more c.args.lines.now c.loop-line.line-index _ c.args.from c.args.to c.loop-line.best c.sooner-best.result c.loop-line-test.true
    c.sooner-best.ensures c.loop-line.invariant
