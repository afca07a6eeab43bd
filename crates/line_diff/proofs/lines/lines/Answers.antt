use Rattle.std.proofs.Common.{length, sym}
use Rattle.std.proofs.lemmas.Bool.{eqb-true}
use Rattle.line_diff.proofs.LineLemmas.{lines-end, lines-step}
use Rattle.line_diff.proofs.lines.lines.Goals as goal

pub loop-rest-preserved : goal.loop-rest-preserved
loop-rest-preserved c =
    lines-step c.loop-rest.lines.items c.push.new.self.items c.split_at.result.0 c.split_at.result.1 c.loop-rest.rest.now c.args.text.now
    c.line_len.result c.in_ok-push.ensures.items c.split_at.ensures.front c.split_at.ensures.back c.line_len.ensures.first c.loop-rest.invariant

pub returns : goal.returns
returns c =
    lines-end c.loop-rest.lines.items c.loop-rest.rest.now c.args.text.now (eqb-true (length c.loop-rest.rest.now) 0 (sym c.loop-rest-test.ensures))
    c.loop-rest.invariant
