use Rattle.rename_rules.proofs.EscapeLemmas.{escaped_next, escaped_all}
use Rattle.rename_rules.proofs.escapes.escaped_in.Goals as goal

pub loop-tok-init : goal.loop-tok-init
loop-tok-init c = λ last later. later

pub loop-tok-preserved : goal.loop-tok-preserved
loop-tok-preserved c =
    rw (← c.begins_escape-behind.ensures) at
    (escaped_next c.args.class.now.members c.args.a.now.value.table c.args.toks.now c.loop-tok.tok-index c.tok-item.result c.loop-tok.behind
    c.args.first c.loop-tok.now c.escaped_at-now.result c.loop-tok-test.true c.tok-item.is c.loop-tok.invariant c.escaped_at-now.ensures)

pub returns : goal.returns
returns c =
    escaped_all c.args.class.now.members c.args.a.now.value.table c.args.toks.now c.loop-tok.tok-index c.loop-tok.behind c.args.first c.loop-tok.now
    c.loop-tok-test.false c.loop-tok.invariant
