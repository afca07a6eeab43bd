use Rattle.unit_steps.proofs.FirstNamesLemmas.{firsts-more}
use Rattle.unit_steps.proofs.first_names.FirstNames.of.Goals as goal

pub loop-tok-preserved : goal.loop-tok-preserved
loop-tok-preserved c =
    firsts-more c.loop-tok.names c.add.new.self c.args.toks.now c.loop-tok.tok-index c.tok-item.result c.loop-tok-test.true c.tok-item.is c.in_ok-add.ensures c.loop-tok.invariant
