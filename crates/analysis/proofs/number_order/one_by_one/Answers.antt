use Rattle.analysis.proofs.NumberLemmas.{numbers_more}
use Rattle.analysis.proofs.number_order.one_by_one.Goals as goal

pub loop-tok-preserved : goal.loop-tok-preserved
loop-tok-preserved c =
    numbers_more c.loop-tok.yielded c.loop-tok.numbers.items c.push_once.new.numbers.items c.in-Some.tok c.loop-tok.invariant c.in_ok-push_once.ensures
