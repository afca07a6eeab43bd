use Rattle.std.proofs.lemmas.Result.{IfOk-weaker}
use Rattle.macro_body.proofs.ChainLemmas.{rests-all, no-rests, chains_of-traced}
use Rattle.macro_body.proofs.chains.chains_of.Goals as goal

pub returns-then-m-clause-answer : goal.returns-then-m-clause-answer
returns-then-m-clause-answer c =
    IfOk-weaker c.with_rests.result _ _ (λ all is. rests-all c.args.m.now c.in_ok-chains.chains.items all.items c.in_ok-chains.ensures is) c.with_rests.ensures

pub returns-then-m-clause-traced : goal.returns-then-m-clause-traced
returns-then-m-clause-traced c =
    IfOk-weaker c.with_rests.result _ _
    (λ all is. chains_of-traced c.args.m.now all.items (rests-all c.args.m.now c.in_ok-chains.chains.items all.items c.in_ok-chains.ensures is))
    c.with_rests.ensures

pub returns-else-m-clause-answer : goal.returns-else-m-clause-answer
returns-else-m-clause-answer c = no-rests c.args.m.now c.in_ok-chains.chains.items c.if-m.false c.in_ok-chains.ensures

pub returns-else-m-clause-traced : goal.returns-else-m-clause-traced
returns-else-m-clause-traced c =
    chains_of-traced c.args.m.now c.in_ok-chains.chains.items (no-rests c.args.m.now c.in_ok-chains.chains.items c.if-m.false c.in_ok-chains.ensures)
