use Rattle.lexer.proofs.LogicalLemmas.{Passes-step-slice}
use Rattle.lexer.proofs.logical.first_character.Goals as goal

pub loop-rest-preserved : goal.loop-rest-preserved
loop-rest-preserved c =
    rw c.split_at.ensures.back
    (Passes-step-slice c.args.bytes.now c.loop-rest.rest.now c.gone_length-gone.result c.in-len1-up.len_at_least
    c.gone_length-gone.ensures.answer c.if-gone-eq0.false c.gone_length-gone.ensures.bound c.loop-rest.invariant)
