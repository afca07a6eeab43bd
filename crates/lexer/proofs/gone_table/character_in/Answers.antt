use Rattle.std.proofs.Common.{arith}
use Rattle.lexer.proofs.GoneLemmas.{gone_before-within}
use Rattle.lexer.proofs.gone_table.character_in.Goals as goal

pub overflow_cast-result : goal.overflow_cast-result
overflow_cast-result c =
    let few = gone_before-within c.args.gone.now c.args.offset c.requires.apart in omega (arith, c.gone_before-count.ensures.answer)

pub overflow_sub-result : goal.overflow_sub-result
overflow_sub-result c =
    let few = gone_before-within c.args.gone.now c.args.offset c.requires.apart in omega (arith, c.gone_before-count.ensures.answer)
