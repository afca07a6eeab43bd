use Rattle.std.proofs.Common.{refl, arith, add-one}
use Rattle.lexer.specs.Walk.{spelled}
use Rattle.lexer.proofs.LogicalLemmas.{spelled-within}
use Rattle.lexer.proofs.PieceLemmas.{token_piece-front}
use Rattle.lexer.proofs.pieces.token_piece.Goals as goal

pub overflow_add-result : goal.overflow_add-result
overflow_add-result c =
    let bound = spelled-within c.args.after.now in
    omega (arith, c.front-kind.ensures.within)

pub returns : goal.returns
returns c =
    rw (token_piece-front c.args.header c.args.first (spelled c.args.after.now) c.front-kind.result.0 c.front-kind.result.1 c.front-kind.ensures, add-one) refl
