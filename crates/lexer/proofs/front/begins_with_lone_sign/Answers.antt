use Rattle.std.proofs.Common.{◌∙◌, sym}
use Rattle.lexer.proofs.SignLemmas.{alone_length}
use Rattle.lexer.proofs.front.begins_with_lone_sign.Goals as goal

pub returns-in-Some : goal.returns-in-Some
returns-in-Some c = λ lone.
    rw c.in-Some.ensures.spelling (alone_length c.in-Some.c _ (sym c.is_alone.ensures ∙ lone))
