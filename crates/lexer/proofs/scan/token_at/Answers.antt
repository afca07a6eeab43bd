use Rattle.std.proofs.Common.{arith}
use Rattle.std.proofs.lemmas.List.{length-take}
use Rattle.lexer.proofs.LogicalLemmas.{spelled-within}
use Rattle.lexer.proofs.scan.token_at.Goals as goal

pub file_token-requires : goal.file_token-requires
file_token-requires c =
    let few = spelled-within c.args.here.now in
    rw (c.in-Some.ensures, length-take) (omega arith)

pub file_token-requires-in-None : goal.file_token-requires-in-None
file_token-requires-in-None c =
    let few = spelled-within c.args.here.now in
    rw (c.as_slice.ensures.value, c.in_ok-text-in-None.ensures, length-take) (omega arith)
