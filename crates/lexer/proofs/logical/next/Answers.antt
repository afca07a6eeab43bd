use Rattle.lexer.proofs.LogicalLemmas.{spelled-next, spelled-end, Passes-next}
use Rattle.lexer.proofs.logical.next.Goals as goal

pub returns-in_err-first-clause-spelling : goal.returns-in_err-first-clause-spelling
returns-in_err-first-clause-spelling c =
    let end = spelled-end c.args.bytes.now c.in_err-first.ensures.none in
    rw c.from_residual.ensures end

pub returns-clause-spelling : goal.returns-clause-spelling
returns-clause-spelling c =
    spelled-next c.args.bytes.now c.in_ok-first.field-0-0.now c.in_ok-first.first c.in_ok-first.after.now
    c.in_ok-first.ensures.here c.in_ok-first.ensures.first

pub returns-clause-behind : goal.returns-clause-behind
returns-clause-behind c =
    Passes-next c.args.bytes.now c.in_ok-first.field-0-0.now c.in_ok-first.first c.in_ok-first.after.now
    c.in_ok-first.ensures.here c.in_ok-first.ensures.first
