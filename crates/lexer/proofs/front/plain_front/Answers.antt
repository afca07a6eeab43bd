use Rattle.std.proofs.Common.{rules, sym}
use Rattle.lexer.specs.Walk.{spelled}
use Rattle.lexer.proofs.LogicalLemmas.{spelled-first}
use Rattle.lexer.proofs.KindLemmas.{plain_front-sign}
use Rattle.lexer.proofs.front.plain_front.Goals as goal

pub returns-else-is_quote : goal.returns-else-is_quote
returns-else-is_quote c =
    let whole = spelled-first c.args.text.now c.args.first c.args.after.now c.requires.first in
    rw (c.punctuator_front.ensures, whole)
    (sym (plain_front-sign c.args.first (spelled c.args.after.now) (search rules) (search rules) (search rules)))
