use Rattle.std.proofs.Common.{◌≡◌, true, sym, rules}
use Rattle.lexer.specs.Characters.{is_quote}
use Rattle.lexer.specs.Walk.{spelled}
use Rattle.lexer.proofs.LoneLemmas.{IsLone-with}
use Rattle.lexer.proofs.lone.searched.Goals as goal

pub returns-in-None : goal.returns-in-None
returns-in-None c =
    let quote : is_quote c.args.first ≡ true = search rules in
    rw (c.with.ensures, c.count_on_line.ensures.answer)
    (IsLone-with c.args.lone c.args.first (spelled c.args.after.now) quote (sym c.in-None.ensures.answer) c.requires)
