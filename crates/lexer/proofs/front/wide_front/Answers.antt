use Rattle.std.proofs.Common.{◌≡◌, ◌∷◌, true, sym, ◌∙◌, rules}
use Rattle.lexer.specs.Characters.{is_quote}
use Rattle.lexer.specs.Walk.{spelled}
use Rattle.lexer.proofs.LoneLemmas.{known-open}
use Rattle.lexer.proofs.front.wide_front.Goals as goal

pub quoted-requires : goal.quoted-requires
quoted-requires c = λ h.
    let quote : is_quote c.in_ok-quote.quote ≡ true = search rules in
    known-open c.args.lone (c.args.first ∷ spelled c.args.after.now) (spelled c.in_ok-quote.behind.now) c.in_ok-quote.quote 1
    quote c.requires c.in_ok-quote.ensures.spelling (sym c.knows.ensures ∙ h)
