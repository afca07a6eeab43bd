use Rattle.std.proofs.Common.{◌∷◌, refl, sym, ◌∙◌}
use Rattle.lexer.specs.Walk.{spelled}
use Rattle.lexer.proofs.LoneLemmas.{known-open}
use Rattle.lexer.proofs.front.quoted_front.Goals as goal

pub quoted-requires : goal.quoted-requires
quoted-requires c = λ h.
    known-open c.args.lone (c.args.quote ∷ spelled c.args.after.now) (spelled c.args.after.now) c.args.quote 0
    c.requires.quote c.requires.lone refl (sym c.knows.ensures ∙ h)
