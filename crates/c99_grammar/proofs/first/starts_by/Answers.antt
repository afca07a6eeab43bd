use Rattle.std.proofs.Common.{sym, ap, ◌∙◌}
use Rattle.c99_grammar.specs.Classes.{among}
use Rattle.c99_grammar.specs.First.{added, by_c11}
use Rattle.c99_grammar.proofs.AmongLemmas.{among-none, among-all}
use Rattle.c99_grammar.proofs.first.starts_by.Goals as goal

pub returns-in-C99 : goal.returns-in-C99
returns-in-C99 c =
    among-none (added c.args.production) c.args.class
    ∙ ap (λ s. among (by_c11 (added c.args.production) s) c.args.class) (sym c.in-C99.is)

pub returns-in-C11 : goal.returns-in-C11
returns-in-C11 c =
    c.starts_added.ensures
    ∙ among-all (added c.args.production) c.args.class
    ∙ ap (λ s. among (by_c11 (added c.args.production) s) c.args.class) (sym c.in-C11.is)
