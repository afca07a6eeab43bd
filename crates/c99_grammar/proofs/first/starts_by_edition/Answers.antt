use Rattle.c99_grammar.specs.First.{shared, added, by_c11}
use Rattle.c99_grammar.proofs.AmongLemmas.{among-append, in_first, in_second}
use Rattle.c99_grammar.proofs.first.starts_by_edition.Goals as goal

pub returns-then-starts_by_each : goal.returns-then-starts_by_each
returns-then-starts_by_each c =
    in_first _ _ _ _ c.starts_by_each.ensures c.if-starts_by_each.true
    (among-append (shared c.args.production) (by_c11 (added c.args.production) c.args.edition) c.args.class)

pub returns-else-starts_by_each : goal.returns-else-starts_by_each
returns-else-starts_by_each c =
    in_second _ _ _ _ _ c.starts_by_each.ensures c.if-starts_by_each.false c.starts_by.ensures
    (among-append (shared c.args.production) (by_c11 (added c.args.production) c.args.edition) c.args.class)
