use Rattle.c99_grammar.specs.GnuFirst.{without_bracket, added_by_gnu}
use Rattle.c99_grammar.proofs.AmongLemmas.{among-append, in_first, in_second}
use Rattle.c99_grammar.proofs.gnu_first.starts_by_gnu.Goals as goal

pub returns-then-starts_without_bracket : goal.returns-then-starts_without_bracket
returns-then-starts_without_bracket c =
    in_first _ _ _ _ c.starts_without_bracket.ensures c.if-starts_without_bracket.true
    (among-append (without_bracket c.args.production) (added_by_gnu c.args.production) c.args.class)

pub returns-else-starts_without_bracket : goal.returns-else-starts_without_bracket
returns-else-starts_without_bracket c =
    in_second _ _ _ _ _ c.starts_without_bracket.ensures c.if-starts_without_bracket.false c.starts_added_by_gnu.ensures
    (among-append (without_bracket c.args.production) (added_by_gnu c.args.production) c.args.class)
