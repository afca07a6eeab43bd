use Rattle.c99_grammar.specs.First.{specifiers, statements}
use Rattle.c99_grammar.proofs.AmongLemmas.{among-append, in_first, in_second}
use Rattle.c99_grammar.proofs.first.starts_block_item.Goals as goal

pub returns-then-starts_specifier : goal.returns-then-starts_specifier
returns-then-starts_specifier c =
    in_first _ _ _ _ c.starts_specifier.ensures c.if-starts_specifier.true (among-append specifiers statements c.args.class)

pub returns-else-starts_specifier : goal.returns-else-starts_specifier
returns-else-starts_specifier c =
    in_second _ _ _ _ _ c.starts_specifier.ensures c.if-starts_specifier.false c.starts_statement.ensures (among-append specifiers statements c.args.class)
