use Rattle.c99_grammar.specs.First.{specifiers}
use Rattle.c99_grammar.specs.GnuFirst.{associations_of_gnu}
use Rattle.c99_grammar.proofs.AmongLemmas.{among-append, in_first, in_second}
use Rattle.c99_grammar.proofs.gnu_first.starts_association.Goals as goal

pub returns-then-starts_association_word : goal.returns-then-starts_association_word
returns-then-starts_association_word c =
    in_first _ _ _ _ c.starts_association_word.ensures c.if-starts_association_word.true (among-append associations_of_gnu specifiers c.args.class)

pub returns-else-starts_association_word : goal.returns-else-starts_association_word
returns-else-starts_association_word c =
    in_second _ _ _ _ _ c.starts_association_word.ensures c.if-starts_association_word.false c.starts_specifier.ensures
    (among-append associations_of_gnu specifiers c.args.class)
