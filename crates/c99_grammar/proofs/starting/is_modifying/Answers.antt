use Rattle.c99_grammar.specs.GnuFirst.{qualifying, two_brackets}
use Rattle.c99_grammar.specs.Standard.{gnu}
use Rattle.c99_grammar.proofs.AmongLemmas.{in_first, in_second}
use Rattle.c99_grammar.proofs.PairLemmas.{pairs_append}
use Rattle.c99_grammar.proofs.starting.is_modifying.Goals as goal

pub returns-then-is_qualifying : goal.returns-then-is_qualifying
returns-then-is_qualifying c =
    in_first _ _ _ _ c.is_qualifying.ensures c.if-is_qualifying.true (pairs_append gnu qualifying two_brackets c.args.class c.args.behind)

pub returns-else-is_qualifying : goal.returns-else-is_qualifying
returns-else-is_qualifying c =
    in_second _ _ _ _ _ c.is_qualifying.ensures c.if-is_qualifying.false c.is_two_brackets.ensures (pairs_append gnu qualifying two_brackets c.args.class c.args.behind)
