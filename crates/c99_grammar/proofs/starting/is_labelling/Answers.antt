use Rattle.c99_grammar.specs.First.{before_colon}
use Rattle.c99_grammar.specs.GnuFirst.{two_brackets}
use Rattle.c99_grammar.specs.Standard.{gnu}
use Rattle.c99_grammar.proofs.AmongLemmas.{in_first, in_second}
use Rattle.c99_grammar.proofs.PairLemmas.{pairs_append}
use Rattle.c99_grammar.proofs.starting.is_labelling.Goals as goal

pub returns-then-is_before_colon : goal.returns-then-is_before_colon
returns-then-is_before_colon c =
    in_first _ _ _ _ c.is_before_colon.ensures c.if-is_before_colon.true (pairs_append gnu before_colon two_brackets c.args.class c.args.behind)

pub returns-else-is_before_colon : goal.returns-else-is_before_colon
returns-else-is_before_colon c =
    in_second _ _ _ _ _ c.is_before_colon.ensures c.if-is_before_colon.false c.is_two_brackets.ensures (pairs_append gnu before_colon two_brackets c.args.class c.args.behind)
