use Rattle.c99_grammar.specs.First.{before_colon}
use Rattle.c99_grammar.specs.GnuFirst.{one_bracket}
use Rattle.c99_grammar.specs.Standard.{gnu}
use Rattle.c99_grammar.proofs.AmongLemmas.{in_first, in_second}
use Rattle.c99_grammar.proofs.PairLemmas.{pairs_append}
use Rattle.c99_grammar.proofs.starting.is_designating.Goals as goal

pub returns-then-is_one_bracket : goal.returns-then-is_one_bracket
returns-then-is_one_bracket c =
    in_first _ _ _ _ c.is_one_bracket.ensures c.if-is_one_bracket.true (pairs_append gnu one_bracket before_colon c.args.class c.args.behind)

pub returns-else-is_one_bracket : goal.returns-else-is_one_bracket
returns-else-is_one_bracket c =
    in_second _ _ _ _ _ c.is_one_bracket.ensures c.if-is_one_bracket.false c.is_before_colon.ensures (pairs_append gnu one_bracket before_colon c.args.class c.args.behind)
