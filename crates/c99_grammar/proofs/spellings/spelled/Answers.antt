use Rattle.std.proofs.Common.{◌∙◌}
use Rattle.c99_grammar.proofs.SpelledLemmas.{spelled_class-by_rows}
use Rattle.c99_grammar.proofs.spellings.spelled.Goals as goal

pub returns : goal.returns
returns c words are =
    c.spelled_in_row.ensures ∙ spelled_class-by_rows c.args.rows.now words are c.args.text.now c.args.other
