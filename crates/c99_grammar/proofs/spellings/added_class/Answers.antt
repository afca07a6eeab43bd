use Rattle.std.proofs.Common.{refl, sym, ◌∙◌}
use Rattle.c99_grammar.specs.Spellings.{keywords_added}
use Rattle.c99_grammar.specs.declared.classes.Class.TheVariants.{Identifier}
use Rattle.c99_grammar.proofs.SpelledLemmas.{spelled_class-none}
use Rattle.c99_grammar.proofs.spellings.added_class.Goals as goal

pub returns-else-row-eq-UNDERSCORED : goal.returns-else-row-eq-UNDERSCORED
returns-else-row-eq-UNDERSCORED c =
    sym (spelled_class-none keywords_added 31 refl c.args.text.now Identifier (λ e. c.if-row-eq-UNDERSCORED.false (c.row_of-row.ensures.answer ∙ e)))
