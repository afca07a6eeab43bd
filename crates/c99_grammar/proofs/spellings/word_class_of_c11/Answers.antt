use Rattle.std.proofs.Common.{refl, ap, ◌∙◌}
use Rattle.c99_grammar.specs.Spellings.{keywords, keywords_added}
use Rattle.c99_grammar.specs.TokenClasses.{spelled_class}
use Rattle.c99_grammar.specs.declared.classes.Class.TheVariants.{Identifier}
use Rattle.c99_grammar.proofs.SpelledLemmas.{spelled_class-append}
use Rattle.c99_grammar.proofs.spellings.word_class_of_c11.Goals as goal

pub returns : goal.returns
returns c =
    c.spelled.ensures keywords refl
    ∙ ap (λ other. spelled_class keywords c.args.text.now other) c.added_class-other.ensures
    ∙ spelled_class-append keywords keywords_added c.args.text.now Identifier
