use Rattle.std.proofs.Common.{refl, sym, ap, ◌∙◌}
use Rattle.c99_grammar.specs.Spellings.{keywords, keywords_of}
use Rattle.c99_grammar.specs.TokenClasses.{spelled_class}
use Rattle.c99_grammar.specs.declared.classes.Class.TheVariants.{Identifier}
use Rattle.c99_grammar.proofs.spellings.word_class_by_edition.Goals as goal

pub returns-in-C99 : goal.returns-in-C99
returns-in-C99 c =
    c.spelled.ensures keywords refl
    ∙ ap (λ s. spelled_class (keywords_of s) c.args.text.now Identifier) (sym c.in-C99.is)
