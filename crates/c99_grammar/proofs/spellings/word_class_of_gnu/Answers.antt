use Rattle.std.proofs.Common.{◌++◌, refl, ap, ◌∙◌}
use Rattle.c99_grammar.specs.Spellings.{keywords, keywords_added, words_of_gnu, spellings_of_gnu}
use Rattle.c99_grammar.specs.TokenClasses.{spelled_class}
use Rattle.c99_grammar.specs.declared.classes.Class.TheVariants.{Identifier}
use Rattle.c99_grammar.proofs.SpelledLemmas.{spelled_class-append}
use Rattle.c99_grammar.proofs.spellings.word_class_of_gnu.Goals as goal

pub returns : goal.returns
returns c =
    c.spelled.ensures keywords refl
    ∙ ap (λ other. spelled_class keywords c.args.text.now other)
    (c.spelled-other.ensures (keywords_added ++ (words_of_gnu ++ spellings_of_gnu)) refl)
    ∙ spelled_class-append keywords (keywords_added ++ (words_of_gnu ++ spellings_of_gnu)) c.args.text.now Identifier
