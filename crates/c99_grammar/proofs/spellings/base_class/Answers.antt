use Rattle.std.proofs.Common.{refl, sym, ap, ◌∙◌}
use Rattle.c99_grammar.specs.Spellings.{punctuators}
use Rattle.c99_grammar.specs.TokenClasses.{spelled_class, base_class, class_of_kind}
use Rattle.c99_grammar.specs.Standard.{grammar}
use Rattle.c99_grammar.specs.declared.classes.Class.TheVariants.{Identifier, NoClass}
use Rattle.c99_grammar.proofs.spellings.base_class.Goals as goal

pub returns-in-Ident : goal.returns-in-Ident
unfolding base_class
returns-in-Ident c =
    c.word_class.ensures
    ∙ ap (λ t. spelled_class (grammar c.args.dialect).keywords t Identifier) c.text.ensures.answer
    ∙ ap (λ k. class_of_kind (grammar c.args.dialect) k c.args.tok.now.text) (sym c.in-Ident.is ∙ c.kind.ensures)

pub returns-in-Punct : goal.returns-in-Punct
unfolding base_class
returns-in-Punct c =
    c.spelled.ensures punctuators refl
    ∙ ap (λ t. spelled_class punctuators t NoClass) c.text-in-Punct.ensures.answer
    ∙ ap (λ k. class_of_kind (grammar c.args.dialect) k c.args.tok.now.text) (sym c.in-Punct.is ∙ c.kind.ensures)
