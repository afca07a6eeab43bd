-- What the definition gives for short texts.
use Rattle.std.proofs.Common.{ℕ, ◌≡◌, true, List, [], ◌∷◌, Ok, Err, refl}
use Rattle.std.specs.Prelude.{codes}
use Rattle.cs_base.specs.Token.{Token}
use Rattle.cs_base.specs.declared.tokens.Kind.{Kind}
use Rattle.cs_base.specs.declared.tokens.Kind.TheVariants.{Ident, Punct}
use Rattle.c99_tree.specs.Tree.{none, token, node, node_of}
use Rattle.c99_tree.specs.declared.production.Label.{Label}
use Rattle.c99_tree.specs.declared.production.Production.{Production}
use Rattle.c99_tree.specs.declared.production.Production.TheVariants.{TranslationUnit, External, Specs, Main, Word, ExtRest, Declarator, Direct, ExtTail}
use Rattle.c99_read.specs.Reading.{syntax, read_of, read_within, whole, take_one, at_end, enter}
use Rattle.c99_grammar.specs.Standard.{c99}
use Rattle.c99_read.specs.State.{class_at, acted, opened, closed}
use Rattle.c99_grammar.specs.TokenClasses.{spelled_class, base_class}

abbrev pub tok : Kind → List ℕ → Token
tok kind text = record { kind = kind; text = text; origins = []; gap = true; at = record { file = 1; at = 0 }; line = 1; direct = true }

abbrev pub label : Production → ℕ → Label
label p n = record { production = p; alternative = n }

pub declaration-read : read_of c99 (tok Ident (codes "int") ∷ tok Ident (codes "x") ∷ tok Punct (codes ";") ∷ [])
    ≡ Ok (node_of (label TranslationUnit 1) 0
    (node (label External 2) 0
    (node (label Specs 1) 0 (node (label Main 1) 0 (node (label Word 4) 0 (token 0 none) none) none)
    (node (label ExtRest 2) 1
    (node (label Declarator 1) 1 (node (label Direct 1) 1 (token 1 none) none) (node (label ExtTail 2) 2 (token 2 none) none))
    none))
    none))
unfolding read_within whole take_one at_end enter spelled_class base_class class_at acted opened closed
declaration-read = refl

pub initializer-refused : read_of c99 (tok Ident (codes "int") ∷ tok Ident (codes "x") ∷ tok Punct (codes "=") ∷ tok Punct (codes ";") ∷ [])
    ≡ Err (syntax 3)
unfolding read_within whole take_one at_end enter spelled_class base_class class_at acted opened closed
initializer-refused = refl
