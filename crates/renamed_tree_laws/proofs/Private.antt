-- Classes of tokens, which the reader keeps to itself, by what gives a value of them.
use Rattle.std.proofs.Common.{Bool, ◌&&◌, List, [], ◌∷◌, drop}
use Rattle.std.specs.List.{list_all}
use Rattle.cs_base.specs.declared.tokens.Kind.TheVariants as kind
use Rattle.c99_tree.specs.declared.production.Production.TheVariants.{Statement}
use Rattle.c99_grammar.specs.declared.classes.Class.TheVariants.{LeftParen, ExtensionWord}
use Rattle.c99_grammar.specs.Items.{names, Test, own, next_two, Ask, is, Alternative}
use Rattle.c99_grammar.specs.Spellings.{gnu_keywords, punctuators}
use Rattle.c99_grammar.specs.Standard.{c99}
use Rattle.c99_read.specs.State.{base_at}
use Rattle.c99_grammar.specs.TokenClasses.{base_class, class_of_kind}
use Rattle.renamed_tree_laws.specs.Respelled.{Given}

abbrev pub Class : Type 0
Class = Given (base_class c99)

-- the class behind the last token
abbrev pub end_class : Class
end_class = base_at c99 [] 0

-- the class of what is no token of the grammar
abbrev pub no_class : Class
no_class = base_at c99 [] 1

abbrev first_class : List Class → Class
first_class [] = no_class
first_class (c ∷ more) = c

abbrev pub identifier : Class
identifier = first_class names

abbrev pub typedef_name : Class
typedef_name = first_class (drop 1 names)

abbrev asked : Ask → List Class
asked (is classes) = classes
asked _ = []

abbrev asked_second : Test → List Class
asked_second (next_two a b) = asked b
asked_second _ = []

abbrev first_test : List Alternative → Test
first_test (a ∷ more) = a.test
first_test [] = own

-- the colon behind a label
abbrev pub colons : List Class
colons = asked_second (first_test (c99.table Statement))

abbrev pub colon : Class
colon = first_class colons

-- behind these the second token of a production is asked for: a parenthesis, and `__extension__` of GNU C
abbrev pub fronts : List Class
fronts = LeftParen ∷ ExtensionWord ∷ []

-- it is so of each class that tokens have by themselves
abbrev pub covers : (Class → Bool) → Bool
covers P =
    list_all (λ w. P w.1) gnu_keywords && (list_all (λ w. P w.1) punctuators && (P identifier && (P no_class && (P end_class &&
    (P (class_of_kind c99 kind.Number []) && (P (class_of_kind c99 kind.Char []) && P (class_of_kind c99 kind.Str [])))))))
