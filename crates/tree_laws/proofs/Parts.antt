-- Parts of the table of productions.
use Rattle.std.proofs.Common.{List, [], ◌∷◌}
use Rattle.c99_grammar.specs.Items.{Item, one, end_of_text, ◌·◌, maybe, many, Test, own, next_two, Ask, is, Alternative}
use Rattle.tree_laws.proofs.Private.{Class}

abbrev pub first_body : List Alternative → Item
first_body [] = end_of_text
first_body (a ∷ more) = a.body

abbrev pub rest_of : Item → Item
rest_of (a · b) = b
rest_of a = a

abbrev pub front_of : Item → Item
front_of (a · b) = a
front_of a = a

abbrev pub inside_of : Item → Item
inside_of (maybe a) = a
inside_of (many t a) = a
inside_of a = a

abbrev pub classes_of : Item → List Class
classes_of (one classes) = classes
classes_of a = []

abbrev pub second_body : List Alternative → Item
second_body (a ∷ (b ∷ more)) = b.body
second_body _ = end_of_text

abbrev pub first_test : List Alternative → Test
first_test [] = own
first_test (a ∷ more) = a.test

abbrev pub second_test : List Alternative → Test
second_test (a ∷ (b ∷ more)) = b.test
second_test _ = own

abbrev pub asked : Ask → List Class
asked (is classes) = classes
asked _ = []

abbrev pub asked_first : Test → List Class
asked_first (next_two a b) = asked a
asked_first _ = []

abbrev pub asked_second : Test → List Class
asked_second (next_two a b) = asked b
asked_second _ = []
