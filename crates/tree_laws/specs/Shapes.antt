-- What the items of a production say of the nodes that are read by it, whatever the text.
use Rattle.std.specs.Prelude.{Bool, true, false, ◌≡◌, ◌&&◌, ◌||◌, not}
use Rattle.std.specs.List.{list_all}
use Rattle.c99_tree.specs.declared.production.Production.{Production}
use Rattle.c99_tree.specs.declared.production.Production.TheVariants.{TranslationUnit, External, ExtRest, ExtTail, FunBody, Declaration, DeclRest, InitDecl, Enumerator, Block, BlockItem, Statement, Sub, ForInit, AutoDecl}
use Rattle.c99_grammar.specs.Items.{Item, one, part, end_of_text, act, ◌·◌, choice, maybe, many, deep, Alternative}
use Rattle.c99_read.specs.Reading.{Goal, produce, repeat}
use Rattle.c99_grammar.specs.Standard.{Grammar}

-- each production in the item is one of these
abbrev pub parts_all : (Production → Bool) → Item → Bool
parts_all ok (one classes) = true
parts_all ok (part p) = ok p
parts_all ok end_of_text = true
parts_all ok (act a) = true
parts_all ok (a · b) = parts_all ok a && parts_all ok b
parts_all ok (choice a b) = parts_all ok a && parts_all ok b
parts_all ok (maybe a) = parts_all ok a
parts_all ok (many t a) = parts_all ok a
parts_all ok (deep a) = parts_all ok a

-- .. in the goal
abbrev pub goal_all : (Production → Bool) → Goal → Bool
goal_all ok (produce p) = ok p
goal_all ok (repeat t a) = parts_all ok a

-- the item begins with a token
abbrev pub begins : Item → Bool
begins (one classes) = true
begins (a · b) = begins a
begins _ = false

-- the item has a token that is no part of a production in it
abbrev pub takes : Item → Bool
takes (one classes) = true
takes (a · b) = takes a || takes b
takes (deep a) = takes a
takes _ = false

-- the item begins with a token, and has another
abbrev pub takes_two : Item → Bool
takes_two (a · b) = takes_two a || begins a && takes b
takes_two _ = false

-- the item ends with the text
abbrev pub ends : Item → Bool
ends end_of_text = true
ends (a · b) = ends b
ends _ = false

-- the whole text is read
abbrev pub reads_all : Grammar → Bool
reads_all g = list_all (λ a. ends a.body) (g.table TranslationUnit)

-- ---- C

-- below a node of the production stands no body of a function (ISO/IEC 9899:1999, 6.9.1)
abbrev pub has_no_body : Production → Bool
has_no_body TranslationUnit = false
has_no_body External = false
has_no_body ExtRest = false
has_no_body ExtTail = false
has_no_body FunBody = false
has_no_body _ = true

-- .. no body, and no declaration but that of parameters and members (6.7, 6.7.5)
abbrev pub has_no_declaring : Production → Bool
has_no_declaring TranslationUnit = false
has_no_declaring External = false
has_no_declaring ExtRest = false
has_no_declaring ExtTail = false
has_no_declaring FunBody = false
has_no_declaring Declaration = false
has_no_declaring DeclRest = false
has_no_declaring InitDecl = false
has_no_declaring Block = false
has_no_declaring BlockItem = false
has_no_declaring Statement = false
has_no_declaring Sub = false
has_no_declaring ForInit = false
has_no_declaring AutoDecl = false
has_no_declaring _ = true

-- .. no body, and no such declaration but in a block: GNU C has blocks in expressions
abbrev pub has_no_open_declaring : Production → Bool
has_no_open_declaring Block = true
has_no_open_declaring p = has_no_declaring p

-- where nodes of the production are so, so are those of each production in the item
abbrev pub passes_on : (Production → Bool) → Production → Item → Bool
passes_on ok p body = not (ok p) || parts_all ok body

-- .. where nothing is asked of what stands in a block
abbrev pub passes_outside : Production → Item → Bool
passes_outside Block body = true
passes_outside p body = passes_on has_no_open_declaring p body

-- an enumerator begins with its name (6.7.2.2); the body of a function has braces of its own, and no such body; `__auto_type` has a
-- name behind it
abbrev pub is_shaped : Production → Item → Bool
is_shaped Enumerator body = begins body
is_shaped FunBody body = takes body && parts_all has_no_body body
is_shaped AutoDecl body = takes_two body
is_shaped _ body = true

abbrev pub is_formed : Production → Alternative → Bool
is_formed p a = passes_on has_no_body p a.body && (passes_outside p a.body && is_shaped p a.body)

-- the productions are so
pub record IsFormed (g : Grammar) : Type 0 where
  pub formed : (p : Production) → list_all (is_formed p) (g.table p) ≡ true

-- In C99 and C11 no block stands in a declarator.
abbrev pub is_plain : Production → Alternative → Bool
is_plain p a = passes_on has_no_declaring p a.body

pub record IsPlain (g : Grammar) : Type 0 where
  pub plain : (p : Production) → list_all (is_plain p) (g.table p) ≡ true
