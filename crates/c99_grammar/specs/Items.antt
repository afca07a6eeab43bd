-- What a production is made of: the items of an alternative, their tests, and what is done between them.
use Rattle.std.specs.Prelude.{List, [], ◌∷◌}
use Rattle.c99_tree.specs.declared.production.Production.{Production}
use Rattle.c99_grammar.specs.declared.classes.Class.{Class}
use Rattle.c99_grammar.specs.declared.classes.Class.TheVariants.{Identifier, TypedefName}

-- what a test asks of one token: its class is one of these, is none of these, or the production starts with it
pub data Ask : Type 0 where
  is : List Class → Ask
  is_not : List Class → Ask
  begins : Production → Ask
  either : Ask → Ask → Ask

-- When something is read: where it starts, always, or where the next token or the next two are so.
pub data Test : Type 0 where
  own : Test
  otherwise : Test
  next : Ask → Test
  next_two : Ask → Ask → Test

-- What is done between items: a scope begins or ends (6.2.1), the declarator just read is declared, the
-- name just read is declared, the names of the scope just ended are given to the open declarator, and a
-- scope begins with the names that were given to the declarator read last.
pub data Action : Type 0 where
  scope : Action
  end : Action
  declare : Action
  name : Action
  keep : Action
  again : Action

infixr 60 ◌·◌
-- A token of one of these classes, a production, the end of the text, an action, one item after another,
-- the first of two that starts, at most once, any number of times, and one level deeper.
pub data Item : Type 0 where
  one : List Class → Item
  part : Production → Item
  end_of_text : Item
  act : Action → Item
  ◌·◌ : Item → Item → Item
  choice : Item → Item → Item
  maybe : Item → Item
  many : Test → Item → Item
  deep : Item → Item

-- an alternative: when it is taken, and what is read then
pub record Alternative : Type 0 where
  pub test : Test
  pub body : Item

abbrev pub plain : Item → Alternative
plain body = record { test = own; body = body }

abbrev pub when : Test → Item → Alternative
when test body = record { test = test; body = body }

-- a token of this class
abbrev pub tok : Class → Item
tok c = one (c ∷ [])

-- an identifier, be it a typedef name or not
abbrev pub names : List Class
names = Identifier ∷ TypedefName ∷ []

abbrev pub any_name : Item
any_name = one names

-- once or more
abbrev pub some : Item → Item
some item = item · many own item
