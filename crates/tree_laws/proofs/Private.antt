-- Types that the reader keeps to itself, by what gives a value of them.
use Rattle.c99_grammar.specs.Standard.{c99}
use Rattle.c99_read.specs.State.{declaration}
use Rattle.c99_grammar.specs.TokenClasses.{base_class}

abbrev pub Given : {A B : Type 0} → (A → B) → Type 0
Given {A} {B} f = B

-- a declaration in the reader's scopes
abbrev pub Declaration : Type 0
Declaration = Given (declaration 0)

-- a class of tokens
abbrev pub Class : Type 0
Class = Given (base_class c99)
