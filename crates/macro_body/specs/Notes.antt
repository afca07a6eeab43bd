-- What happens in an expansion, and what it gives.
use Rattle.std.specs.Prelude.{ℕ, List, [], ◌∷◌, ◌++◌, Result, Ok, Err}
use Rattle.cs_base.specs.declared.positions.Pos.{Pos}
use Rattle.cs_base.specs.Token.{Token}
use Rattle.macro_body.specs.declared.notes.Work.{Work}
use Rattle.macro_body.specs.Hides.{Hidden}

-- The first fault of an expansion, at the position of a macro's name: a call has no `)`, or a wrong
-- number of arguments; a `##` makes no token; a `#` makes no string; the work passes the limit; more
-- than 200 arguments are expanded inside one another.
pub data Fault : Type 0 where
  OpenCall : Pos → Fault
  WrongArguments : Pos → Fault
  NotOneToken : Pos → Fault
  NotAString : Pos → Fault
  TooMuchWork : Pos → Fault
  TooDeep : Pos → Fault

-- What happens, in order; what a name's replacement brings comes behind the name itself. A name is
-- replaced: the name of its macro, and how many tokens were put out before. A name is linked with that
-- of its macro. A `#` makes a string of tokens. A `##` makes one token of two. The next number stands for a name.
pub data Note : Type 0 where
  Replaced : Token → Token → ℕ → Note
  Linked : Token → Token → Note
  Stringized : List Token → Token → Note
  Pasted : Token → Token → Token → Note
  Counted : Token → Note

-- What is left of an expansion: its tokens, what happened, and the work that is left, with the number for which
-- the next `__COUNTER__` stands.
pub record Expanded : Type 0 where
  pub toks : List Hidden
  pub notes : List Note
  pub left : Work

abbrev pub expanded : List Hidden → List Note → Work → Expanded
expanded toks notes left = record { toks = toks; notes = notes; left = left }

-- the same, with a token in front that stays
abbrev pub put_out : Hidden → Expanded → Expanded
put_out t e = record e { toks = t ∷ e.toks }

-- the same, behind what happened before
abbrev pub noted : List Note → Expanded → Expanded
noted notes e = record e { notes = notes ++ e.notes }

-- the next step, unless there is a fault
abbrev pub onward : {A B : Type 0} → Result A Fault → (A → Result B Fault) → Result B Fault
onward (Ok a) next = next a
onward (Err fault) next = Err fault

-- the links among what happened, the name first
abbrev pub links_in : List Note → List (Token × Token)
links_in [] = []
links_in (Linked x y ∷ notes) = (x, y) ∷ links_in notes
links_in (_ ∷ notes) = links_in notes

-- the pasted tokens
abbrev pub pasted_in : List Note → List Token
pasted_in [] = []
pasted_in (Pasted x y z ∷ notes) = z ∷ pasted_in notes
pasted_in (_ ∷ notes) = pasted_in notes

-- the tokens that strings were made of
abbrev pub stringized_in : List Note → List Token
stringized_in [] = []
stringized_in (Stringized toks s ∷ notes) = toks ++ stringized_in notes
stringized_in (_ ∷ notes) = stringized_in notes

-- the numbers of the unit
abbrev pub counted_in : List Note → List Token
counted_in [] = []
counted_in (Counted z ∷ notes) = z ∷ counted_in notes
counted_in (_ ∷ notes) = counted_in notes

-- the replacements: the name, the name of its macro, and how many tokens were put out before
abbrev pub replaced_in : List Note → List (Token × Token × ℕ)
replaced_in [] = []
replaced_in (Replaced name m before ∷ notes) = (name, m, before) ∷ replaced_in notes
replaced_in (_ ∷ notes) = replaced_in notes
