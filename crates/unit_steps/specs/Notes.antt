-- What happens while a unit is preprocessed. What an item brings comes behind the item itself.
use Rattle.std.specs.Prelude.{ℕ, ◌+◌, Bool, true, false, Option, Some, None, List, [], ◌∷◌}
use Rattle.cs_base.specs.declared.positions.Pos.{Pos}
use Rattle.cs_base.specs.declared.tokens.Link.{Link}
use Rattle.cs_base.specs.Token.{Token, origin_at}
use Rattle.macro_expand.specs.Below.macro_body.declared.definitions.Definition.{Definition}
use Rattle.macro_expand.specs.Below.macro_body.Notes as expansion
use Rattle.unit_steps.specs.declared.events.Event.{Event}
use Rattle.unit_steps.specs.declared.events.EventKind.{EventKind}
use Rattle.unit_steps.specs.declared.events.EventKind.TheVariants as kind
use Rattle.unit_steps.specs.declared.events.Reached.{Reached}

-- What happens, in order. Numbers behind tokens and positions say how many tokens were put out before.
-- An item stands in a processed group: the numbers of its file and of the item, and whether it is a
-- condition that is evaluated. Something happens in an expansion, in that of a run or in another. A line
-- defines a macro, takes a name away, or asks for one; a name is left over in a condition. Two names are
-- linked. A number stands for an operand of `defined`. An include line is expanded to tokens. A file is
-- entered, and left, by the include line whose `#` is there. A line whose `#` is there says that its file is read once, or
-- an include line passes over a file of which that was said.
pub data Note : Type 0 where
  Reaches : ℕ → ℕ → Bool → ℕ → Note
  Happened : Bool → ℕ → expansion.Note → Note
  Defined : Definition → ℕ → Note
  Undefined : Token → ℕ → Note
  Tested : Token → ℕ → Note
  Left : Token → ℕ → Note
  Linked : Token → Token → Note
  Answered : Token → Note
  Named : List Token → Note
  Entered : Pos → ℕ → ℕ → Note
  Exited : Pos → ℕ → ℕ → Note
  ReadOnce : Bool → Pos → ℕ → ℕ → Note

-- ---- what callers read of them

abbrev pub link : Token → Token → Link
link x y = record { x = x; y = y }

-- the link that an expansion makes
abbrev pub links_then : expansion.Note → List Link
links_then (expansion.Linked x y) = link x y ∷ []
links_then _ = []

-- the token that an expansion pastes, and those that it makes a string of
abbrev pub pasted_then : expansion.Note → List Token
pasted_then (expansion.Pasted x y z) = z ∷ []
pasted_then _ = []

abbrev pub stringized_then : expansion.Note → List Token
stringized_then (expansion.Stringized toks s) = toks
stringized_then _ = []

-- an event with a name
abbrev pub named_event : EventKind → Token → Option Pos → ℕ → Event
named_event kind name def before =
    record { kind = kind; name = Some name; at = name.at; def = def; file = None; before = before }

-- one at a line that includes a file, or says something of its own
abbrev pub file_event : EventKind → Pos → ℕ → ℕ → Event
file_event kind at file before =
    record { kind = kind; name = None; at = at; def = None; file = Some file; before = before }

-- the event of a file that is read once: it is passed over, or its line says so
abbrev pub once_kind : Bool → EventKind
once_kind true = kind.Passed
once_kind false = kind.Once

-- how many tokens were put out before, with those that an expansion of a run put out
abbrev pub before_in : Bool → ℕ → ℕ → ℕ
before_in true before more = before + more
before_in false before more = before

-- the event that an expansion makes: a name is replaced; its macro is told by where its name stands
abbrev pub events_then : Bool → ℕ → expansion.Note → List Event
events_then run before (expansion.Replaced name m more) =
    named_event kind.Replaced name (origin_at m 0) (before_in run before more) ∷ []
events_then run before _ = []

-- the links of a note, its pasted tokens, the tokens that it makes a string of, and those of an include line
abbrev pub links_of : Note → List Link
links_of (Linked x y) = link x y ∷ []
links_of (Happened run before note) = links_then note
links_of _ = []

abbrev pub pasted_of : Note → List Token
pasted_of (Happened run before note) = pasted_then note
pasted_of _ = []

abbrev pub stringized_of : Note → List Token
stringized_of (Happened run before note) = stringized_then note
stringized_of _ = []

abbrev pub header_of : Note → List Token
header_of (Named toks) = toks
header_of _ = []

-- the next number of the unit that an expansion brings, which GNU C has
abbrev pub answers_then : expansion.Note → List Token
answers_then (expansion.Counted number) = number ∷ []
answers_then _ = []

-- the numbers that stand for operands of `defined`, for words that ask for a header, and for `__COUNTER__`
abbrev pub answers_of : Note → List Token
answers_of (Answered number) = number ∷ []
answers_of (Happened run before note) = answers_then note
answers_of _ = []

-- the events of a note
abbrev pub events_of : Note → List Event
events_of (Happened run before note) = events_then run before note
events_of (Defined m before) = named_event kind.Defined m.name None before ∷ []
events_of (Undefined name before) = named_event kind.Undefined name None before ∷ []
events_of (Tested name before) = named_event kind.Tested name None before ∷ []
events_of (Left name before) = named_event kind.Left name None before ∷ []
events_of (Entered at file before) = file_event kind.Enter at file before ∷ []
events_of (Exited at file before) = file_event kind.Leave at file before ∷ []
events_of (ReadOnce passed at file before) = file_event (once_kind passed) at file before ∷ []
events_of _ = []

-- an item that is reached behind so many events
abbrev pub reached : ℕ → ℕ → Bool → ℕ → ℕ → Reached
reached file item evaluated events before =
    record { file = file; item = item; evaluated = evaluated; events = events; before = before }

-- the item that a note reaches
abbrev pub reached_of : ℕ → Note → List Reached
reached_of events (Reaches file item evaluated before) = reached file item evaluated events before ∷ []
reached_of events _ = []
