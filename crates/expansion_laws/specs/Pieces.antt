-- Where the tokens of an expansion come from (this project's, over ISO/IEC 9899:1999, 6.10.3): they are made
-- of whole tokens of files, one behind the other, and stand where tokens of the run stand.
use Rattle.std.specs.Prelude.{◌≡◌, ℕ, Bool, true, false, List, Ok, Some, slice_get}
use Rattle.std.specs.List.{list_all, flat_map}
use Rattle.cs_base.specs.Token.{Token}
use Rattle.lexer.specs.Characters.{double_quote}
use Rattle.macro_body.specs.declared.notes.Work.{Work}
use Rattle.macro_body.specs.declared.definitions.Form.TheVariants as form
use Rattle.macro_body.specs.declared.definitions.Definition.{Definition}
use Rattle.macro_body.specs.Hides.{toks_of}
use Rattle.macro_body.specs.Macro.{Table}
use Rattle.macro_body.specs.Notes.{Note, Replaced, Linked, Stringized, Pasted, Counted, Expanded}
use Rattle.macro_body.specs.Substitution.{number_token, line_number}
use Rattle.macro_expand.specs.Expansion.{links_name, expansion}
use Rattle.expansion_laws.specs.Telling.{IsAmong}

-- the token is one of these
abbrev pub IsOneOf : List Token → Token → Type 0
IsOneOf toks t = (k : ℕ) × (slice_get toks k ≡ Some t)

-- ---- spelling and origins

-- spelling and origins of a token are those of some of these tokens, each whole, one behind the other
pub record IsMadeOf (files : List Token) (t : Token) : Type 0 where
  pub pieces : List Token
  pub each : (piece : Token) → IsOneOf pieces piece → IsOneOf files piece
  pub text : t.text ≡ flat_map (λ (piece : Token). piece.text) pieces
  pub origins : t.origins ≡ flat_map (λ (piece : Token). piece.origins) pieces

-- characters of which tokens are spelled, as those of identifiers
abbrev pub Characters : Type 0
Characters = ℕ → Bool

-- a token that is spelled with such characters alone is made of these tokens
abbrev pub IsWhole : Characters → List Token → Token → Type 0
IsWhole among files t = list_all among t.text ≡ true → IsMadeOf files t

abbrev pub AreWhole : Characters → List Token → List Token → Type 0
AreWhole among files toks = (t : Token) → IsOneOf toks t → IsWhole among files t

-- so it is with the tokens of macros: those of replacement lists, names that are linked, and the numbers
-- of lines and of the unit that a note tells of
pub record MacrosAreWhole (among : Characters) (files : List Token) (table : Table) (notes : List Note) : Type 0 where
  pub bodies : (name : List ℕ) (m : Definition) → table name ≡ Some m → AreWhole among files m.body
  pub names : (name : List ℕ) (m : Definition) → table name ≡ Some m → links_name m.form ≡ true → IsWhole among files m.name
  pub lines : (name : Token) (m : Definition) (before : ℕ) → table name.text ≡ Some m → m.form ≡ form.Line
      → IsAmong notes (Replaced name m.name before) → IsWhole among files (line_number name)
  pub numbers : (name : Token) (n : ℕ) → IsAmong notes (Counted (number_token name n)) → IsWhole among files (number_token name n)

-- and with those of which a note tells
abbrev pub NoteIsWhole : Characters → List Token → Note → Type 0
NoteIsWhole among files (Replaced name m before) = IsWhole among files name
NoteIsWhole among files (Linked x y) = IsWhole among files x × IsWhole among files y
NoteIsWhole among files (Stringized toks s) = AreWhole among files toks
NoteIsWhole among files (Pasted x y z) = IsWhole among files x × IsWhole among files y × IsWhole among files z
NoteIsWhole among files (Counted z) = IsWhole among files z

-- and with those of an expansion
pub record AllWhole (among : Characters) (files : List Token) (e : Expanded) : Type 0 where
  pub toks : AreWhole among files (toks_of e.toks)
  pub notes : (note : Note) → IsAmong e.notes note → NoteIsWhole among files note

-- The law: where the tokens of the run and of macros that are spelled with some characters, of which `"` is
-- none, are made of whole tokens of files, so are those of the expansion. A string has a `"`.
abbrev pub TokensAreWhole : Type 0
TokensAreWhole = (among : Characters) (files : List Token) (table : Table) (path : List ℕ) (run : List Token) (work : Work) (e : Expanded)
    → among double_quote ≡ false → expansion table path run work ≡ Ok e
    → AreWhole among files run → MacrosAreWhole among files table e.notes → AllWhole among files e

-- ---- places

-- a token stands where one of these stands
pub record StandsWith (toks : List Token) (t : Token) : Type 0 where
  pub token : Token
  pub one : IsOneOf toks token
  pub at : t.at ≡ token.at
  pub line : t.line ≡ token.line

-- The law: each token of an expansion stands where a token of the run stands, and each name that is replaced.
pub record StandInRun (run : List Token) (e : Expanded) : Type 0 where
  pub toks : (t : Token) → IsOneOf (toks_of e.toks) t → StandsWith run t
  pub names : (name m : Token) (before : ℕ) → IsAmong e.notes (Replaced name m before) → StandsWith run name

abbrev pub PlacesAreOfTheRun : Type 0
PlacesAreOfTheRun = (table : Table) (path : List ℕ) (run : List Token) (work : Work) (e : Expanded)
    → expansion table path run work ≡ Ok e → StandInRun run e
