-- What the notes of an expansion tell (ISO/IEC 9899:1999, 6.10.3).
use Rattle.std.specs.Prelude.{◌≡◌, ℕ, true, List, Ok, Some, slice_get}
use Rattle.cs_base.specs.Token.{Token}
use Rattle.line_shape.specs.Signs.{is_name}
use Rattle.macro_body.specs.declared.notes.Work.{Work}
use Rattle.macro_body.specs.Below.paste_origin.Pasting.{glue_of}
use Rattle.macro_body.specs.Below.paste_origin.Strings.{stringize_of, string_origins}
use Rattle.macro_body.specs.declared.definitions.Definition.{Definition}
use Rattle.macro_body.specs.Macro.{Table}
use Rattle.macro_body.specs.Notes.{Note, Replaced, Linked, Stringized, Pasted, Counted, Expanded}
use Rattle.macro_body.specs.Substitution.{number_token}
use Rattle.macro_expand.specs.Expansion.{links_name, expansion}

-- the note is one of these
abbrev pub IsAmong : List Note → Note → Type 0
IsAmong notes note = (k : ℕ) × (slice_get notes k ≡ Some note)

-- ---- links

-- Each macro but `__LINE__`, `__FILE__` and `__COUNTER__` stands under its own name, which is an identifier
-- (6.10.3 paragraphs 9 and 10).
pub record StandUnderNames (table : Table) : Type 0 where
  pub text : (name : List ℕ) (m : Definition) → table name ≡ Some m → links_name m.form ≡ true → m.name.text ≡ name
  pub identifier : (name : List ℕ) (m : Definition) → table name ≡ Some m → links_name m.form ≡ true → is_name m.name ≡ true

-- two identifiers of equal spelling
pub record AreAlike (x y : Token) : Type 0 where
  pub first : is_name x ≡ true
  pub second : is_name y ≡ true
  pub text : x.text ≡ y.text

-- The law: where macros stand under their names, a link joins two identifiers of equal spelling.
abbrev pub LinksAreAlike : Type 0
LinksAreAlike = (table : Table) (path : List ℕ) (run : List Token) (work : Work) (e : Expanded)
    → expansion table path run work ≡ Ok e → StandUnderNames table
    → (x y : Token) → IsAmong e.notes (Linked x y) → AreAlike x y

-- ---- all notes

-- a name was replaced, and this was the name of its macro
pub record IsReplaced (table : Table) (name macro_name : Token) : Type 0 where
  pub identifier : is_name name ≡ true
  pub definition : Definition
  pub defined : table name.text ≡ Some definition
  pub same : definition.name ≡ macro_name

-- kind, spelling and origins are those of the other token
pub record IsRelabelled (x y : Token) : Type 0 where
  pub kind : y.kind ≡ x.kind
  pub text : y.text ≡ x.text
  pub origins : y.origins ≡ x.origins

-- a token was made of two by `##` (6.10.3.3 paragraph 3)
pub record IsPasted (x y z : Token) : Type 0 where
  pub token : Token
  pub made : glue_of x y ≡ Ok token
  pub same : IsRelabelled token z

-- a string was made of tokens by `#` (6.10.3.2): their characters keep their origins, and all others have none
pub record IsStringized (toks : List Token) (s : Token) : Type 0 where
  pub made : stringize_of toks ≡ Ok s
  pub origins : s.origins ≡ string_origins toks

-- a number stands in place of a name
pub record IsCounted (z : Token) : Type 0 where
  pub name : Token
  pub number : ℕ
  pub same : z ≡ number_token name number

-- what a note tells did happen
abbrev pub DidHappen : Table → Note → Type 0
DidHappen table (Replaced name m before) = IsReplaced table name m
DidHappen table (Linked x y) = IsReplaced table x y
DidHappen table (Stringized toks s) = IsStringized toks s
DidHappen table (Pasted x y z) = IsPasted x y z
DidHappen table (Counted z) = IsCounted z

-- The law: so it is with each note.
abbrev pub NotesAreTrue : Type 0
NotesAreTrue = (table : Table) (path : List ℕ) (run : List Token) (work : Work) (e : Expanded)
    → expansion table path run work ≡ Ok e → (note : Note) → IsAmong e.notes note → DidHappen table note
