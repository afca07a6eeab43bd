-- Tests that an expansion keeps (ISO/IEC 9899:1999, 6.10.3): what the tokens of the run pass, and the tokens
-- that are put in or made pass too, each token of the expansion passes, and each of which its notes tell.
use Rattle.std.specs.Prelude.{◌≡◌, ℕ, ◌&&◌, Bool, true, nat_lt, List, Ok, Some}
use Rattle.std.specs.List.{list_all}
use Rattle.cs_base.specs.Limits.{most_bytes}
use Rattle.cs_base.specs.Token.{Token}
use Rattle.macro_body.specs.declared.notes.Work.{Work}
use Rattle.macro_body.specs.Below.paste_origin.Pasting.{glue_of}
use Rattle.macro_body.specs.Below.paste_origin.Strings.{stringize_of}
use Rattle.macro_body.specs.declared.definitions.Form.TheVariants as form
use Rattle.macro_body.specs.declared.definitions.Definition.{Definition}
use Rattle.macro_body.specs.Hides.{toks_of}
use Rattle.macro_body.specs.Macro.{Table}
use Rattle.macro_body.specs.Notes.{Note, Replaced, Linked, Stringized, Pasted, Counted, Expanded}
use Rattle.macro_body.specs.Substitution.{number_token, line_number, path_string}
use Rattle.macro_expand.specs.Expansion.{links_name, expansion}
use Rattle.expansion_laws.specs.Telling.{IsAmong}

-- a test of tokens
abbrev pub Test : Type 0
Test = Token → Bool

-- the test is blind to white space before a token, and to whether it is direct
abbrev pub IsBlind : Test → Type 0
IsBlind p = (t : Token) (gap direct : Bool) → p t ≡ true → p (record t { gap = gap; direct = direct }) ≡ true

-- a token where it is put in for a name: it stands where the name stands
abbrev pub standing_at : Token → Token → Token
standing_at name t = record t { at = name.at; line = name.line }

-- What macros put in for a name that passes, passes: the tokens of replacement lists, and what stands for
-- `__LINE__`, `__FILE__` and `__COUNTER__`, a number only where a note tells that it was brought. The names of
-- macros that are linked pass.
pub record MacrosPass (p : Test) (table : Table) (path : List ℕ) (notes : List Note) : Type 0 where
  pub bodies : (name : Token) (m : Definition) → p name ≡ true → table name.text ≡ Some m → list_all (λ t. p (standing_at name t)) m.body ≡ true
  pub lines : (name : Token) (m : Definition) (before : ℕ) → p name ≡ true → table name.text ≡ Some m → m.form ≡ form.Line
      → IsAmong notes (Replaced name m.name before) → p (line_number name) ≡ true
  pub numbers : (name : Token) (n : ℕ) → p name ≡ true → nat_lt n most_bytes ≡ true → IsAmong notes (Counted (number_token name n))
      → p (number_token name n) ≡ true
  pub paths : (name : Token) (m : Definition) → p name ≡ true → table name.text ≡ Some m → m.form ≡ form.File → p (path_string path name) ≡ true
  pub names : (name : List ℕ) (m : Definition) → table name ≡ Some m → links_name m.form ≡ true → p m.name ≡ true

-- What is made of tokens that pass, passes where it is put in for a name that does: strings and pasted tokens.
pub record MadePass (p : Test) : Type 0 where
  pub strings : (name : Token) (toks : List Token) (s : Token) → p name ≡ true → list_all p toks ≡ true → stringize_of toks ≡ Ok s
      → p (standing_at name s) ≡ true
  pub pastes : (name x y z : Token) → p name ≡ true → p x ≡ true → p y ≡ true → glue_of x y ≡ Ok z → p (standing_at name z) ≡ true

-- the tokens of which a note tells pass: the name that is replaced, both that are linked, those that a
-- string is made of, those that are pasted, and the one that they make, and the next number of the unit
abbrev pub note_passes : Test → Note → Bool
note_passes p (Replaced name m before) = p name
note_passes p (Linked x y) = p x && p y
note_passes p (Stringized toks s) = list_all p toks
note_passes p (Pasted x y z) = p x && p y && p z
note_passes p (Counted z) = p z

-- each token of an expansion passes, and each of which a note tells
pub record ExpansionPasses (p : Test) (e : Expanded) : Type 0 where
  pub toks : list_all p (toks_of e.toks) ≡ true
  pub notes : list_all (note_passes p) e.notes ≡ true

-- The law: it is so where the tokens of the run pass.
abbrev pub TestsAreKept : Type 0
TestsAreKept = (p : Test) (table : Table) (path : List ℕ) (run : List Token) (work : Work) (e : Expanded)
    → expansion table path run work ≡ Ok e → IsBlind p → MacrosPass p table path e.notes → MadePass p
    → list_all p run ≡ true → ExpansionPasses p e
