-- Worked rows: programs of one file, in which a class has one member of one character, and what its renaming does to them.
use Rattle.std.specs.Prelude.{◌≡◌, ℕ, Bool, true, false, Some, List, [], ◌∷◌, Result, Ok, codes, slice_get}
use Rattle.cs_base.specs.declared.ws_units.Standard.TheVariants.{C99}
use Rattle.cs_base.specs.declared.causes.Cause.{Cause}
use Rattle.cs_base.specs.declared.positions.Part.{Part}
use Rattle.cs_base.specs.declared.tokens.Kind.{Kind}
use Rattle.cs_base.specs.declared.tokens.Kind.TheVariants.{Ident, Punct}
use Rattle.cs_base.specs.Token.{Token, token}
use Rattle.cs_base.specs.Answer.{result_then}
use Rattle.cs_base.specs.Units.{unit}
use Rattle.analysis.specs.Below.ws_file.Workspace.{WorkspaceValue}
use Rattle.analysis.specs.Below.lexer.FileText.{file_text}
use Rattle.analysis.specs.Below.lexer.Places.{pos}
use Rattle.analysis.specs.Below.lexer.Tokens.{file_token}
use Rattle.analysis.specs.Below.source_files.Faults.{Fault}
use Rattle.analysis.specs.Below.source_files.Files.{Source, source_of, Opened, entry, nothing_carried}
use Rattle.analysis.specs.Below.source_files.Limits.{Limits, the_limits}
use Rattle.analysis.specs.Below.include_tree.Preprocessed.{Preprocessed, preprocessed_by}
use Rattle.analysis.specs.Below.include_tree.Unit.{unit_outcome}
use Rattle.analysis.specs.Analysis.{UnitAnalysis, AnalysisValue}
use Rattle.edited_unit_laws.specs.Analyses.{IsRead}
use Rattle.offences.specs.First.{IsAmong, offence}
use Rattle.rename_rules.specs.Offences.{offences_of}
use Rattle.meaning_rows.specs.Clause.{UnitsReadAlike}
use Rattle.renamed.specs.Renamed.{AnalysisIsRenamed}

-- A row: the bytes of its file, which has number 2, the tokens of its unit, and those of them that were pasted.
pub record Row : Type 0 where
  pub bytes : List ℕ
  pub toks : List Token
  pub pasted : List Token

-- a row of these parts
abbrev row : List ℕ → List Token → List Token → Row
row bytes toks pasted = record { bytes = bytes; toks = toks; pasted = pasted }

-- An analysis of the row: of one unit of C99 that has these tokens, read and bound as they are.
pub record IsOf (r : Row) (a : AnalysisValue) : Type 0 where
  pub unit : UnitAnalysis
  pub only : a.units ≡ unit ∷ []
  pub standard : unit.standard ≡ C99
  pub toks : unit.text.toks ≡ r.toks
  pub pasted : unit.text.pasted ≡ r.pasted
  pub read : IsRead unit
  pub path : List ℕ
  pub file : slice_get a.table 2 ≡ Some (entry path (Opened r.bytes))

-- the class of the character that stands here
abbrev pub member : ℕ → List Part
member at = record { start = pos 2 at; len = 1 } ∷ []

-- ---- the row of a file

-- limits within which the file of a row is preprocessed by computation: those that hold, but that macros may do little work
abbrev pub row_limits : Limits
row_limits = record the_limits { work = 100 }

-- the unit of the row, preprocessed within them
abbrev pub row_unit : Row → Result Preprocessed Fault
row_unit r =
    preprocessed_by 0 (unit_outcome row_limits file_text (source_of ((codes "a.c", r.bytes) ∷ [])) 1 (unit (codes "rows") (codes "a.c") [] [] [] [] C99) nothing_carried)

-- It has the tokens of the row, and its file the number 2.
pub record IsPreprocessed (r : Row) : Type 0 where
  pub toks : result_then (λ (p : Preprocessed). Ok (row r.bytes p.text.toks p.text.pasted)) (row_unit r) ≡ Ok r
  pub file : result_then (λ (p : Preprocessed). Ok (slice_get p.after.table 2)) (row_unit r) ≡ Ok (Some (entry (codes "a.c") (Opened r.bytes)))

-- ---- what a renaming of this class does

-- its unit is read and bound as before
abbrev pub KeepsReading : Row → ℕ → List ℕ → Type 0
KeepsReading r at name = (a : AnalysisValue) → IsOf r a → UnitsReadAlike a (member at) name

-- meaning is not kept, whatever the files behind it are
abbrev pub BreaksMeaning : Row → ℕ → List ℕ → Type 0
BreaksMeaning r at name = (a : AnalysisValue) → IsOf r a → (now : Source) (ws : WorkspaceValue) → AnalysisIsRenamed now ws a (member at) name → ⊥

-- an offence of this cause stands against it, at this place
abbrev pub IsOffence : Row → ℕ → List ℕ → Cause → ℕ → Type 0
IsOffence r at name cause place = (a : AnalysisValue) → IsOf r a → IsAmong (offences_of a (member at) name false) (offence cause (pos 2 place))

-- ---- rows

-- int x;int y;
abbrev pub two_objects : Row
two_objects = record {
  bytes = codes "int x;int y;";
  toks = file_token 2 1 true 0 Ident (codes "int") ∷ file_token 2 1 true 4 Ident (codes "x") ∷ file_token 2 1 false 5 Punct (codes ";")
      ∷ file_token 2 1 false 6 Ident (codes "int") ∷ file_token 2 1 true 10 Ident (codes "y") ∷ file_token 2 1 false 11 Punct (codes ";") ∷ [];
  pasted = [];
}

-- what the name of a macro, character 30, brings of its replacement list (6.10.3.1)
abbrev brought : Bool → ℕ → Kind → List ℕ → Token
brought gap at kind text = record (file_token 2 2 gap at kind text) { at = pos 2 30; direct = false }

-- a name that it pastes of these characters (6.10.3.3)
abbrev pub pasted_name : Bool → ℕ → ℕ → ℕ → List ℕ → Token
pasted_name gap first second third text = token Ident text (Some (pos 2 first) ∷ Some (pos 2 second) ∷ Some (pos 2 third) ∷ []) gap (pos 2 30) 2 false

-- #define A(a) int a##yy,yy##a;
-- A(x)
abbrev pub pasted_names : Row
pasted_names = record {
  bytes = codes "#define A(a) int a##yy,yy##a;\nA(x)\n";
  toks = brought true 13 Ident (codes "int") ∷ pasted_name true 32 20 21 (codes "xyy")
      ∷ brought false 22 Punct (codes ",") ∷ pasted_name false 23 24 32 (codes "yyx") ∷ brought false 28 Punct (codes ";") ∷ [];
  pasted = pasted_name true 32 20 21 (codes "xyy") ∷ pasted_name false 23 24 32 (codes "yyx") ∷ [];
}

-- typedef int T;void f(void){int T;int g(T);}
abbrev pub hidden_typedef : Row
hidden_typedef = record {
  bytes = codes "typedef int T;void f(void){int T;int g(T);}";
  toks = file_token 2 1 true 0 Ident (codes "typedef") ∷ file_token 2 1 true 8 Ident (codes "int") ∷ file_token 2 1 true 12 Ident (codes "T")
      ∷ file_token 2 1 false 13 Punct (codes ";") ∷ file_token 2 1 false 14 Ident (codes "void") ∷ file_token 2 1 true 19 Ident (codes "f")
      ∷ file_token 2 1 false 20 Punct (codes "(") ∷ file_token 2 1 false 21 Ident (codes "void") ∷ file_token 2 1 false 25 Punct (codes ")")
      ∷ file_token 2 1 false 26 Punct (codes "{") ∷ file_token 2 1 false 27 Ident (codes "int") ∷ file_token 2 1 true 31 Ident (codes "T")
      ∷ file_token 2 1 false 32 Punct (codes ";") ∷ file_token 2 1 false 33 Ident (codes "int") ∷ file_token 2 1 true 37 Ident (codes "g")
      ∷ file_token 2 1 false 38 Punct (codes "(") ∷ file_token 2 1 false 39 Ident (codes "T") ∷ file_token 2 1 false 40 Punct (codes ")")
      ∷ file_token 2 1 false 41 Punct (codes ";") ∷ file_token 2 1 false 42 Punct (codes "}") ∷ [];
  pasted = [];
}
