-- A worked row of two units of one project over one file, in which two names of external linkage fall together.
use Rattle.std.specs.Prelude.{◌≡◌, ℕ, Bool, true, false, Some, List, [], ◌∷◌, Result, Ok, codes, slice_get}
use Rattle.std.specs.Str.{bytes_eq}
use Rattle.cs_base.specs.declared.ws_units.Setting.{Setting}
use Rattle.cs_base.specs.declared.ws_units.Setting.TheVariants.{Define}
use Rattle.cs_base.specs.declared.ws_units.Standard.TheVariants.{C99}
use Rattle.cs_base.specs.declared.causes.Cause.{Cause}
use Rattle.cs_base.specs.declared.tokens.Kind.{Kind}
use Rattle.cs_base.specs.declared.tokens.Kind.TheVariants.{Ident, Punct}
use Rattle.cs_base.specs.Token.{Token, token}
use Rattle.cs_base.specs.Answer.{result_then}
use Rattle.cs_base.specs.Units.{UnitValue, unit}
use Rattle.analysis.specs.Below.ws_file.Workspace.{WorkspaceValue}
use Rattle.analysis.specs.Below.lexer.FileText.{file_text}
use Rattle.analysis.specs.Below.lexer.Places.{pos}
use Rattle.analysis.specs.Below.lexer.Tokens.{file_token}
use Rattle.analysis.specs.Below.source_files.Faults.{Fault}
use Rattle.analysis.specs.Below.source_files.Files.{Source, source_of, Carried, Opened, entry, nothing_carried}
use Rattle.analysis.specs.Below.include_tree.Preprocessed.{Preprocessed, preprocessed_by}
use Rattle.analysis.specs.Below.include_tree.Unit.{unit_outcome}
use Rattle.analysis.specs.Analysis.{UnitAnalysis, AnalysisValue}
use Rattle.edited_unit_laws.specs.Analyses.{IsRead}
use Rattle.offences.specs.First.{IsAmong, offence}
use Rattle.rename_rules.specs.Offences.{offences_of}
use Rattle.renamed.specs.Renamed.{AnalysisIsRenamed, ExternalNamesAreKept, renaming_of}
use Rattle.analysis.specs.Changed.{denote_one, renamed_analysis}
use Rattle.part_respell.specs.Respelled.{respelled}
use Rattle.meaning_rows.specs.Clause.{UnitsReadAlike}
use Rattle.meaning_rows.specs.Rows.{member, row_limits}

-- what a unit has: its tokens, and those of them that were pasted
pub record Tokens : Type 0 where
  pub toks : List Token
  pub pasted : List Token

abbrev tokens : List Token → List Token → Tokens
tokens toks pasted = record { toks = toks; pasted = pasted }

-- A row: the bytes of its file, which has number 2, and what each of its two units has.
pub record TwoUnits : Type 0 where
  pub bytes : List ℕ
  pub one : Tokens
  pub other : Tokens

-- A unit of an analysis has these tokens, is one of C99, and is read and bound as they are.
pub record Has (h : Tokens) (u : UnitAnalysis) : Type 0 where
  pub standard : u.standard ≡ C99
  pub toks : u.text.toks ≡ h.toks
  pub pasted : u.text.pasted ≡ h.pasted
  pub read : IsRead u

-- An analysis of the row: of two units of one project.
pub record AreOf (r : TwoUnits) (a : AnalysisValue) : Type 0 where
  pub one : UnitAnalysis
  pub other : UnitAnalysis
  pub both : a.units ≡ one ∷ other ∷ []
  pub first : Has r.one one
  pub second : Has r.other other
  pub one_unit : UnitValue
  pub other_unit : UnitValue
  pub units : a.workspace.units ≡ one_unit ∷ other_unit ∷ []
  pub project : bytes_eq one_unit.project other_unit.project ≡ true

-- ---- the row of a file

-- a unit of the file with these settings, preprocessed within the limits of rows
abbrev unit_with : TwoUnits → ℕ → List Setting → Carried → Result Preprocessed Fault
unit_with r number settings before =
    preprocessed_by 0 (unit_outcome row_limits file_text (source_of ((codes "a.c", r.bytes) ∷ [])) number (unit (codes "rows") (codes "a.c") [] [] settings [] C99) before)

abbrev tokens_of : Result Preprocessed Fault → Result Tokens Fault
tokens_of m = result_then (λ (p : Preprocessed). Ok (tokens p.text.toks p.text.pasted)) m

-- the first unit defines `U`, the second does not
abbrev pub one_of : TwoUnits → Result Preprocessed Fault
one_of r = unit_with r 1 (Define (codes "U") ∷ []) nothing_carried

abbrev pub other_of : TwoUnits → Result Preprocessed Fault
other_of r = result_then (λ (p : Preprocessed). unit_with r 2 [] p.after) (one_of r)

-- They have the tokens of the row, and its file the number 2.
pub record ArePreprocessed (r : TwoUnits) : Type 0 where
  pub one : tokens_of (one_of r) ≡ Ok r.one
  pub other : tokens_of (other_of r) ≡ Ok r.other
  pub file : result_then (λ (p : Preprocessed). Ok (slice_get p.after.table 2)) (other_of r) ≡ Ok (Some (entry (codes "a.c") (Opened r.bytes)))

-- ---- what a renaming of this class does

-- an offence of this cause stands against it, at this place
abbrev pub StandsAgainst : TwoUnits → ℕ → List ℕ → Cause → ℕ → Type 0
StandsAgainst r at name cause place = (a : AnalysisValue) → AreOf r a → IsAmong (offences_of a (member at) name false) (offence cause (pos 2 place))

-- each unit is read and bound as before
abbrev pub KeepsEachReading : TwoUnits → ℕ → List ℕ → Type 0
KeepsEachReading r at name = (a : AnalysisValue) → AreOf r a → UnitsReadAlike a (member at) name

-- what the units share is not kept, whatever the files behind it are
abbrev pub BreaksSharing : TwoUnits → ℕ → List ℕ → Type 0
BreaksSharing r at name = (a : AnalysisValue) → AreOf r a → (now : Source) (ws : WorkspaceValue) → AnalysisIsRenamed now ws a (member at) name
    → ExternalNamesAreKept now ws a → ⊥

-- the names that the units declare, token 1 of each, denote one entity exactly where they did
abbrev pub KeepsDeclared : TwoUnits → ℕ → List ℕ → Type 0
KeepsDeclared r at name = (a : AnalysisValue) → AreOf r a
    → denote_one (renamed_analysis (renaming_of a (member at) name) (respelled (member at) name) a) 0 1 1 1 ≡ denote_one a 0 1 1 1

-- ---- the row

-- what the name of the macro, character 70, brings of the replacement list in this line
abbrev brought : Bool → ℕ → Kind → List ℕ → Token
brought gap at kind text = record (file_token 2 6 gap at kind text) { at = pos 2 70; direct = false }

-- a name that it pastes of these characters (6.10.3.3)
abbrev pub declared_name : ℕ → ℕ → ℕ → List ℕ → Token
declared_name first second third text = token Ident text (Some (pos 2 first) ∷ Some (pos 2 second) ∷ Some (pos 2 third) ∷ []) true (pos 2 70) 6 false

-- #ifdef U
-- #define N(a) int a##yy;
-- #else
-- #define N(a) int yy##a;
-- #endif
-- N(x)
abbrev pub two_names : TwoUnits
two_names = record {
  bytes = codes "#ifdef U\n#define N(a) int a##yy;\n#else\n#define N(a) int yy##a;\n#endif\nN(x)\n";
  one = tokens (brought true 22 Ident (codes "int") ∷ declared_name 72 29 30 (codes "xyy") ∷ brought false 31 Punct (codes ";") ∷ [])
      (declared_name 72 29 30 (codes "xyy") ∷ []);
  other = tokens (brought true 52 Ident (codes "int") ∷ declared_name 56 57 72 (codes "yyx") ∷ brought false 61 Punct (codes ";") ∷ [])
      (declared_name 56 57 72 (codes "yyx") ∷ []);
}
