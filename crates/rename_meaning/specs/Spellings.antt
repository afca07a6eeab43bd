-- New spellings of tokens under a renaming against which nothing stands (this project's): what is linked stays alike, and
-- what was apart stays apart.
use Rattle.std.specs.Prelude.{ℕ, ◌≡◌, ◌⊎◌, true, List, Some}
use Rattle.cs_base.specs.declared.positions.Part.{Part}
use Rattle.cs_base.specs.declared.tokens.Link.{Link}
use Rattle.cs_base.specs.Token.{Token}
use Rattle.lexer.specs.Tokens.{tokens_of}
use Rattle.line_shape.specs.Signs.{is_name}
use Rattle.source_files.specs.KeptFiles.{KeptValue, kept_at}
use Rattle.part_respell.specs.Respelled.{spelled}
use Rattle.analysis.specs.Analysed.{Analysed}
use Rattle.analysis.specs.Analysis.{UnitAnalysis, AnalysisValue}
use Rattle.analysis.specs.Links.{links_of}
use Rattle.rename_meaning.specs.Allowed.{IsAllowed}
use Rattle.unit_laws.specs.UnitLinks.{IsIn}

-- The law: both tokens of a link get one new spelling.
abbrev pub LinkedStayAlike : Type 0
LinkedStayAlike = (a : Analysed) (members : List Part) (name : List ℕ) → IsAllowed a members name
    → (l : Link) → IsIn (links_of a.value) l → spelled members name l.x ≡ spelled members name l.y

-- a token of a kept file
pub record IsOfFile (a : AnalysisValue) (t : Token) : Type 0 where
  pub number : ℕ
  pub file : KeptValue
  pub is_kept : kept_at a.table number ≡ Some file
  pub there : IsIn (tokens_of file.number file.bytes) t

-- the token was pasted in some unit (6.10.3.3)
pub record IsPasted (a : AnalysisValue) (t : Token) : Type 0 where
  pub unit : UnitAnalysis
  pub there : IsIn a.units unit
  pub pasted : IsIn unit.text.pasted t

-- a token of a kept file, or a pasted identifier
abbrev pub IsOfFileOrName : AnalysisValue → Token → Type 0
IsOfFileOrName a t = IsOfFile a t ⊎ (IsPasted a t × (is_name t ≡ true))

-- The law: those that get one new spelling had one old spelling.
abbrev pub OthersStayApart : Type 0
OthersStayApart = (a : Analysed) (members : List Part) (name : List ℕ) → IsAllowed a members name
    → (t u : Token) → IsOfFileOrName a.value t → IsOfFileOrName a.value u → spelled members name t ≡ spelled members name u → t.text ≡ u.text
