-- Where the tokens of a unit come from (this project's, over ISO/IEC 9899:1999, 6.10): they are made of whole
-- tokens of kept files, one behind the other, or of a number that was brought, and stand where tokens of
-- kept files stand.
use Rattle.std.specs.Prelude.{◌≡◌, ℕ, false, List, None, Some, Ok, codes}
use Rattle.cs_base.specs.declared.positions.Pos.{Pos}
use Rattle.cs_base.specs.declared.tokens.Link.{Link}
use Rattle.cs_base.specs.Token.{Token}
use Rattle.cs_base.specs.Units.{UnitValue}
use Rattle.lexer.specs.Characters.{double_quote}
use Rattle.macro_body.specs.Substitution.{line_number}
use Rattle.unit_steps.specs.declared.events.Event.{Event}
use Rattle.unit_steps.specs.declared.events.EventKind.TheVariants as kind
use Rattle.source_files.specs.Files.{Source, SourceFile, Table, Carried}
use Rattle.source_files.specs.Sources.{source_at}
use Rattle.unit_steps.specs.Texts.{UnitTextValue}
use Rattle.include_tree.specs.Preprocessed.{Preprocessed, preprocessed}
use Rattle.expansion_laws.specs.Pieces.{IsOneOf, Characters, IsWhole, AreWhole, StandsWith}
use Rattle.unit_laws.specs.UnitLinks.{IsIn}

-- ---- spelling and origins

-- the tokens of each kept file that are spelled with such characters are made of these tokens
abbrev pub FilesAreWhole : Characters → List Token → Table → Type 0
FilesAreWhole among files table = (number : ℕ) (file : SourceFile) → source_at table number ≡ Some file → AreWhole among files file.text.toks

-- the event replaces a name by the first definition of `__LINE__` (6.10.8)
pub record BringsLine (e : Event) (token : Token) : Type 0 where
  pub kind : e.kind ≡ kind.Replaced
  pub name : e.name ≡ Some token
  pub first : e.def ≡ None
  pub spelled : token.text ≡ codes "__LINE__"

-- so are the numbers that the unit brought: those of lines, and those that stand for operands of `defined`
pub record NumbersAreWhole (among : Characters) (files : List Token) (text : UnitTextValue) : Type 0 where
  pub lines : (e : Event) (name : Token) → IsIn text.events e → BringsLine e name → IsWhole among files (line_number name)
  pub answers : AreWhole among files text.answers

-- and so are those of a unit: of its result, of its links, those that were pasted, those that strings were
-- made of, those of include lines, and the names of its events
pub record UnitIsWhole (among : Characters) (files : List Token) (text : UnitTextValue) : Type 0 where
  pub toks : AreWhole among files text.toks
  pub links : (l : Link) → IsIn text.links l → IsWhole among files l.x × IsWhole among files l.y
  pub pasted : AreWhole among files text.pasted
  pub stringized : AreWhole among files text.stringized
  pub header : AreWhole among files text.header
  pub names : (e : Event) (name : Token) → IsIn text.events e → e.name ≡ Some name → IsWhole among files name

-- The law: where the tokens of kept files and the numbers that were brought are whole, so are those of the unit.
abbrev pub UnitTokensAreWhole : Type 0
UnitTokensAreWhole = (among : Characters) (files : List Token) (source : Source) (number : ℕ) (unit : UnitValue) (before : Carried) (p : Preprocessed)
    → among double_quote ≡ false → preprocessed source number unit before ≡ Ok p
    → FilesAreWhole among files p.after.table → NumbersAreWhole among files p.text → UnitIsWhole among files p.text

-- ---- places

-- a token stands where a token of a kept file stands
pub record StandsInFile (table : Table) (t : Token) : Type 0 where
  pub number : ℕ
  pub file : SourceFile
  pub is_kept : source_at table number ≡ Some file
  pub place : StandsWith file.text.toks t

-- something stands where such a token stands
abbrev pub IsPlace : Table → Pos → Type 0
IsPlace table at = (t : Token) × (StandsInFile table t × (t.at ≡ at))

-- The law: so stands each token of a unit, each token of its links, and each event with its name.
pub record UnitStands (table : Table) (text : UnitTextValue) : Type 0 where
  pub toks : (t : Token) → IsOneOf text.toks t → StandsInFile table t
  pub links : (l : Link) → IsIn text.links l → StandsInFile table l.x × StandsInFile table l.y
  pub pasted : (t : Token) → IsOneOf text.pasted t → StandsInFile table t
  pub stringized : (t : Token) → IsOneOf text.stringized t → StandsInFile table t
  pub header : (t : Token) → IsOneOf text.header t → StandsInFile table t
  pub answers : (t : Token) → IsOneOf text.answers t → StandsInFile table t
  pub names : (e : Event) (name : Token) → IsIn text.events e → e.name ≡ Some name → StandsInFile table name
  pub events : (e : Event) → IsIn text.events e → IsPlace table e.at

abbrev pub UnitTokensStandInFiles : Type 0
UnitTokensStandInFiles = (source : Source) (number : ℕ) (unit : UnitValue) (before : Carried) (p : Preprocessed)
    → preprocessed source number unit before ≡ Ok p → UnitStands p.after.table p.text
