-- The tokens of a unit are spelled as their kinds say (ISO/IEC 9899:1999, 6.4).
use Rattle.std.specs.Prelude.{◌≡◌, ℕ, true, Some, Ok}
use Rattle.std.specs.List.{list_all}
use Rattle.cs_base.specs.declared.tokens.Link.{Link}
use Rattle.cs_base.specs.Token.{Token}
use Rattle.cs_base.specs.Units.{UnitValue}
use Rattle.unit_steps.specs.declared.events.Event.{Event}
use Rattle.source_files.specs.Files.{Source, SourceFile, Table, Carried}
use Rattle.source_files.specs.Sources.{source_at}
use Rattle.unit_steps.specs.Texts.{UnitTextValue}
use Rattle.include_tree.specs.Preprocessed.{Preprocessed, preprocessed}
use Rattle.expansion_laws.specs.Spelled.{is_spelled}
use Rattle.unit_laws.specs.UnitLinks.{IsIn}

-- The law: the tokens of kept files are spelled so.
abbrev pub FilesAreSpelled : Type 0
FilesAreSpelled = (table : Table) (number : ℕ) (file : SourceFile) → source_at table number ≡ Some file → list_all is_spelled file.text.toks ≡ true

-- those of a unit are: of its result, of its links, those that were pasted, those that strings were made of,
-- those of include lines, the numbers that stand for operands of `defined`, and the names of its events
pub record UnitIsSpelled (text : UnitTextValue) : Type 0 where
  pub toks : list_all is_spelled text.toks ≡ true
  pub links : (l : Link) → IsIn text.links l → (is_spelled l.x ≡ true) × (is_spelled l.y ≡ true)
  pub pasted : list_all is_spelled text.pasted ≡ true
  pub stringized : list_all is_spelled text.stringized ≡ true
  pub header : list_all is_spelled text.header ≡ true
  pub answers : list_all is_spelled text.answers ≡ true
  pub names : (e : Event) (name : Token) → IsIn text.events e → e.name ≡ Some name → is_spelled name ≡ true

-- The law: so are those of each unit; in particular, each identifier among them is spelled as an identifier.
abbrev pub UnitTokensAreSpelled : Type 0
UnitTokensAreSpelled = (source : Source) (number : ℕ) (unit : UnitValue) (before : Carried) (p : Preprocessed)
    → preprocessed source number unit before ≡ Ok p → UnitIsSpelled p.text
