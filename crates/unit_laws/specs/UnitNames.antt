-- Identifiers of a unit (ISO/IEC 9899:1999, 6.4.2): they are made of identifiers and pp-numbers of kept files
-- and of numbers that the unit brought, each whole, one behind the other (this project's).
use Rattle.std.specs.Prelude.{◌≡◌, ℕ, true, List, Some, Ok}
use Rattle.cs_base.specs.declared.tokens.Link.{Link}
use Rattle.cs_base.specs.Token.{Token, has_origins}
use Rattle.cs_base.specs.Units.{UnitValue}
use Rattle.line_shape.specs.Signs.{is_name}
use Rattle.macro_body.specs.Substitution.{line_number}
use Rattle.unit_steps.specs.declared.events.Event.{Event}
use Rattle.source_files.specs.Files.{Source, SourceFile, Table, Carried}
use Rattle.source_files.specs.Sources.{source_at}
use Rattle.unit_steps.specs.Texts.{UnitTextValue}
use Rattle.include_tree.specs.Preprocessed.{Preprocessed, preprocessed}
use Rattle.expansion_laws.specs.Pieces.{IsOneOf, IsMadeOf}
use Rattle.unit_laws.specs.UnitLinks.{IsIn}
use Rattle.unit_laws.specs.UnitTokens.{BringsLine}

-- The list has each identifier and each pp-number of the kept files, and each number that the unit brought:
-- those of lines, and those that stand for operands of `defined`.
pub record HasNames (files : List Token) (table : Table) (text : UnitTextValue) : Type 0 where
  pub kept : (number : ℕ) (file : SourceFile) (t : Token) → source_at table number ≡ Some file → IsOneOf file.text.toks t
      → has_origins t.kind ≡ true → IsOneOf files t
  pub lines : (e : Event) (name : Token) → IsIn text.events e → BringsLine e name → IsOneOf files (line_number name)
  pub answers : (t : Token) → IsOneOf text.answers t → IsOneOf files t

-- each identifier among some tokens is made of tokens of the list
abbrev pub NamesAreMade : List Token → List Token → Type 0
NamesAreMade files toks = (t : Token) → IsOneOf toks t → is_name t ≡ true → IsMadeOf files t

-- both tokens of a link are made of tokens of the list
pub record LinkIsMade (files : List Token) (l : Link) : Type 0 where
  pub first : IsMadeOf files l.x
  pub second : IsMadeOf files l.y

-- so are the identifiers of a unit: of its result, of its links, those that were pasted, those that strings
-- were made of, those of include lines, and the names of its events
pub record UnitIsMade (files : List Token) (text : UnitTextValue) : Type 0 where
  pub toks : NamesAreMade files text.toks
  pub links : (l : Link) → IsIn text.links l → LinkIsMade files l
  pub pasted : NamesAreMade files text.pasted
  pub stringized : NamesAreMade files text.stringized
  pub header : NamesAreMade files text.header
  pub names : (e : Event) (name : Token) → IsIn text.events e → e.name ≡ Some name → is_name name ≡ true → IsMadeOf files name

-- The law: it is so for each list that has them.
abbrev pub UnitNamesAreMade : Type 0
UnitNamesAreMade = (files : List Token) (source : Source) (number : ℕ) (unit : UnitValue) (before : Carried) (p : Preprocessed)
    → preprocessed source number unit before ≡ Ok p → HasNames files p.after.table p.text → UnitIsMade files p.text
