-- Tests that a unit keeps (ISO/IEC 9899:1999, 6.10): what the tokens of kept files pass, and the tokens that
-- are put in or made pass too, each token of the unit passes.
use Rattle.std.specs.Prelude.{◌≡◌, ℕ, true, List, Some, Ok}
use Rattle.std.specs.List.{list_all}
use Rattle.cs_base.specs.declared.tokens.Link.{Link}
use Rattle.cs_base.specs.Token.{Token}
use Rattle.cs_base.specs.Units.{UnitValue}
use Rattle.macro_body.specs.Substitution.{line_number, path_string}
use Rattle.unit_steps.specs.declared.events.Event.{Event}
use Rattle.source_files.specs.Files.{Source, SourceFile, Table, Carried}
use Rattle.source_files.specs.Sources.{source_at}
use Rattle.unit_steps.specs.Texts.{UnitTextValue}
use Rattle.include_tree.specs.Preprocessed.{Preprocessed, preprocessed}
use Rattle.expansion_laws.specs.Passing.{Test, IsBlind, standing_at, MadePass}
use Rattle.unit_laws.specs.UnitLinks.{IsIn}
use Rattle.unit_laws.specs.UnitTokens.{BringsLine}

-- The tokens of kept files pass, and where they are put in for a name that passes.
pub record FilesPass (p : Test) (table : Table) : Type 0 where
  pub toks : (number : ℕ) (file : SourceFile) → source_at table number ≡ Some file → list_all p file.text.toks ≡ true
  pub placed : (name t : Token) → p name ≡ true → p t ≡ true → p (standing_at name t) ≡ true

-- What comes from no file passes: the numbers that the unit brought, and the strings that stand for
-- `__FILE__`.
pub record BroughtPass (p : Test) (text : UnitTextValue) : Type 0 where
  pub lines : (e : Event) (name : Token) → IsIn text.events e → BringsLine e name → p name ≡ true → p (line_number name) ≡ true
  pub answers : list_all p text.answers ≡ true
  pub paths : (path : List ℕ) (name : Token) → p name ≡ true → p (path_string path name) ≡ true

-- each token of a unit passes: of its result, of its links, those that were pasted, those that strings were
-- made of, those of include lines, and the names of its events
pub record UnitPasses (p : Test) (text : UnitTextValue) : Type 0 where
  pub toks : list_all p text.toks ≡ true
  pub links : (l : Link) → IsIn text.links l → (p l.x ≡ true) × (p l.y ≡ true)
  pub pasted : list_all p text.pasted ≡ true
  pub stringized : list_all p text.stringized ≡ true
  pub header : list_all p text.header ≡ true
  pub names : (e : Event) (name : Token) → IsIn text.events e → e.name ≡ Some name → p name ≡ true

-- The law: it is so for each test.
abbrev pub UnitKeepsTests : Type 0
UnitKeepsTests = (p : Test) (source : Source) (number : ℕ) (unit : UnitValue) (before : Carried) (u : Preprocessed)
    → preprocessed source number unit before ≡ Ok u → IsBlind p → FilesPass p u.after.table → BroughtPass p u.text → MadePass p
    → UnitPasses p u.text
