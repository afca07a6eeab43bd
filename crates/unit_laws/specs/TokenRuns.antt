-- Each token of a unit was put out by one of the runs that it reached (ISO/IEC 9899:1999, 5.1.1.2 phase 4, 6.10).
use Rattle.std.specs.Prelude.{◌≡◌, ◌≤◌, ◌<◌, ℕ, ◌+◌, List, length, Some, Ok, slice_get, slice_range}
use Rattle.cs_base.specs.Token.{Token}
use Rattle.cs_base.specs.Units.{UnitValue}
use Rattle.line_shape.specs.declared.items.Item.{Item}
use Rattle.line_shape.specs.declared.items.ItemKind.TheVariants.{Run}
use Rattle.macro_body.specs.Hides.{toks_of}
use Rattle.macro_body.specs.Notes as expansion
use Rattle.macro_expand.specs.Expansion as expanding
use Rattle.source_files.specs.Files.{Source, SourceFile, Table, Carried}
use Rattle.source_files.specs.Sources.{source_at}
use Rattle.source_files.specs.Tables.{IsGrown, AreFound}
use Rattle.unit_steps.specs.State.{State}
use Rattle.unit_steps.specs.Texts.{UnitTextValue}
use Rattle.include_tree.specs.Preprocessed.{Preprocessed, preprocessed}
use Rattle.expansion_laws.specs.Arranging.{AreDistinct}
use Rattle.unit_laws.specs.Files.{items_at}
use Rattle.unit_laws.specs.Reordered.{IsProcessed}

-- A run of text lines that a unit with these files reaches: its file, the item and its tokens, what it is expanded to, and where this
-- stands in the unit; token b of the unit is of it.
pub record TokenRun (files : Table) (text : UnitTextValue) (b : ℕ) : Type 0 where
  pub file : SourceFile
  pub k : ℕ
  pub it : Item
  pub run : List Token
  pub s : State
  pub e : expansion.Expanded
  pub kept : source_at files file.number ≡ Some file
  pub item : slice_get (items_at file.text) k ≡ Some it
  pub is_run : it.kind ≡ Run
  pub run_is : run ≡ slice_range file.text.toks it.from it.to
  pub reached : IsProcessed text file k s.before (length e.toks)
  pub expands : expanding.expansion s.macros file.path run s.work ≡ Ok e
  pub toks : (m : ℕ) (t : Token) → slice_get (toks_of e.toks) m ≡ Some t → slice_get text.toks (s.before + m) ≡ Some t
  pub low : s.before ≤ b
  pub high : b < s.before + length e.toks
  pub distinct : AreDistinct run

-- So it is with each token of a unit. What its files are is what the paths hold, and numbers only come behind those that there are.
pub record UnitOfRuns (old : Source) (before : Carried) (p : Preprocessed) : Type 0 where
  pub tokens : (b : ℕ) → b < length p.text.toks → TokenRun p.after.table p.text b
  pub found : AreFound old p.after.table
  pub grown : IsGrown before.table p.after.table

-- The law.
abbrev pub UnitTokensAreOfRuns : Type 0
UnitTokensAreOfRuns = (old : Source) (number : ℕ) (unit : UnitValue) (before : Carried) (p : Preprocessed) → preprocessed old number unit before ≡ Ok p → AreFound old before.table
    → UnitOfRuns old before p
