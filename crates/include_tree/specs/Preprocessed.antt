-- What preprocessing a unit gives (ISO/IEC 9899:1999, 5.1.1.2 phase 4).
use Rattle.std.specs.Prelude.{ℕ, ◌+◌, List, Result, Ok, Err, length}
use Rattle.cs_base.specs.Token.{Token}
use Rattle.cs_base.specs.Units.{UnitValue}
use Rattle.source_files.specs.Below.lexer.FileText.{file_text}
use Rattle.source_files.specs.Limits.{the_limits}
use Rattle.source_files.specs.Files.{Source, Carried, carried, nothing_carried}
use Rattle.source_files.specs.Faults.{Fault}
use Rattle.unit_steps.specs.State.{Outcome}
use Rattle.unit_steps.specs.Texts.{UnitTextValue, unit_text}
use Rattle.include_tree.specs.Unit.{unit_outcome}

-- What preprocessing a unit gives: its text, and what is carried to the next unit.
pub record Preprocessed : Type 0 where
  pub text : UnitTextValue
  pub after : Carried

-- a text, and what is carried on
abbrev pub with_text : Carried → UnitTextValue → Preprocessed
with_text after text = record { text = text; after = after }

-- that of an outcome; so many tokens came before
abbrev pub preprocessed_by : ℕ → Outcome (List Token) → Result Preprocessed Fault
preprocessed_by earlier (Ok d) = Ok (record {
  text = unit_text d.value d.notes;
  after = carried d.state.table (earlier + length d.value);
})
preprocessed_by earlier (Err fault) = Err fault

-- a unit, given its number and what is carried from the units before
unfoldable pub preprocessed : Source → ℕ → UnitValue → Carried → Result Preprocessed Fault
preprocessed source number unit before =
    preprocessed_by before.toks (unit_outcome the_limits file_text source number unit before)

-- one unit by itself
abbrev pub one_unit : Source → ℕ → UnitValue → Result Preprocessed Fault
one_unit source number unit = preprocessed source number unit nothing_carried
