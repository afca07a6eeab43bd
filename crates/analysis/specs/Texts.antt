-- The units of a workspace, preprocessed in order (ISO/IEC 9899:1999, 5.1.1.2 phase 4).
use Rattle.std.specs.Prelude.{ℕ, zero, suc, ◌+◌, Option, None, List, [], ◌∷◌, Result, Ok, slice_get}
use Rattle.std.specs.Option.{option_map}
use Rattle.cs_base.specs.Answer.{result_then, result_map_err}
use Rattle.cs_base.specs.Units.{UnitValue}
use Rattle.include_tree.specs.Below.source_files.Faults.{Fault}
use Rattle.include_tree.specs.Below.source_files.Files.{Source, Table, Carried, nothing_carried}
use Rattle.include_tree.specs.Below.unit_steps.Texts.{UnitTextValue}
use Rattle.include_tree.specs.Preprocessed.{Preprocessed, preprocessed}

-- The texts of units in order, and what each number of a file stands for.
pub record TextsValue : Type 0 where
  pub texts : List UnitTextValue
  pub table : Table

-- texts of these parts
abbrev pub texts_and : List UnitTextValue → Table → TextsValue
texts_and texts table = record { texts = texts; table = table }

-- A fault of a unit, with the number of the unit, from 1.
pub record UnitFault : Type 0 where
  pub unit : ℕ
  pub fault : Fault

abbrev pub unit_fault : ℕ → Fault → UnitFault
unit_fault unit fault = record { unit = unit; fault = fault }

-- a text in front of those of later units
abbrev pub with_front : UnitTextValue → TextsValue → TextsValue
with_front text t = texts_and (text ∷ t.texts) t.table

-- unit `number`, with what is carried from the units before, or its fault
abbrev pub unit_with : Source → ℕ → UnitValue → Carried → Result Preprocessed UnitFault
unit_with source number unit before = result_map_err (unit_fault number) (preprocessed source number unit before)

-- The texts of the units from number `number` on, with what is carried from the units before; or the first
-- fault, in order of units.
unfoldable pub texts_from : Source → ℕ → List UnitValue → Carried → Result TextsValue UnitFault
texts_from source number [] before = Ok (texts_and [] before.table)
texts_from source number (unit ∷ units) before =
    result_then (λ p. result_then (λ later. Ok (with_front p.text later)) (texts_from source (number + 1) units p.after))
    (unit_with source number unit before)

-- the texts of all units, or the first fault
abbrev pub texts_of : Source → List UnitValue → Result TextsValue UnitFault
texts_of source units = texts_from source 1 units nothing_carried

-- unit `number`, from 1, if there is one
abbrev pub unit_at : List UnitValue → ℕ → Option UnitValue
unit_at units zero = None
unit_at units (suc before) = slice_get units before

-- the text of a unit by itself, with nothing carried, or its fault
abbrev pub alone : Source → ℕ → UnitValue → Result UnitTextValue UnitFault
alone source number unit = result_then (λ p. Ok p.text) (unit_with source number unit nothing_carried)

-- the same of unit `number`; none where there is no such unit
abbrev pub one_text_of : Source → List UnitValue → ℕ → Option (Result UnitTextValue UnitFault)
one_text_of source units number = option_map (alone source number) (unit_at units number)
