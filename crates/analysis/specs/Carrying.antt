-- What is carried from unit to unit, and the refusal of one unit.
use Rattle.std.specs.Prelude.{◌≡◌, ◌≤◌, ◌<◌, ◌^◌, ℕ, None, Option, IfSome}
use Rattle.cs_base.specs.Outside.{FileMap}
use Rattle.include_tree.specs.Below.source_files.declared.pre_fault.PreFault.{PreFault}
use Rattle.include_tree.specs.Below.source_files.declared.pre_fault.PreFault.TheVariants as unit
use Rattle.include_tree.specs.Below.source_files.Files.{Source, source_of, Table, found_at, defines_path}
use Rattle.include_tree.specs.Below.source_files.Tables.{IsGrown, AreFound, HasEachOnce, StaysHeld}
use Rattle.analysis.specs.declared.analyse_fault.AnalyseFault.{AnalyseFault}
use Rattle.analysis.specs.declared.analyse_fault.AnalyseFault.TheVariants as answer

-- The table that is carried to a unit: its pseudo file and those of later units were not met.
abbrev pub IsFresh : ℕ → Table → Type 0
IsFresh number table = (other : ℕ) → number ≤ other → other < 2 ^ 32 → found_at (defines_path other) table ≡ None

-- What a step over files does to the table: it grows, stays what they hold, where that is told, and has each
-- path once.
pub record ReadsMore (told : Option FileMap) (old new : Table) : Type 0 where
  pub grown : IsGrown old new
  pub found : StaysHeld told old new
  pub once : HasEachOnce new

-- An answer that is so over every source which agrees with what was read: a table that has each path once, and
-- with which the files agree, where it is told what they hold.
pub record IsOver (told : Option FileMap) (table : Table) (Answers : Source → Type 0) : Type 0 where
  pub once : HasEachOnce table
  pub found : IfSome told (λ held. AreFound (source_of held) table)
  pub each : (source : Source) → AreFound source table → Answers source

-- the refusal of a unit, with the number of the unit
abbrev pub in_unit : ℕ → PreFault → AnalyseFault
in_unit number (unit.Fault place cause) = answer.WorkspaceFault number place cause
in_unit number (unit.ReadFault path) = answer.ReadFault path
in_unit number unit.Memory = answer.Memory
