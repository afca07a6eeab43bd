-- What is promised of a unit on its way through preprocessing, reading and binding.
use Rattle.std.specs.Prelude.{ℕ, ◌≡◌, Option, Some, List, Result, Ok, IfSome}
use Rattle.cs_base.specs.Answer.{result_then}
use Rattle.cs_base.specs.declared.causes.Cause.{Cause}
use Rattle.cs_base.specs.Token.{Token}
use Rattle.cs_base.specs.Units.{UnitValue}
use Rattle.include_tree.specs.Below.source_files.Files.{Source, Table, Carried, nothing_carried}
use Rattle.c99_read.specs.Reading.{Stop}
use Rattle.analysis.specs.declared.analyse_fault.AnalyseFault.{AnalyseFault}
use Rattle.analysis.specs.declared.analyse_fault.AnalyseFault.TheVariants as answer
use Rattle.analysis.specs.Texts.{UnitFault, unit_fault, unit_with}
use Rattle.analysis.specs.Answers.{fault_of}
use Rattle.analysis.specs.Analysis.{UnitAnalysis, UnitsValue, unit_read, fault_at_index, stop_index, stop_cause, analysed_from}

-- A unit that is accepted, and what is carried to the next one.
pub record Passed : Type 0 where
  pub unit : UnitAnalysis
  pub after : Carried

abbrev pub passed : Carried → UnitAnalysis → Passed
passed after unit = record { unit = unit; after = after }

-- unit `number`, with what is carried from the units before, or its fault
abbrev pub passed_with : Source → ℕ → UnitValue → Carried → Result Passed UnitFault
passed_with source number unit before =
    result_then (λ p. result_then (λ u. Ok (passed p.after u)) (unit_read unit.standard number unit.path p)) (unit_with source number unit before)

-- all units, or the first fault
abbrev pub units_of : Source → List UnitValue → Result UnitsValue UnitFault
units_of source units = analysed_from source 1 units nothing_carried

-- why a text is not read, and at which token
abbrev pub told_of_stop : Stop → ℕ × Cause
told_of_stop stop = (stop_index stop, stop_cause stop)

-- what was told, as the fault of unit `number`, which has this path
abbrev pub told_fault : ℕ → Table → List ℕ → List Token → ℕ × Cause → UnitFault
told_fault number table path toks told = unit_fault number (fault_at_index table path toks told.0 told.1)

-- the refusal tells of this fault, or memory ran out
abbrev pub MayTell : AnalyseFault → Option UnitFault → Type 0
MayTell e told = IfSome (fault_of e) (λ f. told ≡ Some f)

-- a refusal that tells of no failed read
abbrev pub IsNoReadFault : AnalyseFault → Type 0
IsNoReadFault (answer.WorkspaceFault unit place cause) = Unit {0}
IsNoReadFault (answer.ReadFault path) = ⊥
IsNoReadFault answer.Memory = Unit {0}
