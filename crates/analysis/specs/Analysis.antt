-- The analysis of a workspace: each of its units is preprocessed, read and bound, in order, or the first fault
-- is named (ISO/IEC 9899:1999, 5.1.1.2 phases 4 and 7). The least unit with a fault is named; in a unit
-- preprocessing comes before reading, and reading before binding.
use Rattle.std.specs.Prelude.{ℕ, ◌+◌, ◌-◌, min, Option, List, [], ◌∷◌, Result, Ok, length, slice_get}
use Rattle.std.specs.Option.{option_map_or}
use Rattle.cs_base.specs.declared.ws_units.Standard.{Standard}
use Rattle.cs_base.specs.Answer.{result_then, result_map_err}
use Rattle.cs_base.specs.declared.causes.Cause.{Cause}
use Rattle.cs_base.specs.declared.causes.Cause.TheVariants as cause
use Rattle.cs_base.specs.declared.positions.Place.{Place}
use Rattle.cs_base.specs.Token.{Token}
use Rattle.cs_base.specs.Units.{UnitValue}
use Rattle.ws_file.specs.Workspace.{WorkspaceValue}
use Rattle.include_tree.specs.Below.source_files.Files.{Source, Table, Carried, nothing_carried}
use Rattle.include_tree.specs.Below.source_files.Faults.{Fault, fault, first_place}
use Rattle.include_tree.specs.Below.unit_steps.Texts.{UnitTextValue}
use Rattle.include_tree.specs.Preprocessed.{Preprocessed}
use Rattle.c99_tree.specs.Tree.{Node}
use Rattle.c99_read.specs.Reading.{Stop, syntax, too_deep, read_of}
use Rattle.c99_read.specs.Below.c99_grammar.Dialects.{dialect}
use Rattle.c99_read.specs.Below.c99_grammar.Standard.{grammar}
use Rattle.gnu_bind.specs.Below.scope_bind.Bound.{Bound}
use Rattle.gnu_bind.specs.Bound.{binding_by}
use Rattle.gnu_bind.specs.Below.scope_bind.Causes.{cause_of, index_of}
use Rattle.analysis.specs.Texts.{UnitFault, unit_fault, unit_with}
use Rattle.analysis.specs.Places.{place_at}

-- A unit that is accepted: its standard, its text, its syntax tree (Annex A), and what its identifiers denote (6.2).
pub record UnitAnalysis : Type 0 where
  pub standard : Standard
  pub text : UnitTextValue
  pub tree : Node
  pub bound : Bound

abbrev pub unit_analysis : Standard → UnitTextValue → Node → Bound → UnitAnalysis
unit_analysis standard text tree bound = record { standard = standard; text = text; tree = tree; bound = bound }

-- A workspace all of whose units are accepted: the workspace, its units in order, and what each number of a
-- file stands for behind the last of them.
pub record AnalysisValue : Type 0 where
  pub workspace : WorkspaceValue
  pub units : List UnitAnalysis
  pub table : Table

abbrev pub analysis_and : WorkspaceValue → List UnitAnalysis → Table → AnalysisValue
analysis_and workspace units table = record { workspace = workspace; units = units; table = table }

-- ---- where faults stand (this project's)

-- the token with the index, and the last one where that is the end
abbrev pub token_or_last : List Token → ℕ → Option Token
token_or_last toks index = slice_get toks (min index (length toks - 1))

-- the place of the source token that brought it, in the files of the table; a unit of this path that has no
-- token begins there
abbrev pub place_of_index : Table → List ℕ → List Token → ℕ → Place
place_of_index table path toks index =
    option_map_or (λ t. place_at table t.at) (token_or_last toks index) (first_place path)

-- ---- reading

abbrev pub stop_index : Stop → ℕ
stop_index (syntax index) = index
stop_index (too_deep index) = index

abbrev pub stop_cause : Stop → Cause
stop_cause (syntax index) = cause.Syntax
stop_cause (too_deep index) = cause.TooDeep

-- ---- units

-- the fault at a token
abbrev pub fault_at_index : Table → List ℕ → List Token → ℕ → Cause → Fault
fault_at_index table path toks index why = fault (place_of_index table path toks index) why

-- a unit whose tokens have this tree, bound, or its fault
abbrev pub bound_unit : Standard → Table → List ℕ → UnitTextValue → Node → Result UnitAnalysis Fault
bound_unit standard table path text tree =
    result_then (λ bound. Ok (unit_analysis standard text tree bound))
    (result_map_err (λ f. fault_at_index table path text.toks (index_of f) (cause_of f)) (binding_by standard text.toks tree))

-- a unit of this text, read by a standard and bound, or its fault
abbrev pub read_unit : Standard → Table → List ℕ → UnitTextValue → Result UnitAnalysis Fault
read_unit standard table path text =
    result_then (bound_unit standard table path text)
    (result_map_err (λ stop. fault_at_index table path text.toks (stop_index stop) (stop_cause stop)) (read_of (grammar (dialect standard)) text.toks))

-- Units that are accepted, and what each number of a file stands for behind them.
pub record UnitsValue : Type 0 where
  pub units : List UnitAnalysis
  pub table : Table

abbrev pub units_and : List UnitAnalysis → Table → UnitsValue
units_and units table = record { units = units; table = table }

-- a unit in front of later ones
abbrev pub with_unit : UnitAnalysis → UnitsValue → UnitsValue
with_unit u later = units_and (u ∷ later.units) later.table

-- unit `number` of this standard and path, once it is preprocessed
abbrev pub unit_read : Standard → ℕ → List ℕ → Preprocessed → Result UnitAnalysis UnitFault
unit_read standard number path p = result_map_err (unit_fault number) (read_unit standard p.after.table path p.text)

-- The units from number `number` on, with what is carried from the units before; or the first fault.
unfoldable pub analysed_from : Source → ℕ → List UnitValue → Carried → Result UnitsValue UnitFault
analysed_from source number [] before = Ok (units_and [] before.table)
analysed_from source number (unit ∷ units) before =
    result_then (λ p.
    result_then (λ u.
    result_then (λ later. Ok (with_unit u later)) (analysed_from source (number + 1) units p.after))
    (unit_read unit.standard number unit.path p))
    (unit_with source number unit before)

-- the analysis of a workspace, or its first fault
abbrev pub analysis_of : Source → WorkspaceValue → Result AnalysisValue UnitFault
analysis_of source ws =
    result_then (λ all. Ok (analysis_and ws all.units all.table)) (analysed_from source 1 ws.units nothing_carried)
