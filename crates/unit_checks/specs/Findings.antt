-- What stands against a unit that is read by itself (this project's, over ISO/IEC 9899:1999, 5.1.1.2 phases 4 and 7): the place
-- and the cause that the analysis of a workspace of this unit would name, the token there, and where that comes from.
use Rattle.std.specs.Prelude.{ℕ, ◌&&◌, nat_eq, if◌then◌else◌, Bool, Option, Some, None, List, Result, Ok, Err, slice_get}
use Rattle.std.specs.Option.{option_map, option_and_then}
use Rattle.cs_base.specs.declared.causes.Cause.{Cause}
use Rattle.cs_base.specs.declared.positions.Place.{Place}
use Rattle.cs_base.specs.declared.positions.Pos.{Pos}
use Rattle.cs_base.specs.declared.ws_units.Standard.{Standard}
use Rattle.cs_base.specs.Token.{Token, origin_at}
use Rattle.cs_base.specs.Units.{UnitValue}
use Rattle.include_tree.specs.Below.source_files.declared.pre_fault.PreFault.{PreFault}
use Rattle.include_tree.specs.Below.source_files.declared.pre_fault.PreFault.TheVariants as before
use Rattle.include_tree.specs.Below.source_files.Files.{Source, Table}
use Rattle.include_tree.specs.Below.source_files.Faults.{Fault}
use Rattle.include_tree.specs.Below.source_files.KeptFiles.{kept_at}
use Rattle.include_tree.specs.Preprocessed.{Preprocessed, one_unit}
use Rattle.c99_tree.specs.Tree.{Node}
use Rattle.c99_read.specs.Reading.{Stop, read_of}
use Rattle.c99_read.specs.Below.c99_grammar.Dialects.{dialect}
use Rattle.c99_read.specs.Below.c99_grammar.Standard.{grammar}
use Rattle.gnu_bind.specs.Below.c_types.declared.declarations.Fault.{Fault as NameFault}
use Rattle.gnu_bind.specs.Below.scope_bind.Bound.{Bound}
use Rattle.gnu_bind.specs.Below.scope_bind.Causes.{cause_of, index_of}
use Rattle.gnu_bind.specs.Bound.{binding_by}
use Rattle.analysis.specs.Analysis.{stop_index, stop_cause, place_of_index}
use Rattle.analysis.specs.Places.{place_in_file}
use Rattle.unit_checks.specs.declared.check_fault.CheckFault.{CheckFault}
use Rattle.unit_checks.specs.declared.check_fault.CheckFault.TheVariants as end
use Rattle.unit_checks.specs.declared.findings.Finding.{Finding}

-- what stands there: a place and a cause, a token and where it comes from
abbrev pub finding : Place → Cause → Option (List ℕ) → Option Place → Finding
finding place cause token from = record { place = place; cause = cause; token = token; from = from }

-- ---- reading and binding

-- why names do not bind, and at which token
abbrev pub name_stop : Result Bound NameFault → Option (ℕ × Cause)
name_stop (Ok bound) = None
name_stop (Err fault) = Some (index_of fault, cause_of fault)

-- why a text is no tree, or its names do not bind
abbrev pub tree_stop : Standard → List Token → Result Node Stop → Option (ℕ × Cause)
tree_stop standard toks (Ok tree) = name_stop (binding_by standard toks tree)
tree_stop standard toks (Err stop) = Some (stop_index stop, stop_cause stop)

-- the same of tokens by a standard. `unfoldable`, since what is above looks at no grammar.
unfoldable pub reading_stop : Standard → List Token → Option (ℕ × Cause)
reading_stop standard toks = tree_stop standard toks (read_of (grammar (dialect standard)) toks)

-- ---- the token

abbrev pub is_position : Pos → Pos → Bool
is_position p q = nat_eq p.file q.file && nat_eq p.at q.at

-- the place of a position of a file, where it is another one
abbrev pub place_apart : Table → Pos → Pos → Option Place
place_apart table at p = if is_position at p then None else option_map (place_in_file p) (kept_at table p.file)

-- Where a token comes from: its first character, where that stands in a file, and elsewhere than the place of the token. That
-- of a token of a macro is the place where the macro is used (6.10.3).
abbrev pub source_place : Table → Token → Option Place
source_place table t = option_and_then (place_apart table t.at) (origin_at t 0)

abbrev pub text_of : Token → List ℕ
text_of t = t.text

-- what stands against the tokens of a unit of this path: at the end of the text there is no token
abbrev pub finding_at : Table → List ℕ → List Token → ℕ × Cause → Finding
finding_at table path toks stop =
    finding (place_of_index table path toks stop.0) stop.1 (option_map text_of (slice_get toks stop.0))
    (option_and_then (source_place table) (slice_get toks stop.0))

-- ---- units

-- what stands against a unit, once it is preprocessed or has a fault before
abbrev pub finding_of : UnitValue → Result Preprocessed Fault → Option Finding
finding_of unit (Ok p) = option_map (finding_at p.after.table unit.path p.text.toks) (reading_stop unit.standard p.text.toks)
finding_of unit (Err fault) = Some (finding fault.place fault.cause None None)

-- what a fault before is against a unit; a failed read and want of memory are none
abbrev pub fault_finding : PreFault → Result (Option Finding) CheckFault
fault_finding (before.Fault place cause) = Ok (Some (finding place cause None None))
fault_finding (before.ReadFault path) = Err (end.ReadFault path)
fault_finding before.Memory = Err end.Memory

-- What stands against unit `number` by itself, with nothing of the units before.
unfoldable pub unit_finding : Source → ℕ → UnitValue → Option Finding
unit_finding source number unit = finding_of unit (one_unit source number unit)
