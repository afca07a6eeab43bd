-- What is known of the lines that are judged, as units are walked over.
use Rattle.std.specs.Prelude.{ℕ, ◌≡◌, ◌&&◌, ◌||◌, nat_eq, if◌then◌else◌, Bool, Option, Some, None, List, slice_get}
use Rattle.std.specs.List.{list_any}
use Rattle.std.specs.Option.{option_map, option_map_or, option_and_then, option_or}
use Rattle.cs_base.specs.declared.positions.Pos.{Pos}
use Rattle.indexmap.specs.IndexMap.{IndexMap, get_by}
use Rattle.analysis.specs.Below.include_tree.Walk.{ItemText}
use Rattle.analysis.specs.Below.source_files.Files.{Table}
use Rattle.analysis.specs.Below.source_files.KeptFiles.{KeptValue, kept_at}
use Rattle.analysis.specs.Analysis.{UnitAnalysis, AnalysisValue}
use Rattle.unused_names.specs.Lines.{is_position}
use Rattle.trim_rules.specs.declared.reasons.Reason.{Reason}
use Rattle.trim_rules.specs.Numbers.{first_answer}
use Rattle.trim_rules.specs.Reasons.{reason}
use Rattle.trim_rules.specs.Staying.{Why, Judged, computed, is_header_line, file_has_header, unit_why, event_why}
use Rattle.trim_rules.specs.Trimmed.{is_line}

-- for a position why its line stays, if it does; none where it is not judged
abbrev pub Told : Type 0
Told = Pos → Option (Option Why)

abbrev pub told_of : {S : Type 0} → IndexMap (ℕ × ℕ) (Option Reason) S → Told
told_of map p = option_map (option_map reason) (get_by (λ k. nat_eq p.file k.0 && nat_eq p.at k.1) map)

-- The same lines are judged, and of each is known what this makes of what was known.
abbrev pub Learns : (Pos → Option Why → Option Why) → Told → Told → Type 0
Learns makes old new = (p : Pos) → new p ≡ option_map (makes p) (old p)

-- it is not kept for its operand where this holds
abbrev pub unless : Bool → Option Why → Option Why
unless header w = if header then None else w

-- each of these lines is judged, as if its operand were expanded, and no other
abbrev pub AreStarted : List Pos → Told → Type 0
AreStarted lines told = (p : Pos) → told p ≡ (if is_line lines p then Some (Some computed) else None)
