-- Judgements as code holds them.
use Rattle.std.specs.Prelude.{ℕ, ◌≡◌, ◌&&◌, if◌then◌else◌, Bool, true, false, Option, Some, None, List}
use Rattle.std.specs.Option.{option_map}
use Rattle.cs_base.specs.declared.positions.Pos.{Pos}
use Rattle.analysis.specs.Below.unit_steps.declared.events.Event.{Event}
use Rattle.analysis.specs.Analysis.{AnalysisValue}
use Rattle.unused_names.specs.Inclusions.{is_enter}
use Rattle.trim_rules.specs.declared.judging.Judged as declared
use Rattle.trim_rules.specs.Judging.{Told}
use Rattle.trim_rules.specs.Reasons.{why}
use Rattle.trim_rules.specs.Staying.{Why, Judged, why_of}
use Rattle.trim_rules.specs.Trimmed.{is_line}

-- a judgement of a line
abbrev pub judged_in : declared.Judged → Judged
judged_in j = record { at = j.at; why = option_map why j.why }

-- nothing keeps the line yet
abbrev pub is_undecided : Option (Option Why) → Bool
is_undecided (Some None) = true
is_undecided _ = false

-- an event begins an inclusion by a line that nothing keeps yet
abbrev pub is_open : Told → Event → Bool
is_open told e = is_enter e.kind && is_undecided (told e.at)

-- what is told of a line; nothing keeps one that is not judged
abbrev pub flat : Option (Option Why) → Option Why
flat (Some w) = w
flat None = None

abbrev pub told_judgement : Told → Pos → Judged
told_judgement told p = record { at = p; why = flat (told p) }

-- of each of these lines is known why it stays
abbrev pub AreKnown : AnalysisValue → List Pos → Told → Type 0
AreKnown a lines told = (p : Pos) → is_line lines p ≡ true → told p ≡ Some (why_of a p)
