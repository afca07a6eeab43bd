-- The analysis of the files as some lines of a batch leave them, before it was made.
use Rattle.std.specs.Prelude.{Bool, true, false, Option, None, Some}
use Rattle.analysis.specs.Analysis.{AnalysisValue}
use Rattle.analysis.specs.Changed.{renamed_analysis}
use Rattle.analysis.specs.Parts.{AreMembers}
use Rattle.kept_analysis.specs.Following.{IsFollowed}
use Rattle.part_respell.specs.Respelled.{respelled}
use Rattle.renamed.specs.Renamed.{renaming_of}
use Rattle.batch_run.specs.declared.standing.Ahead.{Ahead}

-- the analysis behind the lines, and whether a renaming is still to be followed
pub record StandingValue : Type 0 where
  pub value : AnalysisValue
  pub waits : Bool

abbrev pub settled_value : AnalysisValue → StandingValue
settled_value a = record { value = a; waits = false }

-- an analysis behind which a renaming may wait
abbrev pub standing_value : AnalysisValue → Option Ahead → StandingValue
standing_value a None = settled_value a
standing_value a (Some r) = record {
  value = renamed_analysis (renaming_of a r.members.items r.name.items) (respelled r.members.items r.name.items) a;
  waits = true;
}

-- the renaming can be followed, and these are its members
abbrev pub IsAhead : AnalysisValue → Option Ahead → Type 0
IsAhead a None = Unit {0}
IsAhead a (Some r) = IsFollowed a r.part r.name.items × AreMembers a r.part r.members.items
