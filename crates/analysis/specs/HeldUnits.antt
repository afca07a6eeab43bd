-- A unit of an analysis, wherever it is.
use Rattle.analysis.specs.Analysis.{UnitAnalysis}
use Rattle.analysis.specs.declared.unit_at.Held.{Held}
use Rattle.analysis.specs.declared.unit_at.Held.TheVariants as held

-- the unit that is kept, or was made again
abbrev pub unit_of : Held → UnitAnalysis
unit_of (held.Kept unit) = unit.now
unit_of (held.Made unit) = unit
