-- The lists of functions in a unit, where nothing stands against a new order: each has as many items as the order has numbers
-- (ISO/IEC 9899:1999, 6.5.2.2, 6.7.5.3).
use Rattle.std.specs.Prelude.{ℕ, List, length}
use Rattle.cs_base.specs.declared.positions.Part.{Part}
use Rattle.source_files.specs.Files.{Source}
use Rattle.unit_laws.specs.UnitLinks.{IsIn}
use Rattle.ws_file.specs.Workspace.{WorkspaceValue}
use Rattle.analysis.specs.Analysis.{UnitAnalysis, AnalysisValue}
use Rattle.list_cuts.specs.Cuts.{IsOrder, AreOf}
use Rattle.template_meaning.specs.Accepted.{IsAccepted}
use Rattle.reordered.specs.Reordered.{unit_cut}

-- The order has each of its numbers once, and each list of the unit, those in items of others too, has so many items.
pub record IsCut (members : List Part) (order : List ℕ) (u : UnitAnalysis) : Type 0 where
  pub order_is : IsOrder (length order) order
  pub each : AreOf (length order) (unit_cut members u)

-- The law: so it is with each unit, where no offence stands.
abbrev pub UnitsAreCut : Type 0
UnitsAreCut = (source : Source) (ws : WorkspaceValue) (a : AnalysisValue) (members : List Part) (order : List ℕ) → IsAccepted source ws a members order
    → (u : UnitAnalysis) → IsIn a.units u → IsCut members order u
