-- Binding in a new order of items: where nothing stands against the order, each unit is such that its names bind as before.
use Rattle.std.specs.Prelude.{ℕ, List}
use Rattle.cs_base.specs.declared.positions.Part.{Part}
use Rattle.source_files.specs.Files.{Source}
use Rattle.unit_laws.specs.UnitLinks.{IsIn}
use Rattle.ws_file.specs.Workspace.{WorkspaceValue}
use Rattle.analysis.specs.Analysis.{UnitAnalysis, AnalysisValue}
use Rattle.reordered_tree_laws.specs.Premises.{CanReorder}
use Rattle.template_meaning.specs.Accepted.{IsAccepted}
use Rattle.reordered.specs.Reordered.{begins_list}

-- The law: the lists of the functions in each unit can get the order, whatever it is.
abbrev pub UnitsCanReorder : Type 0
UnitsCanReorder = (source : Source) (ws : WorkspaceValue) (a : AnalysisValue) (members : List Part) (order : List ℕ) → IsAccepted source ws a members order
    → (u : UnitAnalysis) → IsIn a.units u → CanReorder order (begins_list members u) u.text.toks u.tree u.bound
