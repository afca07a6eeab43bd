-- Where a new order is accepted as one of units of C99 and C11, no unit is of GNU C.
use Rattle.std.proofs.Common.{◌≡◌, ℕ, List, []}
use Rattle.cs_base.specs.declared.positions.Part.{Part}
use Rattle.source_files.specs.Files.{Source}
use Rattle.ws_file.specs.Workspace.{WorkspaceValue}
use Rattle.analysis.specs.Analysis.{AnalysisValue}
use Rattle.analysis.specs.GnuUnits.{gnu_places}
use Rattle.template_meaning.specs.Accepted.{IsAccepted}

pub no_gnu_places : (source : Source) (ws : WorkspaceValue) (a : AnalysisValue) (members : List Part) (order : List ℕ) → IsAccepted source ws a members order
    → gnu_places a ≡ []
no_gnu_places source ws a members order h = h.editions
