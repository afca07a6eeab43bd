-- A new order against which nothing stands (this project's).
use Rattle.std.specs.Prelude.{ℕ, ◌≡◌, true, None, List, [], Ok}
use Rattle.cs_base.specs.declared.positions.Part.{Part}
use Rattle.source_files.specs.Files.{Source}
use Rattle.ws_file.specs.Workspace.{WorkspaceValue}
use Rattle.analysis.specs.Analysis.{AnalysisValue, analysis_of}
use Rattle.analysis.specs.GnuUnits.{gnu_places}
use Rattle.offences.specs.First.{IsFirst}
use Rattle.list_cuts.specs.Orders.{is_order}
use Rattle.template_rules.specs.Functions.{has_function}
use Rattle.template_rules.specs.Lists.{count_of}
use Rattle.template_rules.specs.Offences.{offences_of}

-- A class of an accepted workspace that names functions, and an order of their parameters: none of the offences stands, and no unit
-- is of GNU C.
pub record IsAccepted (source : Source) (ws : WorkspaceValue) (a : AnalysisValue) (members : List Part) (order : List ℕ) : Type 0 where
  pub analysed : analysis_of source ws ≡ Ok a
  pub function : has_function members a ≡ true
  pub ordered : is_order (count_of a members) order ≡ true
  pub clear : IsFirst a.table (offences_of a members (count_of a members)) None
  pub editions : gnu_places a ≡ []
