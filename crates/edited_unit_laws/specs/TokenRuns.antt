-- Each token of the units of a workspace was put out by one of the runs that its unit reached (ISO/IEC 9899:1999, 5.1.1.2 phase 4, 6.10).
use Rattle.std.specs.Prelude.{◌≡◌, ◌<◌, ℕ, length, Ok}
use Rattle.ws_file.specs.Workspace.{WorkspaceValue}
use Rattle.source_files.specs.Files.{Source}
use Rattle.source_files.specs.Tables.{AreFound}
use Rattle.analysis.specs.Analysis.{UnitAnalysis, AnalysisValue, analysis_of}
use Rattle.unit_laws.specs.TokenRuns.{TokenRun}
use Rattle.unit_laws.specs.Walking.{IsOf}

-- So it is with each token of each unit, over the files of the workspace; these are what the paths hold.
pub record WorkspaceOfRuns (source : Source) (a : AnalysisValue) : Type 0 where
  pub tokens : (u : UnitAnalysis) → IsOf a.units u → (b : ℕ) → b < length u.text.toks → TokenRun a.table u.text b
  pub found : AreFound source a.table

-- The law.
abbrev pub WorkspaceTokensAreOfRuns : Type 0
WorkspaceTokensAreOfRuns = (source : Source) (ws : WorkspaceValue) (a : AnalysisValue) → analysis_of source ws ≡ Ok a → WorkspaceOfRuns source a
