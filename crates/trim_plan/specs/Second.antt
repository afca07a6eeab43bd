-- The second analysis of a trim: over files in memory.
use Rattle.std.specs.Prelude.{ℕ, ◌≡◌, false, List, All, Ok, Some}
use Rattle.cs_base.specs.declared.positions.Pos.{Pos}
use Rattle.cs_base.specs.Outside.{FileMap}
use Rattle.analysis.specs.Below.include_tree.PseudoFiles.{is_pseudo}
use Rattle.analysis.specs.Below.source_files.Files.{Source, Table, source_of}
use Rattle.analysis.specs.Below.source_files.KeptFiles.{KeptValue, kept_at}
use Rattle.analysis.specs.Below.source_files.Tables.{AreFound}
use Rattle.analysis.specs.Analysis.{AnalysisValue, analysis_of}
use Rattle.trim_rules.specs.Trimmed.{trimmed}

-- a file that was read, with the lines as null directives
pub record IsFileOf (lines : List Pos) (table : Table) (file : List ℕ × List ℕ) : Type 0 where
  pub kept_file : KeptValue
  pub kept : kept_at table kept_file.number ≡ Some kept_file
  pub real : is_pseudo kept_file.path ≡ false
  pub own : file.0 ≡ kept_file.path
  pub holds : file.1 ≡ trimmed lines kept_file

-- The workspace, analysed over such files, and so over each source that agrees with what was read of them.
pub record IsSecond (lines : List Pos) (a b : AnalysisValue) : Type 0 where
  pub workspace : b.workspace ≡ a.workspace
  pub files : FileMap
  pub each : All (IsFileOf lines a.table) files
  pub found : AreFound (source_of files) b.table
  pub over : (source : Source) → AreFound source b.table → analysis_of source a.workspace ≡ Ok b
