-- The sizes of edited files (this project's limits): where nothing stands against the renaming, they are within these.
use Rattle.std.specs.Prelude.{ℕ, ◌≡◌, ◌≤◌, Some, List, length}
use Rattle.cs_base.specs.declared.positions.Part.{Part}
use Rattle.cs_base.specs.Limits.{most_bytes}
use Rattle.part_respell.specs.Respelled.{respelled}
use Rattle.ws_file.specs.Workspace.{IsWorkspace}
use Rattle.source_files.specs.Files.{bytes_opened}
use Rattle.source_files.specs.KeptFiles.{KeptValue, kept_at}
use Rattle.source_files.specs.Tables.{HasEachOnce}
use Rattle.source_files.specs.Limits.{the_limits}
use Rattle.analysis.specs.Analysed.{Analysed}
use Rattle.analysis.specs.Analysis.{AnalysisValue}
use Rattle.analysis.specs.Naming.{Names}
use Rattle.rename_meaning.specs.Allowed.{IsAllowed}
use Rattle.analysis.specs.Changed.{edited_table}

-- The edited files are within the limits: each by itself, if it was, and all that are opened together.
pub record AreWithinLimits (a : AnalysisValue) (members : List Part) (name : List ℕ) : Type 0 where
  pub small : (n : ℕ) (f : KeptValue) → kept_at a.table n ≡ Some f → length f.bytes ≤ most_bytes → length (respelled members name f.number f.bytes) ≤ most_bytes
  pub few : bytes_opened (edited_table (respelled members name) a.table) ≤ the_limits.all_bytes

-- The law: so it is for a class that a place names, in a workspace whose table has each path once.
abbrev pub EditedFilesAreWithinLimits : Type 0
EditedFilesAreWithinLimits = (a : Analysed) (members : List Part) (name path : List ℕ) (line column : ℕ) → (h : IsAllowed a members name) → IsWorkspace h.workspace → HasEachOnce a.value.table
    → Names a.value path line column (Some h.class.part) → AreWithinLimits a.value members name
