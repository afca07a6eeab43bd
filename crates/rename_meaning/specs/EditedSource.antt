-- The files behind a renaming against which nothing stands (this project's): they hold what the change of the analysis says.
use Rattle.std.specs.Prelude.{ℕ, List}
use Rattle.cs_base.specs.declared.positions.Part.{Part}
use Rattle.source_files.specs.Files.{Source}
use Rattle.source_files.specs.Tables.{HasEachOnce}
use Rattle.edited_unit_laws.specs.EditedFiles.{HoldsEdited}
use Rattle.analysis.specs.Analysed.{Analysed}
use Rattle.renamed.specs.Rename.{AreRespelled}
use Rattle.rename_meaning.specs.Allowed.{IsAllowed}
use Rattle.rename_meaning.specs.KeptUnits.{change}

-- The law: such files hold each path of the analysis edited, where its table has each path once.
abbrev pub RespelledFilesHoldEdited : Type 0
RespelledFilesHoldEdited = (a : Analysed) (members : List Part) (name : List ℕ) → (h : IsAllowed a members name) → HasEachOnce a.value.table → (now : Source)
    → AreRespelled a.value members name h.source now → HoldsEdited (change a.value members name) h.source now
