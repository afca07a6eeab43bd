-- What the units of a workspace preprocess to behind a renaming, and what analysis it has (this project's, over ISO/IEC
-- 9899:1999, 5.1.1.2 phases 1 to 4 and 7).
use Rattle.std.specs.Prelude.{◌≡◌, true, ℕ, List, Ok, Some, None}
use Rattle.cs_base.specs.declared.positions.Part.{Part}
use Rattle.analysis.specs.Below.eclass_map.ClassTable as classes
use Rattle.lexer.specs.Spelling.{is_identifier_text}
use Rattle.ws_file.specs.Workspace.{WorkspaceValue, IsWorkspace}
use Rattle.source_files.specs.Files.{Source}
use Rattle.source_files.specs.Tables.{HasEachOnce}
use Rattle.offences.specs.First.{IsFirst}
use Rattle.rename_rules.specs.Offences.{offences_of}
use Rattle.analysis.specs.Analysis.{AnalysisValue, analysis_of}
use Rattle.analysis.specs.Classes.{AreItsClasses}
use Rattle.analysis.specs.Naming.{Names}
use Rattle.analysis.specs.Parts.{AreMembers}
use Rattle.renamed.specs.Rename.{AreRespelled}
use Rattle.renamed.specs.Renamed.{TextsAreRenamed, AnalysisIsRenamed, ExternalNamesAreKept}

-- A renaming against which nothing stands, if strings that `#` makes may follow it: of the class of the part that a place names, in a workspace that is accepted.
pub record IsAccepted (source : Source) (ws : WorkspaceValue) (a : AnalysisValue) (table : classes.Table) (part : Part) (members : List Part) (name : List ℕ) : Type 0 where
  pub workspace : IsWorkspace ws
  pub analysed : analysis_of source ws ≡ Ok a
  pub own : AreItsClasses a table
  pub once : HasEachOnce a.table
  pub class : AreMembers a part members
  pub identifier : is_identifier_text name ≡ true
  pub clear : IsFirst a.table (offences_of a members name true) None

-- The law: over files that hold the members respelled, and are the same else, so it is with each unit.
abbrev pub RespelledFilesHaveRenamedTexts : Type 0
RespelledFilesHaveRenamedTexts = (source now : Source) (ws : WorkspaceValue) (a : AnalysisValue) (table : classes.Table) (part : Part) (members : List Part) (name path : List ℕ) (line column : ℕ)
    → IsAccepted source ws a table part members name → Names a path line column (Some part) → AreRespelled a members name source now
    → TextsAreRenamed now ws a members name

-- The law: so it is with the analysis of the workspace.
abbrev pub RespelledFilesHaveRenamedAnalysis : Type 0
RespelledFilesHaveRenamedAnalysis = (source now : Source) (ws : WorkspaceValue) (a : AnalysisValue) (table : classes.Table) (part : Part) (members : List Part) (name path : List ℕ) (line column : ℕ)
    → IsAccepted source ws a table part members name → Names a path line column (Some part) → AreRespelled a members name source now
    → AnalysisIsRenamed now ws a members name

-- The law: and identifiers of external linkage denote one entity exactly where they did.
abbrev pub RespelledFilesKeepExternalNames : Type 0
RespelledFilesKeepExternalNames = (source now : Source) (ws : WorkspaceValue) (a : AnalysisValue) (table : classes.Table) (part : Part) (members : List Part) (name path : List ℕ) (line column : ℕ)
    → IsAccepted source ws a table part members name → Names a path line column (Some part) → AreRespelled a members name source now
    → ExternalNamesAreKept now ws a
