-- What a trim keeps, over whatever source has the analysis (this project's, over ISO/IEC 9899:1999, 5.1.1.2 phases 1 to 7).
use Rattle.std.specs.Prelude.{ℕ, ◌≡◌, ◌≢◌, List, [], Some, Ok}
use Rattle.cs_base.specs.declared.positions.Pos.{Pos}
use Rattle.cs_base.specs.Edit.{Edit}
use Rattle.edited_files.specs.Edited.{AreMade}
use Rattle.analysis.specs.Below.source_files.Files.{Source}
use Rattle.analysis.specs.Below.source_files.KeptFiles.{KeptValue, kept_at}
use Rattle.analysis.specs.Below.ws_file.Workspace.{WorkspaceValue}
use Rattle.analysis.specs.Analysis.{AnalysisValue, analysis_of}
use Rattle.trim_plan.specs.Trimmed.{IsTrimmedAnalysis}
use Rattle.trim_rules.specs.Staying.{Judged, AreJudged, AreRemovable, removable}
use Rattle.trim_rules.specs.Trimmed.{lines_in, trimmed, edits_of}

-- the file holds lines that go
pub record HoldsLines (lines : List Pos) (a : AnalysisValue) (f : KeptValue) : Type 0 where
  pub kept : kept_at a.table f.number ≡ Some f
  pub some : lines_in lines f ≡ [] → ⊥

-- Files before and after: each that holds such lines held the bytes that were read, and holds them with the lines as null
-- directives; every other path holds what it held.
pub record AreTrimmed (lines : List Pos) (a : AnalysisValue) (before now : Source) : Type 0 where
  pub edited : (f : KeptValue) → HoldsLines lines a f → (before f.path ≡ Some f.bytes) × (now f.path ≡ Some (trimmed lines f))
  pub others : (path : List ℕ) → ((f : KeptValue) → HoldsLines lines a f → f.path ≢ path) → now path ≡ before path

-- Between two sources these lines became null directives and no other byte changed, and the workspace has the analysis that it
-- had, without what they brought.
pub record KeepsRest (ws : WorkspaceValue) (a : AnalysisValue) (lines : List Pos) (before now : Source) : Type 0 where
  pub files : AreTrimmed lines a before now
  pub analysis : AnalysisValue
  pub analysed : analysis_of now ws ≡ Ok analysis
  pub rest : IsTrimmedAnalysis lines a analysis

-- So it is over each source with this analysis, once these edits are made.
pub record TrimsOver (ws : WorkspaceValue) (a : AnalysisValue) (lines : List Pos) (edits : List Edit) : Type 0 where
  pub kept : (before now : Source) → analysis_of before ws ≡ Ok a → AreMade edits before now → KeepsRest ws a lines before now

-- Edits over an analysis that make null directives of the lines which nothing needs and nothing keeps, and keep the rest.
pub record KeepsRestOver (a : AnalysisValue) (edits : List Edit) : Type 0 where
  pub lines : List Pos
  pub removable : AreRemovable a lines
  pub over : TrimsOver a.workspace a lines edits

-- A trim that was done over a workspace: the lines that nothing needs and nothing keeps became null directives.
pub record IsTrimmed (ws : WorkspaceValue) (before now : Source) : Type 0 where
  pub analysis : AnalysisValue
  pub analysed : analysis_of before ws ≡ Ok analysis
  pub lines : List Pos
  pub removable : AreRemovable analysis lines
  pub keeps : KeepsRest ws analysis lines before now

-- A trim: the judgement of each line that brings nothing which is used, and the edits that make null directives of those that
-- nothing keeps.
pub record IsTrim (a : AnalysisValue) (judgements : List Judged) (edits : List Edit) : Type 0 where
  pub judged : AreJudged a judgements
  pub edits_are : edits ≡ edits_of (removable judgements) a.table
