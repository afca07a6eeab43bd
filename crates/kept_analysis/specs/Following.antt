-- An analysis that goes on with the files behind a renaming (this project's, over ISO/IEC 9899:1999, 5.1.1.2 phases 1 to 7).
use Rattle.std.specs.Prelude.{ℕ, ◌≡◌, true, List, Some, None, Ok, length, map}
use Rattle.cs_base.specs.declared.positions.Part.{Part}
use Rattle.analysis.specs.Below.lexer.Spelling.{is_identifier_text}
use Rattle.include_tree.specs.Below.source_files.Files.{Source}
use Rattle.analysis.specs.Below.source_files.Tables.{HasEachOnce}
use Rattle.ws_file.specs.Workspace.{IsWorkspace}
use Rattle.analysis.specs.Analysis.{AnalysisValue, UnitAnalysis, analysis_and, analysis_of}
use Rattle.analysis.specs.Naming.{Names}
use Rattle.analysis.specs.Parts.{AreMembers}
use Rattle.analysis.specs.Trees.{HasTree}
use Rattle.part_respell.specs.Respelled.{respelled}
use Rattle.offences.specs.First.{IsFirst}
use Rattle.rename_rules.specs.Offences.{offences_of}
use Rattle.renamed.specs.Rename.{AreRespelled}
use Rattle.renamed.specs.Renamed.{renaming_of}
use Rattle.analysis.specs.Changed.{Renaming, renamed_analysis, renamed_text, renamed_unit_analysis}
use Rattle.offences.specs.declared.moves.Moves.{Moves}
use Rattle.kept_analysis.specs.Edits.{edited_front}
use Rattle.offences.specs.Moves.{editing_by, renaming_by}

-- A renaming that an analysis can follow: some source has the analysis, a place names the part, and nothing stands against
-- this name for its class, if strings that `#` makes may follow the renaming.
pub record IsFollowed (a : AnalysisValue) (part : Part) (name : List ℕ) : Type 0 where
  pub source : Source
  pub accepted : analysis_of source a.workspace ≡ Ok a
  pub path : List ℕ
  pub line : ℕ
  pub column : ℕ
  pub named : Names a path line column (Some part)
  pub members : List Part
  pub class : AreMembers a part members
  pub identifier : is_identifier_text name ≡ true
  pub clear : IsFirst a.table (offences_of a members name true) None

-- the analysis in which the members of the class of a part are spelled so
abbrev pub IsRenamedIn : AnalysisValue → Part → List ℕ → AnalysisValue → Type 0
IsRenamedIn a part name b = (members : List Part) → AreMembers a part members → b ≡ renamed_analysis (renaming_of a members name) (respelled members name) a

-- Over each source that holds the members of the class respelled, and is as before else, the workspace has the other
-- analysis: wherever the source before has the first, lines make the workspace, and each path has one number.
abbrev pub IsAnalysedAnew : AnalysisValue → Part → List ℕ → AnalysisValue → Type 0
IsAnalysedAnew a part name b = (source now : Source) (members : List Part) → IsWorkspace a.workspace → HasEachOnce a.table
    → analysis_of source a.workspace ≡ Ok a → AreMembers a part members → AreRespelled a members name source now
    → analysis_of now a.workspace ≡ Ok b

-- the renamed tokens of the unit have its tree (Annex A.2)
abbrev pub IsReadAsBefore : Renaming → UnitAnalysis → Type 0
IsReadAsBefore r u = HasTree u.standard (renamed_text r u.text).toks u.tree

-- what the tables make of an analysis
abbrev pub renamed_by : Moves → AnalysisValue → AnalysisValue
renamed_by m a = analysis_and a.workspace (map (renamed_unit_analysis (renaming_by m)) a.units) (edited_front (editing_by m) 0 (length a.table) a.table)
