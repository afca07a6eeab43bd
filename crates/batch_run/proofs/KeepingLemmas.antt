-- An accepted line keeps what a rename keeps, once its edits are made; and the analysis goes on with the files as it leaves them.
use Rattle.std.proofs.Common.{◌≡◌, List, Result, Some, Ok, refl, sym, ap, subst, ◌∙◌}
use Rattle.cs_base.specs.declared.positions.Part.{Part}
use Rattle.cs_base.specs.Edit.{Edit}
use Rattle.batch_run.specs.Line.{LineValue}
use Rattle.edited_files.specs.Edited.{AreMade}
use Rattle.ws_file.specs.Workspace.{WorkspaceValue}
use Rattle.analysis.specs.Below.source_files.Files.{Source, nothing_carried}
use Rattle.analysis.specs.Analysis.{AnalysisValue, analysed_from, analysis_and, analysis_of}
use Rattle.analysis.specs.Changed.{renamed_analysis}
use Rattle.analysis.specs.Naming.{Names}
use Rattle.analysis.specs.Parts.{AreMembers}
use Rattle.analysis.specs.Texts.{UnitFault}
use Rattle.analysis.proofs.MadeLemmas.{done_first, ok_holds}
use Rattle.kept_analysis.specs.Following.{IsFollowed, IsRenamedIn}
use Rattle.kept_analysis.proofs.PlannedLemmas.{named_once, planned_is_followed}
use Rattle.offences.specs.Class.{NamedClass}
use Rattle.part_respell.specs.Respelled.{respelled}
use Rattle.rename_rules.specs.Renaming.{IsRenaming}
use Rattle.renamed.specs.Rename.{IsRename, RenamesOver}
use Rattle.renamed.specs.Renamed.{AnalysisIsRenamed, renaming_of}

-- an analysis is one of its workspace
pub workspace_is : (source : Source) (ws : WorkspaceValue) (a : AnalysisValue) → analysis_of source ws ≡ Ok a → a.workspace ≡ ws
workspace_is source ws a e =
    let all = done_first (analysed_from source 1 ws.units nothing_carried) _ a e in
    ok_holds {E = UnitFault} (λ (b : AnalysisValue). b.workspace ≡ ws) (analysis_and ws all.0.units all.0.table) a all.2 refl

one_analysis : (r : Result AnalysisValue UnitFault) (a b : AnalysisValue) → r ≡ Ok a → r ≡ Ok b → a ≡ b
one_analysis r a b p q = ok_holds {E = UnitFault} (λ (c : AnalysisValue). a ≡ c) a b (sym p ∙ q) refl

-- The edits of a line rename over each source with this analysis: once they are made, the line is kept.
module _ (ws : WorkspaceValue) (q : LineValue) (a : AnalysisValue) (new : List Edit) (renames : RenamesOver a.workspace a q.path q.line q.column q.name q.strings new)
    (before now : Source) (analysed : analysis_of before ws ≡ Ok a) (edited : AreMade new before now) where
  pub line_is_kept : (r : NamedClass) × IsRename ws q.path q.line q.column q.name q.strings before now r
  line_is_kept =
      subst (λ (w : WorkspaceValue). RenamesOver w a q.path q.line q.column q.name q.strings new) (workspace_is before ws a analysed) renames
      before now analysed edited

  -- the analysis in which the class is renamed is that of the source that the line leaves
  behind : (part : Part) (b : AnalysisValue) → Names a q.path q.line q.column (Some part) → IsRenamedIn a part q.name b → (r : NamedClass) → r.analysis ≡ a
      → IsRename ws q.path q.line q.column q.name q.strings before now r → analysis_of now ws ≡ Ok b
  behind part b named is r same k =
      let there : AnalysisIsRenamed now ws a r.members q.name =
      subst (λ (x : AnalysisValue). AnalysisIsRenamed now ws x r.members q.name) same k.meaning in
      let its : Names a q.path q.line q.column (Some r.part) = subst (λ (x : AnalysisValue). Names x q.path q.line q.column (Some r.part)) same k.named in
      let class : AreMembers a r.part r.members = subst (λ (x : AnalysisValue). AreMembers x r.part r.members) same k.class in
      let of_part : AreMembers a part r.members = subst (λ (p : Part). AreMembers a p r.members) (named_once a q.path q.line q.column part r.part named its) class in
      let is_it : b ≡ renamed_analysis (renaming_of a r.members q.name) (respelled r.members q.name) a = is r.members of_part in
      there ∙ ap (λ (x : AnalysisValue). Ok x) (sym is_it)

  pub analysis_goes_on : (part : Part) (b : AnalysisValue) → Names a q.path q.line q.column (Some part) → IsRenamedIn a part q.name b → analysis_of now ws ≡ Ok b
  analysis_goes_on part b named is =
      behind part b named is line_is_kept.0 (one_analysis (analysis_of before ws) line_is_kept.0.analysis a line_is_kept.1.analysed analysed) line_is_kept.1

-- the analysis can go on with the files of the line
pub line_is_followed : (ws : WorkspaceValue) (q : LineValue) (a : AnalysisValue) (new : List Edit) (part : Part) → Names a q.path q.line q.column (Some part) → (source : Source)
    → analysis_of source ws ≡ Ok a → IsRenaming a q.path q.line q.column q.name q.strings (Ok new) → IsFollowed a part q.name
line_is_followed ws q a new part named source analysed renaming =
    planned_is_followed source a q.path q.line q.column part q.name q.strings new
    (subst (λ (w : WorkspaceValue). analysis_of source w ≡ Ok a) (sym (workspace_is source ws a analysed)) analysed) named renaming
