-- The edits of a plan keep meaning, over each source that has the analysis.
use Rattle.std.proofs.Common.{◌≡◌, ℕ, Bool, List, Ok, sym, subst}
use Rattle.cs_base.specs.Edit.{Edit}
use Rattle.analysis.specs.Below.eclass_map.ClassTable as classes
use Rattle.ws_file.specs.Workspace.{WorkspaceValue, IsWorkspace}
use Rattle.source_files.specs.Files.{Source}
use Rattle.offences.specs.First.{IsAmong}
use Rattle.analysis.specs.Analysis.{AnalysisValue, analysis_of}
use Rattle.analysis.specs.Classes.{AreItsClasses}
use Rattle.analysis.proofs.MadeLemmas.{made_files_pseudo}
use Rattle.analysis.proofs.OnceLemmas.{paths_once}
use Rattle.analysis.proofs.ReadLemmas.{unit_files_opened}
use Rattle.renamed.specs.Rename.{AreRespelled}
use Rattle.edited_files.specs.Edited.{AreMade}
use Rattle.offences.specs.Class.{NamedClass}
use Rattle.rename_rules.proofs.PlannedLemmas.{IsPlan, is_plan}
use Rattle.rename_meaning.specs.Plans.{PlansKeepMeaning}
use Rattle.rename_meaning.proofs.NoneLemmas.{cleared}
use Rattle.rename_meaning.specs.RenamedSource.{IsAccepted}
use Rattle.rename_meaning.proofs.EditLemmas.{edit_for, held_before, edit_there, edit_apart}
use Rattle.rename_meaning.proofs.FoundLemmas.{analysis_finds}
use Rattle.rename_meaning.proofs.TextLemmas.{respelled_files_have_renamed_texts, respelled_files_have_renamed_analysis, respelled_files_keep_external_names}

module _ (a : AnalysisValue) (path : List ℕ) (line column : ℕ) (name : List ℕ) (strings : Bool) (edits : List Edit) where
  module _ (p : IsPlan a path line column name strings edits) (ws : WorkspaceValue) (before now : Source) (analysed : analysis_of before ws ≡ Ok a)
      (made : AreMade edits before now) where
    -- the files once the edits are made: those that hold members have these respelled
    pub plan_respells : AreRespelled a p.members name before now
    plan_respells =
        let found = analysis_finds before ws a analysed in
        let pseudo = made_files_pseudo before ws a analysed in
        record {
          edited = λ run f holds. (
            held_before before a p.members run name f (cleared a p.members name strings p.clear) found pseudo holds,
            (let there : IsAmong edits (edit_for name run f) = subst (λ (es : List Edit). IsAmong es (edit_for name run f)) (sym p.edits_are) (edit_there a name p.members run f holds) in
                made.each there.0 (edit_for name run f) there.1),
          );
          others = λ other apart. made.others other (λ k e at.
              edit_apart a name p.members other e (subst (λ (es : List Edit). IsAmong es e) p.edits_are (k, at)) apart);
        }

    pub plan_accepted : (table : classes.Table) → IsWorkspace ws → AreItsClasses a table → IsAccepted before ws a table p.part p.members name
    plan_accepted table is own = record {
      workspace = is;
      analysed = analysed;
      own = own;
      once = paths_once before ws a is analysed;
      class = p.class;
      identifier = p.identifier;
      clear = cleared a p.members name strings p.clear;
    }

pub plans_keep_meaning : PlansKeepMeaning
plans_keep_meaning = λ ws a table path line column name strings edits is own renaming before now analysed made.
    let p = is_plan a path line column name strings edits renaming in
    let files = plan_respells a path line column name strings edits p ws before now analysed made in
    let accepted = plan_accepted a path line column name strings edits p ws before now analysed made table is own in
    let r : NamedClass = record { analysis = a; part = p.part; members = p.members } in (
      r,
      record {
        analysed = analysed;
        units = unit_files_opened before ws a is analysed;
        named = p.named;
        class = p.class;
        clear = p.clear;
        files = files;
        texts = respelled_files_have_renamed_texts before now ws a table p.part p.members name path line column accepted p.named files;
        meaning = respelled_files_have_renamed_analysis before now ws a table p.part p.members name path line column accepted p.named files;
        shared = respelled_files_keep_external_names before now ws a table p.part p.members name path line column accepted p.named files;
      },
    )
