-- The edits of a plan, where files in the new order keep meaning: over each source with the analysis.
use Rattle.std.proofs.Common.{◌≡◌, ℕ, true, List, [], Option, None, Some, Ok, Err, subst, inl, inr}
use Rattle.std.proofs.lemmas.Bool.{cases_Bool}
use Rattle.cs_base.specs.declared.positions.Part.{Part}
use Rattle.cs_base.specs.Edit.{Edit}
use Rattle.source_files.specs.Files.{Source}
use Rattle.source_files.specs.KeptFiles.{KeptValue}
use Rattle.source_files.specs.Tables.{HasEachOnce}
use Rattle.ws_file.specs.Workspace.{WorkspaceValue, IsWorkspace}
use Rattle.analysis.specs.Analysis.{AnalysisValue, analysis_of}
use Rattle.analysis.specs.GnuUnits.{gnu_places}
use Rattle.analysis.specs.Naming.{Names}
use Rattle.offences.specs.First.{IsFirst}
use Rattle.list_cuts.specs.Orders.{is_order}
use Rattle.template_rules.specs.FileLists.{edits_of}
use Rattle.template_rules.specs.Functions.{has_function}
use Rattle.template_rules.specs.Lists.{count_of}
use Rattle.template_rules.specs.Offences.{offences_of}
use Rattle.offences.specs.declared.refusals.Refusal.{Refusal}
use Rattle.template_rules.specs.Template.{IsOrdered, IsClassOrdered, IsNamedOrdered}
use Rattle.analysis.proofs.ReadLemmas.{unit_files_opened}
use Rattle.offences.specs.Class.{NamedClass}
use Rattle.reordered.specs.Reordered.{AnalysisIsReordered}
use Rattle.template_meaning.specs.Accepted.{IsAccepted}
use Rattle.template_meaning.specs.Compared.{KeepsOrder}
use Rattle.template_meaning.specs.Kept.{OrdersKeepMeaning, PlansKeepMeaning}
use Rattle.edited_files.specs.Edited.{AreMade}
use Rattle.reordered.specs.Reorder.{HoldsLists, AreReordered, ReordersOver}
use Rattle.template_meaning.proofs.EditsMade.{edits_reorder_files}

pub no_edits : (edits : List Edit) (r : Refusal) → Ok edits ≡ Err r → ⊥
no_edits edits r e = cc

-- edits that are given are those of an order against which nothing stands
pub record IsGiven (a : AnalysisValue) (members : List Part) (order : List ℕ) (edits : List Edit) : Type 0 where
  pub function : has_function members a ≡ true
  pub ordered : is_order (count_of a members) order ≡ true
  pub clear : IsFirst a.table (offences_of a members (count_of a members)) None
  pub are : edits ≡ edits_of members a order

pub given_by : (a : AnalysisValue) (members : List Part) (order : List ℕ) (edits : List Edit) → IsOrdered a members order (Ok edits) → IsGiven a members order edits
given_by a members order edits h = elim (cases_Bool (has_function members a)) [
  | inl some ↦ elim (cases_Bool (is_order (count_of a members) order)) [
    | inl good ↦ let r = h.ordered some good in record { function = some; ordered = good; clear = r.0; are = r.1 }
    | inr bad ↦ absurd (no_edits edits _ (h.no_order some bad))
  ]
  | inr none ↦ absurd (no_edits edits _ (h.no_function none))
]

-- the files and the analysis once the edits are made
record KeepsMeaning (ws : WorkspaceValue) (a : AnalysisValue) (members : List Part) (order : List ℕ) (before now : Source) : Type 0 where
  files : AreReordered members order a before now
  meaning : AnalysisIsReordered now ws a members order

module _ (keeps : OrdersKeepMeaning)
    (held : (source : Source) (ws : WorkspaceValue) (a : AnalysisValue) (members : List Part) (order : List ℕ) → IsWorkspace ws → IsAccepted source ws a members order
    → (f : KeptValue) → HoldsLists a members f → source f.path ≡ Some f.bytes)
    (once : (source : Source) (ws : WorkspaceValue) (a : AnalysisValue) → IsWorkspace ws → analysis_of source ws ≡ Ok a → HasEachOnce a.table) where
  kept_over : (ws : WorkspaceValue) (a : AnalysisValue) (members : List Part) (order : List ℕ) (edits : List Edit) → IsWorkspace ws → gnu_places a ≡ []
      → IsGiven a members order edits
      → (before now : Source) → analysis_of before ws ≡ Ok a → AreMade edits before now → KeepsMeaning ws a members order before now
  kept_over ws a members order edits is none g before now analysed made =
      let accepted : IsAccepted before ws a members order = record { analysed = analysed; function = g.function; ordered = g.ordered; clear = g.clear; editions = none } in
      let files : AreReordered members order a before now =
      edits_reorder_files a members order before now (once before ws a is analysed) (held before ws a members order is accepted)
      (subst (λ (es : List Edit). AreMade es before now) g.are made) in
      record { files = files; meaning = keeps before now ws a members order is accepted files }

  by_name : (ws : WorkspaceValue) (a : AnalysisValue) (path : List ℕ) (line column : ℕ) (order : List ℕ) (edits : List Edit) (named : Option Part) → IsWorkspace ws
      → gnu_places a ≡ [] → Names a path line column named → IsNamedOrdered a order (Ok edits) named → ReordersOver ws a path line column order edits
  by_name ws a path line column order edits None is none names h = absurd (no_edits edits _ h)
  by_name ws a path line column order edits (Some part) is none names h =
      let g : IsGiven a h.members order edits = given_by a h.members order edits h.ordered in
      λ before now analysed made.
      let k = kept_over ws a h.members order edits is none g before now analysed made in
      let r : NamedClass = record { analysis = a; part = part; members = h.members } in (
        r,
        record {
          analysed = analysed;
          units = unit_files_opened before ws a is analysed;
          named = names;
          class = h.are_members;
          function = g.function;
          ordered = g.ordered;
          clear = g.clear;
          files = k.files;
          meaning = k.meaning;
        },
      )

  pub plans_keep_meaning : PlansKeepMeaning
  plans_keep_meaning ws a path line column order edits is none h = by_name ws a path line column order edits h.0 is none h.1 h.2

-- ---- Units of GNU C: edits that a second analysis was compared for

pub compared_over : (a : AnalysisValue) (path : List ℕ) (line column : ℕ) (order : List ℕ) (edits : List Edit) (part : Part) → IsWorkspace a.workspace
    → Names a path line column (Some part) → (h : IsClassOrdered a part order (Ok edits)) → KeepsOrder a h.members order → ReordersOver a.workspace a path line column order edits
compared_over a path line column order edits part is names h keeps =
    let g : IsGiven a h.members order edits = given_by a h.members order edits h.ordered in
    λ before now analysed made.
    let k = keeps before now analysed (subst (λ (es : List Edit). AreMade es before now) g.are made) in
    let r : NamedClass = record { analysis = a; part = part; members = h.members } in (
      r,
      record {
        analysed = analysed;
        units = unit_files_opened before a.workspace a is analysed;
        named = names;
        class = h.are_members;
        function = g.function;
        ordered = g.ordered;
        clear = g.clear;
        files = k.0;
        meaning = k.1;
      },
    )
