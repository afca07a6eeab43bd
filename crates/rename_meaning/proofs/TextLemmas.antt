-- Over files in which members are respelled, units have the renamed texts, the workspace has the renamed analysis, and
-- identifiers of external linkage denote one entity exactly where they did.
use Rattle.std.proofs.Common.{◌≡◌, ℕ, List, Some, sym, ap, ◌∙◌}
use Rattle.cs_base.specs.declared.positions.Part.{Part}
use Rattle.cs_base.proofs.OptionLemmas.{ok_same}
use Rattle.analysis.specs.Below.eclass_map.ClassTable as classes
use Rattle.ws_file.specs.Workspace.{WorkspaceValue}
use Rattle.source_files.specs.Files.{Source}
use Rattle.analysis.specs.Analysed.{Analysed, analysed}
use Rattle.analysis.specs.Analysis.{AnalysisValue}
use Rattle.analysis.specs.Naming.{Names}
use Rattle.analysis.specs.Texts.{UnitFault}
use Rattle.edited_unit_laws.specs.Analyses.{renamed_analysis}
use Rattle.analysis.specs.Changed.{denote_one}
use Rattle.analysis.proofs.ClassLemmas.{part_held}
use Rattle.rename_meaning.specs.Allowed.{IsAllowed}
use Rattle.rename_meaning.specs.KeptUnits.{change}
use Rattle.rename_meaning.proofs.DenotingLemmas.{renamed_names_denote_alike}
use Rattle.rename_meaning.proofs.KeptUnitLemmas.{texts_are_renamed_where_named}
use Rattle.rename_meaning.proofs.ReadLemmas.{edited_files_have_renamed_analysis}
use Rattle.rename_meaning.specs.RenamedSource.{IsAccepted, RespelledFilesHaveRenamedAnalysis, RespelledFilesHaveRenamedTexts, RespelledFilesKeepExternalNames}
use Rattle.rename_meaning.proofs.SourceLemmas.{respelled_files_hold_edited}

abbrev allowed : (source : Source) (ws : WorkspaceValue) (a : AnalysisValue) (table : classes.Table) (part : Part) (members : List Part) (name path : List ℕ) (line column : ℕ)
    → IsAccepted source ws a table part members name → Names a path line column (Some part) → IsAllowed (analysed a table) members name
allowed source ws a table part members name path line column h named =
    let own = h.own in
    let number = own.parts.each part (part_held a table own part named.2) in
    record {
      source = source;
      workspace = ws;
      accepted = h.analysed;
      own = own;
      number = number.0;
      class = record { part = part; numbered = number.1; listed = h.class };
      identifier = h.identifier;
      first = h.clear;
    }

pub respelled_files_have_renamed_texts : RespelledFilesHaveRenamedTexts
respelled_files_have_renamed_texts = λ source now ws a table part members name path line column h named r.
    let d : Analysed = analysed a table in
    let k = allowed source ws a table part members name path line column h named in
    texts_are_renamed_where_named d members name path line column k h.workspace h.once named now
    (respelled_files_hold_edited d members name k h.once now r)

pub respelled_files_have_renamed_analysis : RespelledFilesHaveRenamedAnalysis
respelled_files_have_renamed_analysis = λ source now ws a table part members name path line column h named r.
    let d : Analysed = analysed a table in
    let k = allowed source ws a table part members name path line column h named in
    edited_files_have_renamed_analysis d members name path line column k h.workspace h.once named now
    (respelled_files_hold_edited d members name k h.once now r)

pub respelled_files_keep_external_names : RespelledFilesKeepExternalNames
respelled_files_keep_external_names = λ source now ws a table part members name path line column h named r b is m j n k.
    let d : Analysed = analysed a table in
    let allowed_ = allowed source ws a table part members name path line column h named in
    let anew : AnalysisValue = renamed_analysis (change a members name) a in
    let same : anew ≡ b =
    ok_same {D = UnitFault} anew b (sym (respelled_files_have_renamed_analysis source now ws a table part members name path line column h named r) ∙ is) in
    ap (λ (v : AnalysisValue). denote_one v m j n k) (sym same) ∙ renamed_names_denote_alike d members name allowed_ m j n k
