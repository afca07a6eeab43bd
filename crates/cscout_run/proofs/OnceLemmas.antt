-- The answers over an analysis are one: those to each report, those to each edit, and the size of a generated workspace.
use Rattle.std.proofs.Common.{◌≡◌, ℕ, false, List, Option, None, Some, Result, Ok, Err, ap, sym, subst, ◌∙◌, codes}
use Rattle.std.proofs.lemmas.Option.{same_Some}
use Rattle.cs_base.specs.declared.positions.Part.{Part}
use Rattle.cs_base.specs.Edit.{Edit}
use Rattle.ws_file.specs.Workspace.{WorkspaceValue, IsWorkspace}
use Rattle.analysis.specs.Below.source_files.Files.{Source}
use Rattle.analysis.specs.Analysis.{AnalysisValue, analysis_of}
use Rattle.analysis.specs.ClassReport.{IsClassReport, PrintsClass, part_lines}
use Rattle.analysis.specs.Parts.{AreMembers}
use Rattle.offences.proofs.MemberListLemmas.{one_list}
use Rattle.offences.proofs.NamedLemmas.{one_named}
use Rattle.offences.specs.declared.refusals.Refusal.{Refusal}
use Rattle.rename_plan.proofs.OnceLemmas.{renamings_once}
use Rattle.template_plan.proofs.OnceLemmas.{templates_once}
use Rattle.macro_plan.proofs.OnceLemmas.{macros_once}
use Rattle.unseen_names.specs.Unseen.{unseen_lines}
use Rattle.query_words.specs.Queries.{Query}
use Rattle.query_words.specs.Reading.{parsed}
use Rattle.query_words.specs.declared.faults.QueryFault.{QueryFault}
use Rattle.query_report.specs.Queries.{IsIncludesReport, IsUnusedReport, lines_of}
use Rattle.calls_of.specs.Graph.{GraphValue}
use Rattle.calls_of.specs.Graphs.{calls_text}
use Rattle.generated.specs.Generated.{header_path}
use Rattle.command_words.specs.Request.{ClassValue, EditValue, rename_asked, template_asked, macro_asked, ReportValue, class_asked, unused_asked, includes_asked, calls_asked, find_asked}
use Rattle.cscout_run.specs.Answer.{IsSizeAnswer, size_answer}
use Rattle.cscout_run.specs.Asks.{IsReportAnswer, IsFindAnswer, IsEdit, IsEditTold, LeavesAt, LeavesUnseen, TellsUnseen, told_answer}
use Rattle.cscout_run.specs.Shapes.{Answer, edited, shown}
use Rattle.cscout_run.proofs.AlikeLemmas.{one_found, one_unneeded, one_unseen, one_unused}
use Rattle.cscout_run.proofs.CallsLemmas.{one_graph}
use Rattle.cscout_run.proofs.LineLemmas.{same-answer}

-- ---- reports

-- two lists of the members of the class that one place names are told alike
one_text : (q : ClassValue) (value : AnalysisValue) (text text' : List ℕ) → PrintsClass value q.path q.line q.column text
    → PrintsClass value q.path q.line q.column text' → text ≡ text'
one_text q value text text' r r' =
    let part : r'.part ≡ r.part = same_Some r'.part r.part (one_named value q.path q.line q.column (Some r.part) (Some r'.part) r.names r'.names) in
    let those : AreMembers value r.part r'.members = subst (λ (p : Part). AreMembers value p r'.members) part r'.are_members in
    r.lines ∙ ap (part_lines value) (one_list value r.part r.members r'.members r.are_members those) ∙ sym r'.lines

class_told : (q : ClassValue) (value : AnalysisValue) (told told' : Option (List ℕ)) → IsClassReport value q.path q.line q.column told
    → IsClassReport value q.path q.line q.column told' → told ≡ told'
class_told q value None None r r' = cc
class_told q value (Some text) (Some text') r r' = ap (λ (t : List ℕ). Some t) (one_text q value text text' r r')
class_told q value None (Some text) r r' = let other : None ≡ Some r'.names.0 = sym r ∙ r'.names.1 in cc
class_told q value (Some text) None r r' = let other : None ≡ Some r.names.0 = sym r' ∙ r.names.1 in cc

unused_told : (value : AnalysisValue) (told told' : Option (List ℕ)) → IsUnusedReport value told → IsUnusedReport value told' → told ≡ told'
unused_told value None told' r r' = absurd r
unused_told value (Some text) None r r' = absurd r'
unused_told value (Some text) (Some text') r r' =
    ap (λ (t : List ℕ). Some t)
    (r.lines ∙ ap (part_lines value) (one_unused value r.parts r'.parts r.are_unused r'.are_unused) ∙ sym r'.lines)

includes_told : (value : AnalysisValue) (told told' : Option (List ℕ)) → IsIncludesReport value told → IsIncludesReport value told' → told ≡ told'
includes_told value None told' r r' = absurd r
includes_told value (Some text) None r r' = absurd r'
includes_told value (Some text) (Some text') r r' =
    ap (λ (t : List ℕ). Some t)
    (r.lines ∙ ap (lines_of value) (one_unneeded value r.places r'.places r.are_unneeded r'.are_unneeded) ∙ sym r'.lines)

found_once : (value : AnalysisValue) (read : Result Query QueryFault) (a b : Answer) → IsFindAnswer value read a → IsFindAnswer value read b → a ≡ b
found_once value (Ok q) a b p p' =
    same-answer (shown p.0) a b p.2 (ap (λ (text : List ℕ). shown text) (one_found value q p.0 p'.0 p.1 p'.1) ∙ p'.2)
found_once value (Err fault) a b p p' = same-answer _ a b p p'

-- two answers of what is told alike
told_once : (told told' : Option (List ℕ)) (a b : Answer) → told ≡ told' → told_answer told ≡ a → told_answer told' ≡ b → a ≡ b
told_once told told' a b same is is' = same-answer (told_answer told) a b is (ap told_answer same ∙ is')

-- a line for each report
pub report_once : (report : ReportValue) (value : AnalysisValue) (a b : Answer) → IsReportAnswer report value a → IsReportAnswer report value b → a ≡ b
report_once (class_asked q) value a b p p' = told_once p.0 p'.0 a b (class_told q value p.0 p'.0 p.1 p'.1) p.2 p'.2
report_once unused_asked value a b p p' = told_once p.0 p'.0 a b (unused_told value p.0 p'.0 p.1 p'.1) p.2 p'.2
report_once includes_asked value a b p p' = told_once p.0 p'.0 a b (includes_told value p.0 p'.0 p.1 p'.1) p.2 p'.2
report_once calls_asked value a b p p' =
    same-answer (shown (calls_text value.table p.0)) a b p.2
    (ap (λ (g : GraphValue). shown (calls_text value.table g)) (one_graph value p.0 p'.0 p.1 p'.1) ∙ p'.2)
report_once (find_asked query) value a b p p' = found_once value (parsed query) a b p p'

-- ---- edits

unseen_told : (value : AnalysisValue) (part : Option Part) (text text' : List ℕ) → TellsUnseen value part text → TellsUnseen value part text' → text ≡ text'
unseen_told value None text text' r r' = r ∙ sym r'
unseen_told value (Some part) text text' r r' =
    r.lines ∙ ap (unseen_lines value part) (one_unseen value part r.places r'.places r.are_unseen r'.are_unseen) ∙ sym r'.lines

left_at : (path : List ℕ) (line column : ℕ) (value : AnalysisValue) (text text' : List ℕ) → LeavesAt path line column value text
    → LeavesAt path line column value text' → text ≡ text'
left_at path line column value text text' r r' =
    let part : r'.part ≡ r.part = one_named value path line column r.part r'.part r.named r'.named in
    unseen_told value r.part text text' r.told (subst (λ (p : Option Part). TellsUnseen value p text') part r'.told)

-- two texts of what an edit leaves are one
left_once : (edit : EditValue) (value : AnalysisValue) (text text' : List ℕ) → LeavesUnseen edit value text → LeavesUnseen edit value text'
    → text ≡ text'
left_once (rename_asked q) value text text' r r' = left_at q.path q.line q.column value text text' r r'
left_once (template_asked q) value text text' r r' = left_at q.path q.line q.column value text text' r r'
left_once (macro_asked q) value text text' r r' = left_at q.path q.line q.column value text text' r r'

-- two answers of one plan
pub told_alike : (edit : EditValue) (value : AnalysisValue) (planned : Result (List Edit) Refusal) (a b : Answer) → IsEditTold edit value planned a
    → IsEditTold edit value planned b → a ≡ b
told_alike edit value (Ok edits) a b p p' =
    same-answer (edited edits p.0) a b p.2 (ap (edited edits) (left_once edit value p.0 p'.0 p.1 p'.1) ∙ p'.2)
told_alike edit value (Err refusal) a b p p' = same-answer _ a b p p'

-- An analysis of a workspace: a line for each edit.
module _ (source : Source) (ws : WorkspaceValue) (value : AnalysisValue) (is_ws : IsWorkspace ws) (analysed : analysis_of source ws ≡ Ok value) where
  pub edit_once : (edit : EditValue) (r s : Result (List Edit) Refusal) → IsEdit edit value r → IsEdit edit value s → r ≡ s
  edit_once (rename_asked q) r s p p' = renamings_once source ws value is_ws analysed q.path q.line q.column q.name q.strings r s p p'
  edit_once (template_asked q) r s p p' = templates_once source ws value is_ws analysed q.path q.line q.column q.order r s p p'
  edit_once (macro_asked q) r s p p' = macros_once source ws value is_ws analysed q.path q.line q.column q.order r s p p'

  -- the size of a generated workspace
  pub size_once : (n : ℕ) (a b : Answer) → IsSizeAnswer n value a → IsSizeAnswer n value b → a ≡ b
  size_once n a b p p' =
      same-answer (size_answer n value p.0) a b p.2
      (ap (size_answer n value) (renamings_once source ws value is_ws analysed header_path 1 12 (codes "sum") false p.0 p'.0 p.1 p'.1) ∙ p'.2)
