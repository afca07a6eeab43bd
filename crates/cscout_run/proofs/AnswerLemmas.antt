-- Answers to the same words over the same files are one.
use Rattle.std.proofs.Common.{◌≡◌, ℕ, List, Option, None, Some, Result, Ok, Err, refl, ap, ◌∙◌, subst}
use Rattle.std.specs.Option.{option_map}
use Rattle.std.proofs.lemmas.Option.{same_Some}
use Rattle.cs_base.specs.Edit.{Edit}
use Rattle.cs_base.specs.Outside.{FileMap, bytes_at}
use Rattle.ws_file.specs.Workspace.{WorkspaceValue, IsWorkspace}
use Rattle.ws_file.specs.Reading.{WsFault, workspace_of}
use Rattle.analysis.specs.Below.source_files.Files.{source_of}
use Rattle.analysis.specs.Analysis.{AnalysisValue, analysis_of}
use Rattle.analysis.specs.Texts.{UnitFault}
use Rattle.offences.specs.declared.refusals.Refusal.{Refusal}
use Rattle.generated.specs.Generated.{workspace_path, generated_files}
use Rattle.command_words.specs.Message.{usage_line}
use Rattle.command_words.specs.Request.{AskValue, tokens_asked, skipped_asked, check_asked, report_asked, edit_asked, trim_asked, batch_asked, RequestValue, help_asked, version_asked, generated_asked, asked_over, asked}
use Rattle.cscout_run.specs.declared.status.Status.TheVariants.{Usage}
use Rattle.cscout_run.specs.Answer.{IsAnswer, IsAnswerTo, IsRequestAnswer, IsAskAnswer, IsAnalysed, IsOverWorkspace, IsSizeAnswer, batch_at, workspace_at}
use Rattle.cscout_run.specs.Asks.{IsEditAnswer, IsEditTold, IsReportAnswer}
use Rattle.cscout_run.specs.Shapes.{Answer, stopped}
use Rattle.cscout_run.specs.Trims.{IsTrimAnswer}
use Rattle.cscout_run.proofs.LineLemmas.{batch-alike, same-answer}
use Rattle.cscout_run.proofs.OnceLemmas.{edit_once, report_once, size_once, told_alike}
use Rattle.cscout_run.proofs.TrimLemmas.{trim_once}
use Rattle.cscout_run.proofs.WorkspaceLemmas.{read_is_workspace}

-- the answer to words of no form
pub answer-usage : (words : List (List ℕ)) (files : FileMap) → asked words ≡ None → IsAnswer words files (stopped Usage usage_line)
unfolding IsAnswer
answer-usage words files none = rw none refl

-- an answer to what the words ask for is one to the words
pub answer-request : (words : List (List ℕ)) (files : FileMap) (request : RequestValue) (a : Answer) → asked words ≡ Some request
    → IsRequestAnswer files request a → IsAnswer words files a
unfolding IsAnswer
answer-request words files request a some is = rw some is

-- ---- over an analysis, over a workspace, over its file

analysed-alike : (IsNext : AnalysisValue → Answer → Type 0) (analysed : Result AnalysisValue UnitFault) (a b : Answer)
    → ((value : AnalysisValue) → analysed ≡ Ok value → IsNext value a → IsNext value b → a ≡ b) → IsAnalysed IsNext analysed a
    → IsAnalysed IsNext analysed b → a ≡ b
analysed-alike IsNext (Ok value) a b once p p' = once value refl p p'
analysed-alike IsNext (Err fault) a b once p p' = same-answer _ a b p p'

ask-alike : (files : FileMap) (ask : AskValue) (w : WorkspaceValue) (a b : Answer) → IsWorkspace w → IsAskAnswer files ask w a
    → IsAskAnswer files ask w b → a ≡ b
ask-alike files (tokens_asked unit) w a b is p p' = same-answer _ a b p p'
ask-alike files skipped_asked w a b is p p' = same-answer _ a b p p'
ask-alike files check_asked w a b is p p' = same-answer _ a b p p'
ask-alike files (report_asked report) w a b is p p' =
    analysed-alike (IsReportAnswer report) (analysis_of (source_of files) w) a b (λ value analysed. report_once report value a b) p p'
ask-alike files (edit_asked edit) w a b is p p' =
    analysed-alike (IsEditAnswer edit) (analysis_of (source_of files) w) a b
    (λ value analysed p p'.
    let one = edit_once (source_of files) w value is analysed edit p'.0 p.0 p'.1 p.1 in
    told_alike edit value p.0 a b p.2 (subst (λ (planned : Result (List Edit) Refusal). IsEditTold edit value planned b) one p'.2))
    p p'
ask-alike files (trim_asked stays) w a b is p p' =
    analysed-alike (IsTrimAnswer stays) (analysis_of (source_of files) w) a b (λ value analysed. trim_once stays value a b) p p'
ask-alike files (batch_asked file) w a b is p p' = batch-alike w is files (batch_at file files) a b p p'

-- what the files hold is a workspace
held_workspace : (o : Option (List ℕ)) (w : WorkspaceValue) → option_map workspace_of o ≡ Some (Ok w) → IsWorkspace w
held_workspace None w e = cc
held_workspace (Some bytes) w e = read_is_workspace bytes w (same_Some (workspace_of bytes) (Ok w) e)

over-alike : (ws : List ℕ) (files : FileMap) (IsNext : WorkspaceValue → Answer → Type 0) (read : Option (Result WorkspaceValue WsFault)) (a b : Answer)
    → workspace_at ws files ≡ read → ((w : WorkspaceValue) → IsWorkspace w → IsNext w a → IsNext w b → a ≡ b) → IsOverWorkspace ws IsNext read a
    → IsOverWorkspace ws IsNext read b → a ≡ b
over-alike ws files IsNext None a b is next p p' = same-answer _ a b p p'
over-alike ws files IsNext (Some (Ok w)) a b is next p p' = next w (held_workspace (bytes_at ws files) w is) p p'
over-alike ws files IsNext (Some (Err fault)) a b is next p p' = same-answer _ a b p p'

-- ---- to words

request-alike : (files : FileMap) (request : Option RequestValue) (a b : Answer) → IsAnswerTo files request a → IsAnswerTo files request b
    → a ≡ b
request-alike files None a b p p' = same-answer _ a b p p'
request-alike files (Some help_asked) a b p p' = same-answer _ a b p p'
request-alike files (Some version_asked) a b p p' = same-answer _ a b p p'
request-alike files (Some (generated_asked n)) a b p p' =
    let held : FileMap = generated_files n in
    over-alike workspace_path held (λ w. IsAnalysed (IsSizeAnswer n) (analysis_of (source_of held) w)) (workspace_at workspace_path held) a b refl
    (λ w is. analysed-alike (IsSizeAnswer n) (analysis_of (source_of held) w) a b (λ value analysed. size_once (source_of held) w value is analysed n a b))
    p p'
request-alike files (Some (asked_over ws ask)) a b p p' =
    over-alike ws files (IsAskAnswer files ask) (workspace_at ws files) a b refl (λ w is. ask-alike files ask w a b is) p p'

pub answers_alike : (words : List (List ℕ)) (files : FileMap) (a b : Answer) → IsAnswer words files a → IsAnswer words files b → a ≡ b
unfolding IsAnswer
answers_alike words files a b p p' = request-alike files (asked words) a b p p'

pub answer-alike : (words : List (List ℕ)) (files : FileMap) (a b : Answer) → IsAnswer words files a → IsAnswer words files b
    → a.status ≡ b.status
answer-alike words files a b p p' = ap (λ (c : Answer). c.status) (answers_alike words files a b p p')
