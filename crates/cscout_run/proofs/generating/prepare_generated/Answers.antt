use Rattle.std.proofs.Common.{◌≡◌, ◌∙◌, ℕ, Some, Err, ap, subst}
use Rattle.cs_base.specs.Outside.{FileMap}
use Rattle.cs_base.specs.World.{World}
use Rattle.ws_file.specs.Workspace.{WorkspaceValue, IsWorkspace}
use Rattle.analysis.specs.Below.source_files.Files.{source_of}
use Rattle.analysis.specs.Analysis.{analysis_of}
use Rattle.analysis.proofs.CountLemmas.{tokens_are_few}
use Rattle.generated.specs.Generated.{generated_files, workspace_path}
use Rattle.cscout_run.specs.Answer.{IsAnalysed, IsOverWorkspace, IsSizeAnswer, workspace_at}
use Rattle.cscout_run.specs.Shapes.{Answer}
use Rattle.cscout_run.specs.Steps.{Prepares, ready_answer}
use Rattle.cscout_run.proofs.OverLemmas.{analysed-answers, fault-answers, over_told, reading-stops}
use Rattle.cscout_run.proofs.SizeLemmas.{tells-quiet}
use Rattle.cscout_run.proofs.generating.prepare_generated.Goals as goal

-- the answers over a workspace, and over files
abbrev IsNext : ℕ → FileMap → WorkspaceValue → Answer → Type 0
IsNext n fs w = IsAnalysed (IsSizeAnswer n) (analysis_of (source_of fs) w)

abbrev IsOver : ℕ → FileMap → Answer → Type 0
IsOver n fs = IsOverWorkspace workspace_path (IsNext n fs) (workspace_at workspace_path fs)

pub returns-in_err-ws-clause-answer : goal.returns-in_err-ws-clause-answer
returns-in_err-ws-clause-answer c =
    let fs : FileMap = c.new-files.result.files in
    let same : fs ≡ generated_files c.args.n = ap (λ (w : World). w.files) (c.new-files.ensures ∙ c.in_ok-generate.ensures) in
    let over = reading-stops (Some fs) workspace_path c.in_err-ws.field-0.0 (IsNext c.args.n) c.from_residual-in_err-ws.result
    c.from_residual-in_err-ws.ensures.1 c.in_err-ws.ensures.answer in
    let P : FileMap → Type 0 = λ held. Prepares workspace_path (IsOver c.args.n held) c.from_residual-in_err-ws.result in
    subst P same over

pub size_of-requires : goal.size_of-requires
size_of-requires c =
    tokens_are_few (source_of c.read_workspace.new.files.files) c.in_ok-ws.ws c.in-Ok.analysis.value (subst (λ (w : WorkspaceValue). IsWorkspace w) c.ws.view_is c.ws.invariant) c.in-Ok.ensures.answer

pub returns-in-Ok-clause-answer : goal.returns-in-Ok-clause-answer
returns-in-Ok-clause-answer c =
    let fs : FileMap = c.new-files.result.files in
    let read : FileMap = c.read_workspace.new.files.files in
    let same : fs ≡ generated_files c.args.n = ap (λ (w : World). w.files) (c.new-files.ensures ∙ c.in_ok-generate.ensures) in
    let found = analysed-answers (Some read) c.in_ok-ws.ws c.in-Ok.analysis.value (IsSizeAnswer c.args.n) c.size_of.result c.in-Ok.ensures.answer c.size_of.ensures in
    let over = over_told (Some fs) (Some read) workspace_path c.in_ok-ws.ws (IsNext c.args.n) c.size_of.result c.read_workspace.ensures.faults.held c.in_ok-ws.ensures.answer found in
    let P : FileMap → Type 0 = λ held. Prepares workspace_path (IsOver c.args.n held) c.size_of.result in
    subst P same over

pub returns-in-Ok-clause-stops : goal.returns-in-Ok-clause-stops
returns-in-Ok-clause-stops c = tells-quiet ready_answer (IsSizeAnswer c.args.n c.in-Ok.analysis.value) c.size_of.result c.size_of.ensures
