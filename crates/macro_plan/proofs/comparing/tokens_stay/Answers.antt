use Rattle.std.proofs.Common.{◌≡◌, Ok, Some, subst}
use Rattle.analysis.specs.Below.source_files.Files.{Source}
use Rattle.analysis.specs.Below.ws_file.Workspace.{WorkspaceValue}
use Rattle.analysis.specs.Carrying.{IsOver}
use Rattle.analysis.specs.Texts.{texts_of}
use Rattle.macro_plan.proofs.EditedLemmas.{keeps_over}
use Rattle.macro_plan.proofs.comparing.tokens_stay.Goals as goal

pub returns-in-Ok : goal.returns-in-Ok
returns-in-Ok c =
    let held = c.in_ok-files.files.files in
    let table = c.in-Ok.ensures.over.0 in
    let now = c.in-Ok.now in
    let over : IsOver (Some held) table (λ (source : Source). texts_of source c.workspace.result.now.units ≡ Ok now) = c.in-Ok.ensures.over.2 in
    let same = subst (λ (w : WorkspaceValue). IsOver (Some held) table (λ (source : Source). texts_of source w.units ≡ Ok now)) c.workspace.ensures over in
    λ stay. keeps_over c.args.a.now.value c.args.edits.now held now c.tables_are_found.ensures c.made_files_are_pseudo.ensures
    c.in_ok-files.ensures table c.in-Ok.ensures.over.1 same (c.in_ok-stay-in-Ok.ensures stay)
