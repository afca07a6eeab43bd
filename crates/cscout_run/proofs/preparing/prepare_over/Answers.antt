use Rattle.cs_base.specs.Outside.{FileMap}
use Rattle.command_words.specs.Asking.{ask_value}
use Rattle.cscout_run.specs.Answer.{IsAskAnswer}
use Rattle.cscout_run.proofs.OverLemmas.{handed_told, over_told, planned_over, reading-stops, reads_then}
use Rattle.cscout_run.proofs.preparing.prepare_over.Goals as goal

pub returns-in_err-ws-clause-answer : goal.returns-in_err-ws-clause-answer
returns-in_err-ws-clause-answer g c =
    reading-stops (g.F.Files.told c.args.files.now).held c.args.path.now c.in_err-ws.field-0.0 (λ (fs : FileMap). IsAskAnswer fs (ask_value c.args.ask.now))
    c.from_residual.result c.from_residual.ensures.1 c.in_err-ws.ensures.answer

pub returns-in_err-ws-clause-faults : goal.returns-in_err-ws-clause-faults
returns-in_err-ws-clause-faults g c =
    handed_told (g.F.Files.told c.args.files.now) (g.F.Files.told c.read_workspace.new.files) c.in_err-ws.field-0.0 c.from_residual.result
    c.from_residual.ensures.1 c.in_err-ws.ensures.faults

pub returns-clause-answer : goal.returns-clause-answer
returns-clause-answer g c =
    over_told (g.F.Files.told c.args.files.now).held (g.F.Files.told c.read_workspace.new.files).held c.args.path.now c.in_ok-ws.ws
    (λ (fs : FileMap). IsAskAnswer fs (ask_value c.args.ask.now)) c.over_workspace.result c.read_workspace.ensures.faults.held c.in_ok-ws.ensures.answer
    c.over_workspace.ensures.answer

pub returns-clause-planned : goal.returns-clause-planned
returns-clause-planned g c =
    planned_over (g.F.Files.told c.args.files.now).held (g.F.Files.told c.read_workspace.new.files).held c.args.path.now c.in_ok-ws.ws
    (ask_value c.args.ask.now) c.over_workspace.result c.read_workspace.ensures.faults.held c.in_ok-ws.ensures.answer c.over_workspace.ensures.planned

pub returns-clause-faults : goal.returns-clause-faults
returns-clause-faults g c =
    reads_then (g.F.Files.told c.args.files.now) (g.F.Files.told c.read_workspace.new.files) (g.F.Files.told c.over_workspace.new.files)
    c.over_workspace.result c.in_ok-ws.ensures.faults c.over_workspace.ensures.faults
