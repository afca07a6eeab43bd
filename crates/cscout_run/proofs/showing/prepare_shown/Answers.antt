use Rattle.cs_base.specs.Outside.{FileMap}
use Rattle.command_words.specs.Asking.{request_value, workspace_file}
use Rattle.cscout_run.specs.Answer.{IsRequestAnswer}
use Rattle.cscout_run.proofs.OverLemmas.{reads_then}
use Rattle.cscout_run.proofs.ShowLemmas.{handed_none, handed_reads, shown-handed, shown-prepared}
use Rattle.cscout_run.proofs.showing.prepare_shown.Goals as goal

pub returns-in_err-ready-clause-answer : goal.returns-in_err-ready-clause-answer
returns-in_err-ready-clause-answer g c =
    shown-handed (g.F.Files.told c.args.files.now).held (λ (fs : FileMap). IsRequestAnswer fs (request_value c.args.request.now))
    (workspace_file c.args.request.now) c.in_err-ready.field-0.0 c.from_residual.result c.from_residual.ensures.1 c.in_err-ready.ensures.answer

pub returns-in_err-ready-clause-none : goal.returns-in_err-ready-clause-none
returns-in_err-ready-clause-none g c = handed_none c.in_err-ready.field-0.0 c.from_residual.result _ c.from_residual.ensures.1

pub returns-in_err-ready-clause-faults : goal.returns-in_err-ready-clause-faults
returns-in_err-ready-clause-faults g c =
    handed_reads (g.F.Files.told c.args.files.now) (g.F.Files.told c.prepare.new.files) c.in_err-ready.field-0.0 c.from_residual.result
    c.from_residual.ensures.1 c.in_err-ready.ensures.faults

pub returns-clause-answer : goal.returns-clause-answer
returns-clause-answer g c =
    shown-prepared (g.F.Files.told c.args.files.now).held (g.F.Files.told c.prepare.new.files).held
    (λ (fs : FileMap). IsRequestAnswer fs (request_value c.args.request.now)) (workspace_file c.args.request.now) c.in_ok-ready.ready c.as_shown.result
    c.prepare.ensures.faults.held c.in_ok-ready.ensures.answer c.as_shown.ensures.text c.as_shown.ensures.none c.as_shown.ensures.refused
    c.as_shown.ensures.stops

pub returns-clause-faults : goal.returns-clause-faults
returns-clause-faults g c =
    reads_then (g.F.Files.told c.args.files.now) (g.F.Files.told c.prepare.new.files) (g.F.Files.told c.as_shown.new.files) c.as_shown.result
    c.in_ok-ready.ensures.faults c.as_shown.ensures.faults
