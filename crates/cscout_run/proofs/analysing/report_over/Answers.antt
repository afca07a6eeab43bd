use Rattle.command_words.specs.Asking.{report_value}
use Rattle.cscout_run.specs.Asks.{IsReportAnswer}
use Rattle.cscout_run.specs.Steps.{ready_answer}
use Rattle.cscout_run.proofs.OverLemmas.{analysed-answers, handed_told, tells-reads, unanalysed}
use Rattle.cscout_run.proofs.analysing.report_over.Goals as goal

pub returns-in_err-analysis-clause-answer : goal.returns-in_err-analysis-clause-answer
returns-in_err-analysis-clause-answer g c =
    unanalysed (g.F.Files.told c.args.files.now).held c.args.ws.now (IsReportAnswer (report_value c.args.report.now)) c.in_err-analysis.field-0.0
    c.from_residual.result c.from_residual.ensures.1 c.in_err-analysis.ensures.answer

pub returns-in_err-analysis-clause-faults : goal.returns-in_err-analysis-clause-faults
returns-in_err-analysis-clause-faults g c =
    handed_told (g.F.Files.told c.args.files.now) (g.F.Files.told c.analysis_over.new.files) c.in_err-analysis.field-0.0 c.from_residual.result
    c.from_residual.ensures.1 c.in_err-analysis.ensures.faults

pub returns-clause-answer : goal.returns-clause-answer
returns-clause-answer g c =
    analysed-answers (g.F.Files.told c.args.files.now).held c.args.ws.now c.in_ok-analysis.analysis.value (IsReportAnswer (report_value c.args.report.now))
    c.told-answer.result c.in_ok-analysis.ensures.answer c.told-answer.ensures

pub returns-clause-faults : goal.returns-clause-faults
returns-clause-faults g c =
    tells-reads ready_answer (IsReportAnswer (report_value c.args.report.now) c.in_ok-analysis.analysis.value) c.told-answer.result
    (g.F.Files.told c.args.files.now) (g.F.Files.told c.analysis_over.new.files) c.told-answer.ensures c.in_ok-analysis.ensures.faults
