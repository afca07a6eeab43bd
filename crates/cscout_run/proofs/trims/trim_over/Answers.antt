use Rattle.cscout_run.specs.Steps.{ready_answer}
use Rattle.cscout_run.specs.Trims.{IsTrimAnswer}
use Rattle.cscout_run.proofs.OverLemmas.{analysed-answers, handed_told, tells-reads, unanalysed}
use Rattle.cscout_run.proofs.TrimLemmas.{trim_planned}
use Rattle.cscout_run.proofs.trims.trim_over.Goals as goal

pub returns-in_err-analysis-clause-answer : goal.returns-in_err-analysis-clause-answer
returns-in_err-analysis-clause-answer g c =
    unanalysed (g.F.Files.told c.args.files.now).held c.args.ws.now (IsTrimAnswer c.args.stays) c.in_err-analysis.field-0.0 c.from_residual.result c.from_residual.ensures.1
    c.in_err-analysis.ensures.answer

pub returns-in_err-analysis-clause-faults : goal.returns-in_err-analysis-clause-faults
returns-in_err-analysis-clause-faults g c =
    handed_told (g.F.Files.told c.args.files.now) (g.F.Files.told c.analysis_over.new.files) c.in_err-analysis.field-0.0 c.from_residual.result
    c.from_residual.ensures.1 c.in_err-analysis.ensures.faults

pub returns-clause-answer : goal.returns-clause-answer
returns-clause-answer g c =
    analysed-answers (g.F.Files.told c.args.files.now).held c.args.ws.now c.in_ok-analysis.analysis.value (IsTrimAnswer c.args.stays) c.trimmed-answer.result
    c.in_ok-analysis.ensures.answer c.trimmed-answer.ensures.answer

pub returns-clause-planned : goal.returns-clause-planned
returns-clause-planned g c =
    trim_planned (g.F.Files.told c.args.files.now).held c.args.ws.now c.in_ok-analysis.analysis.value c.trimmed-answer.result
    c.in_ok-analysis.ensures.answer c.trimmed-answer.ensures.keeps c.trimmed-answer.ensures.sound

pub returns-clause-faults : goal.returns-clause-faults
returns-clause-faults g c =
    tells-reads ready_answer (IsTrimAnswer c.args.stays c.in_ok-analysis.analysis.value) c.trimmed-answer.result (g.F.Files.told c.args.files.now)
    (g.F.Files.told c.analysis_over.new.files) c.trimmed-answer.ensures.answer c.in_ok-analysis.ensures.faults
