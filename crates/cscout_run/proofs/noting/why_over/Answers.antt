use Rattle.command_words.specs.Request.{class_at}
use Rattle.cscout_run.proofs.NoteLemmas.{late_ends, late_over, late_reads, told_over}
use Rattle.cscout_run.proofs.noting.why_over.Goals as goal

pub returns-in-Ok-clause-answer : goal.returns-in-Ok-clause-answer
returns-in-Ok-clause-answer g c =
    told_over (class_at c.args.path.now c.args.line c.args.column) (g.F.Files.told c.args.files.now).held c.args.ws.now c.in-Ok.analysis.value
    c.why_at.result c.in-Ok.ensures.answer c.why_at.ensures

pub returns-in-Ok-clause-faults : goal.returns-in-Ok-clause-faults
returns-in-Ok-clause-faults g c = c.in-Ok.ensures.faults

pub returns-in-Err-clause-answer : goal.returns-in-Err-clause-answer
returns-in-Err-clause-answer g c =
    late_over (class_at c.args.path.now c.args.line c.args.column) (g.F.Files.told c.args.files.now).held c.args.ws.now c.in-Err.stop c.late.result
    c.late.ensures c.in-Err.ensures.answer

pub returns-in-Err-clause-stops : goal.returns-in-Err-clause-stops
returns-in-Err-clause-stops g c = late_ends c.in-Err.stop c.late.result c.late.ensures

pub returns-in-Err-clause-faults : goal.returns-in-Err-clause-faults
returns-in-Err-clause-faults g c =
    late_reads (g.F.Files.told c.args.files.now) (g.F.Files.told c.analysis_over.new.files) c.in-Err.stop c.late.result c.late.ensures
    c.in-Err.ensures.faults
