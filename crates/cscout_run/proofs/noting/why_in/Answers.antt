use Rattle.command_words.specs.Request.{class_at}
use Rattle.cscout_run.proofs.NoteLemmas.{late_ends, late_in, late_reads, told_in}
use Rattle.cscout_run.proofs.OverLemmas.{reads_then}
use Rattle.cscout_run.proofs.noting.why_in.Goals as goal

pub returns-in-Ok-clause-answer : goal.returns-in-Ok-clause-answer
returns-in-Ok-clause-answer g c =
    told_in (class_at c.args.path.now c.args.line c.args.column) (g.F.Files.told c.args.files.now).held (g.F.Files.told c.read_workspace.new.files).held
    c.args.ws.now c.in-Ok.ws c.why_over.result c.read_workspace.ensures.faults.held c.in-Ok.ensures.answer c.why_over.ensures.answer

pub returns-in-Ok-clause-faults : goal.returns-in-Ok-clause-faults
returns-in-Ok-clause-faults g c =
    reads_then (g.F.Files.told c.args.files.now) (g.F.Files.told c.read_workspace.new.files) (g.F.Files.told c.why_over.new.files) c.why_over.result
    c.in-Ok.ensures.faults c.why_over.ensures.faults

pub returns-in-Err-clause-answer : goal.returns-in-Err-clause-answer
returns-in-Err-clause-answer g c =
    late_in (class_at c.args.path.now c.args.line c.args.column) (g.F.Files.told c.args.files.now).held c.args.ws.now c.in-Err.stop c.late.result
    c.late.ensures c.in-Err.ensures.answer

pub returns-in-Err-clause-stops : goal.returns-in-Err-clause-stops
returns-in-Err-clause-stops g c = late_ends c.in-Err.stop c.late.result c.late.ensures

pub returns-in-Err-clause-faults : goal.returns-in-Err-clause-faults
returns-in-Err-clause-faults g c =
    late_reads (g.F.Files.told c.args.files.now) (g.F.Files.told c.read_workspace.new.files) c.in-Err.stop c.late.result c.late.ensures
    c.in-Err.ensures.faults
