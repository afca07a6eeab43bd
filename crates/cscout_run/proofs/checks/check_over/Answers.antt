use Rattle.cscout_run.proofs.CheckLemmas.{check-ok, check-reads, check-stopped}
use Rattle.cscout_run.proofs.checks.check_over.Goals as goal

pub returns-in-Ok-clause-answer : goal.returns-in-Ok-clause-answer
returns-in-Ok-clause-answer g c =
    check-ok (g.F.Files.told c.args.files.now).held c.args.ws.now c.in-Ok.checked.text.items c.in-Ok.checked.refused c.to_tell.result
    c.in-Ok.ensures.text c.in-Ok.ensures.refused c.to_tell.ensures.edits c.to_tell.ensures.text c.to_tell.ensures.refused

pub returns-in-Ok-clause-faults : goal.returns-in-Ok-clause-faults
returns-in-Ok-clause-faults g c = c.in-Ok.ensures.faults

pub returns-in-Err-clause-answer : goal.returns-in-Err-clause-answer
returns-in-Err-clause-answer g c =
    check-stopped (g.F.Files.told c.args.files.now).held c.args.ws.now c.in-Err.fault c.check_stop.result c.check_stop.ensures

pub returns-in-Err-clause-faults : goal.returns-in-Err-clause-faults
returns-in-Err-clause-faults g c =
    check-reads (g.F.Files.told c.args.files.now) (g.F.Files.told c.check.new.files) c.in-Err.fault c.check_stop.result c.check_stop.ensures
    c.in-Err.ensures.faults
