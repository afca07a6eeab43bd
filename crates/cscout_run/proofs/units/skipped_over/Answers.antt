use Rattle.std.proofs.Common.{◌≡◌, refl}
use Rattle.query_report.specs.Skipped.{skipped_text}
use Rattle.cs_base.specs.Outside.{FileMap}
use Rattle.cscout_run.specs.declared.preparing.Ready.{Ready}
use Rattle.cscout_run.specs.Answer.{units_answer}
use Rattle.cscout_run.specs.Shapes.{Answer}
use Rattle.cscout_run.proofs.OverLemmas.{memory-answers, memory-reads, shows, stop_told, skipped-ok, skipped-stop}
use Rattle.cscout_run.proofs.units.skipped_over.Goals as goal

pub returns-in_ok-print_skipped-in-Ok-clause-answer : goal.returns-in_ok-print_skipped-in-Ok-clause-answer
returns-in_ok-print_skipped-in-Ok-clause-answer g c =
    let text : c.to_show.result.text.items ≡ skipped_text c.in-Ok.all = rw c.to_show.ensures.text c.in_ok-print_skipped-in-Ok.ensures in
    skipped-ok (g.F.Files.told c.args.files.now).held c.args.ws.now c.in-Ok.all c.to_show.result c.in-Ok.ensures.answer
    (shows c.to_show.result (skipped_text c.in-Ok.all) text c.to_show.ensures.edits c.to_show.ensures.refused)

pub returns-in-Err-clause-answer : goal.returns-in-Err-clause-answer
returns-in-Err-clause-answer g c =
    skipped-stop (g.F.Files.told c.args.files.now).held c.args.ws.now c.in-Err.fault c.stop_of.result c.stop_of.ensures c.in-Err.ensures.answer

pub returns-in_ok-print_skipped-in-Ok-clause-faults : goal.returns-in_ok-print_skipped-in-Ok-clause-faults
returns-in_ok-print_skipped-in-Ok-clause-faults g c = c.in-Ok.ensures.faults

pub returns-in-Err-clause-faults : goal.returns-in-Err-clause-faults
returns-in-Err-clause-faults g c =
    stop_told Ready (g.F.Files.told c.args.files.now) (g.F.Files.told c.texts.new.files) c.in-Err.fault c.stop_of.result c.stop_of.ensures
    c.in-Err.ensures.faults

pub returns-in_err-print_skipped-in-Ok-clause-answer : goal.returns-in_err-print_skipped-in-Ok-clause-answer
returns-in_err-print_skipped-in-Ok-clause-answer g c =
    memory-answers (g.F.Files.told c.args.files.now).held (λ (fs : FileMap) (a : Answer). units_answer fs c.args.ws.now ≡ a) c.from_residual.result
    c.from_residual.ensures.1

pub returns-in_err-print_skipped-in-Ok-clause-faults : goal.returns-in_err-print_skipped-in-Ok-clause-faults
returns-in_err-print_skipped-in-Ok-clause-faults g c =
    memory-reads (g.F.Files.told c.args.files.now) (g.F.Files.told c.texts.new.files) c.from_residual.result c.from_residual.ensures.1
    c.in-Ok.ensures.faults
