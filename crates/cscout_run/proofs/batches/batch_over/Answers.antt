use Rattle.std.proofs.Common.{List, Option, Result, Ok, Err}
use Rattle.cs_base.specs.Outside.{FileMap, FilesTold}
use Rattle.batch_run.specs.Line.{LineValue}
use Rattle.batch_run.specs.declared.running.Batched.{Batched}
use Rattle.analysis.specs.declared.analyse_fault.AnalyseFault.{AnalyseFault}
use Rattle.cscout_run.specs.declared.preparing.Ready.{Ready}
use Rattle.cscout_run.proofs.BatchLemmas.{found, lines-stop, lines_run, ready-run, run-stop}
use Rattle.cscout_run.proofs.OverLemmas.{handed_told, reads_then, stop_told}
use Rattle.cscout_run.proofs.RunLemmas.{if_told-map}
use Rattle.cscout_run.proofs.batches.batch_over.Goals as goal

pub returns-in_err-lines-clause-answer : goal.returns-in_err-lines-clause-answer
returns-in_err-lines-clause-answer g c =
    lines-stop (g.F.Files.told c.args.files.now).held c.args.file.now c.args.ws.now c.in_err-lines.field-0.0 c.from_residual.result
    c.from_residual.ensures.1 c.in_err-lines.ensures.answer

pub returns-in_err-lines-clause-faults : goal.returns-in_err-lines-clause-faults
returns-in_err-lines-clause-faults g c =
    handed_told (g.F.Files.told c.args.files.now) (g.F.Files.told c.read_lines.new.files) c.in_err-lines.field-0.0 c.from_residual.result
    c.from_residual.ensures.1 c.in_err-lines.ensures.faults

pub returns-in-Ok-clause-answer : goal.returns-in-Ok-clause-answer
returns-in-Ok-clause-answer g c =
    let told : Option FileMap = (g.F.Files.told c.args.files.now).held in
    let lines : List LineValue = c.in_ok-lines.lines.items in
    let result : Result Batched AnalyseFault = Ok c.in-Ok.batched in
    let there = found told (g.F.Files.told c.read_lines.new.files).held c.args.file.now c.args.ws.now lines c.as_slice.result.now result
    c.as_slice.ensures.value c.read_lines.ensures.faults.held c.in_ok-lines.ensures.answer c.in-Ok.ensures.answer in
    if_told-map told _ _ there
    (λ fs f. ready-run c.args.file.now c.args.ws.now lines c.in-Ok.batched c.to_put.result fs f c.to_put.ensures.edits c.to_put.ensures.text
    c.to_put.ensures.refused)

pub returns-in-Ok-clause-planned : goal.returns-in-Ok-clause-planned
returns-in-Ok-clause-planned g c =
    let told : Option FileMap = (g.F.Files.told c.args.files.now).held in
    let lines : List LineValue = c.in_ok-lines.lines.items in
    let result : Result Batched AnalyseFault = Ok c.in-Ok.batched in
    let there = found told (g.F.Files.told c.read_lines.new.files).held c.args.file.now c.args.ws.now lines c.as_slice.result.now result
    c.as_slice.ensures.value c.read_lines.ensures.faults.held c.in_ok-lines.ensures.answer c.in-Ok.ensures.answer in
    if_told-map told _ _ there (λ fs f. lines_run c.args.file.now c.args.ws.now lines c.in-Ok.batched c.to_put.result fs f c.to_put.ensures.edits)

pub returns-in-Ok-clause-faults : goal.returns-in-Ok-clause-faults
returns-in-Ok-clause-faults g c =
    let a : FilesTold = g.F.Files.told c.args.files.now in
    let b : FilesTold = g.F.Files.told c.read_lines.new.files in
    let d : FilesTold = g.F.Files.told c.run_batch.new.files in
    reads_then a b d (Ok c.to_put.result) c.in_ok-lines.ensures.faults c.in-Ok.ensures.faults

pub returns-clause-answer : goal.returns-clause-answer
returns-clause-answer g c =
    let told : Option FileMap = (g.F.Files.told c.args.files.now).held in
    let lines : List LineValue = c.in_ok-lines.lines.items in
    let result : Result Batched AnalyseFault = Err c.in-Err.fault in
    let there = found told (g.F.Files.told c.read_lines.new.files).held c.args.file.now c.args.ws.now lines c.as_slice.result.now result
    c.as_slice.ensures.value c.read_lines.ensures.faults.held c.in_ok-lines.ensures.answer c.in-Err.ensures.answer in
    if_told-map told _ _ there
    (λ fs f. run-stop c.args.file.now c.args.ws.now lines c.in-Err.fault c.stop_of.result fs c.stop_of.ensures f)

pub returns-clause-faults : goal.returns-clause-faults
returns-clause-faults g c =
    let a : FilesTold = g.F.Files.told c.args.files.now in
    let b : FilesTold = g.F.Files.told c.read_lines.new.files in
    let d : FilesTold = g.F.Files.told c.run_batch.new.files in
    reads_then {X = Ready} a b d (Err c.stop_of.result) c.in_ok-lines.ensures.faults
    (stop_told Batched b d c.in-Err.fault c.stop_of.result c.stop_of.ensures c.in-Err.ensures.faults)
