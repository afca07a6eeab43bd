use Rattle.std.proofs.Common.{arith, length, ap}
use Rattle.analysis.specs.Analysed.{Analysed}
use Rattle.macro_rules.specs.Edits.{edit_in, edits_of}
use Rattle.macro_rules.proofs.EditLemmas.{edits_first, edits_next, edits_all}
use Rattle.macro_rules.proofs.file_edits.edit_files.Goals as goal

pub loop-number-init : goal.loop-number-init
loop-number-init c =
    edits_first c.args.macros.now.members c.args.macros.now.analysis.value c.args.order.now c.asked-asked.result.macros.now c.asked-asked.result.calls.now _
    c.asked-asked.ensures.macros_are c.asked-asked.ensures.calls_are c.new-edits.ensures

pub loop-number-preserved : goal.loop-number-preserved
loop-number-preserved c =
    edits_next (edit_in c.args.order.now c.asked-asked.result.macros.now c.asked-asked.result.calls.now) c.args.macros.now.analysis.value.table c.loop-number.number
    c.loop-number.edits c.put_numbered.new.edits (edits_of c.args.macros.now.members c.args.macros.now.analysis.value c.args.order.now)
    (omega (arith, ap (λ (x : Analysed). length x.value.table) c.analysis-a.ensures, c.files-number-end.ensures.answer)) c.loop-number.invariant
    (rw c.analysis-a.ensures at c.in_ok-put_numbered.ensures)

pub returns : goal.returns
returns c =
    let all = edits_all (edit_in c.args.order.now c.asked-asked.result.macros.now c.asked-asked.result.calls.now) c.args.macros.now.analysis.value.table c.loop-number.number
    c.loop-number.edits (edits_of c.args.macros.now.members c.args.macros.now.analysis.value c.args.order.now)
    (omega (arith, ap (λ (x : Analysed). length x.value.table) c.analysis-a.ensures, c.files-number-end.ensures.answer)) c.loop-number.invariant in
    record { answer = rw (← all) c.edits-3.ensures.answer }
