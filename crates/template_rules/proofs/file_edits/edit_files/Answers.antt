use Rattle.std.proofs.Common.{arith, length, ap, sym, ◌∙◌, [], List}
use Rattle.analysis.specs.Analysed.{Analysed}
use Rattle.edited_files.specs.Edited.{with_each}
use Rattle.template_rules.specs.declared.file_lists.FoundList.{FoundList}
use Rattle.template_rules.specs.FileLists.{edits_of, edits_from}
use Rattle.template_rules.proofs.ListLemmas.{edits_next, edits_all, edits_first}
use Rattle.template_rules.proofs.file_edits.edit_files.Goals as goal

pub loop-number-init : goal.loop-number-init
loop-number-init c =
    edits_first c.args.functions.now.members c.args.functions.now.analysis.value c.args.order.now c.in_ok-found.found.items _ c.in_ok-found.ensures c.new-edits.ensures

pub loop-number-preserved : goal.loop-number-preserved
loop-number-preserved c =
    edits_next c.in_ok-found.found.items c.args.order.now c.args.functions.now.analysis.value.table c.loop-number.number c.loop-number.edits c.put_numbered.new.edits
    (edits_of c.args.functions.now.members c.args.functions.now.analysis.value c.args.order.now) (omega (arith, ap (λ (x : Analysed). length x.value.table) c.analysis-a.ensures, c.files-number-end.ensures.answer)) c.loop-number.invariant
    (rw (c.analysis-a.ensures, c.deref.ensures.value) at c.in_ok-put_numbered.ensures)

pub returns : goal.returns
returns c =
    let all = edits_all c.in_ok-found.found.items c.args.order.now c.args.functions.now.analysis.value.table c.loop-number.number c.loop-number.edits
    (edits_of c.args.functions.now.members c.args.functions.now.analysis.value c.args.order.now) (omega (arith, ap (λ (x : Analysed). length x.value.table) c.analysis-a.ensures, c.files-number-end.ensures.answer)) c.loop-number.invariant in
    rw (← all) c.edits-3.ensures.answer
