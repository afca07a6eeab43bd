use Rattle.std.proofs.Common.{arith}
use Rattle.trim_rules.specs.Trimmed.{edits_of}
use Rattle.trim_rules.proofs.TrimmedLemmas.{edits-next, edits-all, edits-first}
use Rattle.trim_rules.proofs.trimming.edits.Goals as goal

pub loop-number-init : goal.loop-number-init
loop-number-init c = edits-first c.args.lines.now c.args.a.now.value.table _ c.new-edits.ensures

pub loop-number-preserved : goal.loop-number-preserved
loop-number-preserved c =
    edits-next c.args.lines.now c.args.a.now.value.table c.loop-number.number c.loop-number.edits c.put_numbered.new.edits
    (edits_of c.args.lines.now c.args.a.now.value.table) (omega (arith, c.files-number-end.ensures.answer)) c.loop-number.invariant c.in_ok-put_numbered.ensures

pub returns : goal.returns
returns c =
    let all = edits-all c.args.lines.now c.args.a.now.value.table c.loop-number.number c.loop-number.edits
    (edits_of c.args.lines.now c.args.a.now.value.table) (omega (arith, c.files-number-end.ensures.answer)) c.loop-number.invariant in
    rw (← all) c.edits-3.ensures.answer
