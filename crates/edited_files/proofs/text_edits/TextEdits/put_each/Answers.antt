use Rattle.std.proofs.Common.{◌+◌, drop, sym, ap, ◌∙◌, arith}
use Rattle.edited_files.specs.Edited.{with_each}
use Rattle.edited_files.proofs.PutLemmas.{with_each-next, with_each-end}
use Rattle.edited_files.proofs.text_edits.TextEdits.put_each.Goals as goal

pub loop-k-preserved : goal.loop-k-preserved
loop-k-preserved c =
    let edits = c.args.edits.now in
    let k = c.loop-k.k in
    ap (with_each (drop (k + 1) edits)) c.in_ok-put.ensures.ok
    ∙ with_each-next edits c.loop-k.self k c.path.result.now c.bytes.result.now c.count.result (omega (arith, c.loop-k-test.true, c.len-k-end.ensures.answer))
    c.path.ensures.answer c.bytes.ensures c.count.ensures
    ∙ c.loop-k.invariant

pub returns-clause-ok : goal.returns-clause-ok
returns-clause-ok c =
    sym (with_each-end c.args.edits.now c.loop-k.self c.loop-k.k (omega (arith, c.loop-k-test.false, c.len-k-end.ensures.answer))) ∙ c.loop-k.invariant
