use Rattle.std.proofs.Common.{append_assoc, arith}
use Rattle.command_words.proofs.EditedLemmas.{edited_lines-drop}
use Rattle.command_words.proofs.lines.edited_text.Goals as goal

pub loop-k-preserved : goal.loop-k-preserved
loop-k-preserved c =
    let next = edited_lines-drop c.args.edits.now c.loop-k.k c.path.result.now c.count.result (omega arith) c.path.ensures.answer c.count.ensures in
    rw (c.in_ok-push_line.ensures, append_assoc c.loop-k.text.items) (rw next c.loop-k.invariant)
