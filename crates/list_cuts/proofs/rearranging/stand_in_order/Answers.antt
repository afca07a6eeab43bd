use Rattle.std.proofs.Common.{◌≡◌, ◌+◌, true, false, get_or, drop, sym, ◌∙◌}
use Rattle.std.specs.Prelude.{◌&&◌, nat_le}
use Rattle.std.proofs.lemmas.Bool.{and_left, and_right, le-leb, lt-leb}
use Rattle.list_cuts.specs.Spans.{stand_in_order}
use Rattle.list_cuts.proofs.SpanLemmas.{no_span, in_order_next, in_order_past}
use Rattle.list_cuts.proofs.rearranging.stand_in_order.Goals as goal
use Rattle.list_cuts.proofs.rearranging.stand_in_order.Goals.{then-from-span-via-then-from-span, then-from-span-via-else-from-span+then-span}

pub returns-then-from-span : goal.returns-then-from-span
returns-then-from-span c =
    let span = get_or c.args.list.now c.loop-span.span-index no_span in
    let from = c.loop-span.from in
    let later = stand_in_order span.end c.args.size (drop (c.loop-span.span-index + 1) c.args.list.now) in
    let next = in_order_next from c.args.size c.loop-span.span-index c.args.list.now c.loop-span-test.true in
    let no : (nat_le from span.begin && (nat_le span.begin span.end && later)) ≡ false =
    elim c.then-from-span.branch [
      | then-from-span-via-then-from-span w ↦
          and_left (nat_le from span.begin) (nat_le span.begin span.end && later) (lt-leb from span.begin w.if-from-span.true)
      | then-from-span-via-else-from-span+then-span w ↦
          and_right (nat_le from span.begin) (nat_le span.begin span.end && later)
          (and_left (nat_le span.begin span.end) later (lt-leb span.begin span.end w.if-span.true))
    ] in
    sym (sym c.loop-span.invariant ∙ next ∙ no)

pub loop-span-preserved : goal.loop-span-preserved
loop-span-preserved c =
    let span = get_or c.args.list.now c.loop-span.span-index no_span in
    let from = c.loop-span.from in
    let next = in_order_next from c.args.size c.loop-span.span-index c.args.list.now c.loop-span-test.true in
    let begins : nat_le from span.begin ≡ true = le-leb from span.begin c.if-from-span.false in
    let ends : nat_le span.begin span.end ≡ true = le-leb span.begin span.end c.if-span.false in
    sym (rw (begins, ends) at next) ∙ c.loop-span.invariant

pub returns : goal.returns
returns c =
    sym (in_order_past c.loop-span.from c.args.size c.loop-span.span-index c.args.list.now c.loop-span-test.false) ∙ c.loop-span.invariant
