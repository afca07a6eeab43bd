use Rattle.std.proofs.Common.{◌+◌, sym, rules, length}
use Rattle.list_cuts.proofs.SpanLemmas.{stands, stands_behind, between_at, between_last}
use Rattle.list_cuts.proofs.rearranging.gap_of.Goals as goal

pub slice_bounds-result-count : goal.slice_bounds-result-count
slice_bounds-result-count c = stands_behind 0 (length c.args.bytes.now) c.args.place c.args.list.now c.requires.in_order c.if-place-list.true

pub slice_bounds-result-start : goal.slice_bounds-result-start
slice_bounds-result-start c =
    let s = stands_behind 0 (length c.args.bytes.now) c.args.place c.args.list.now c.requires.in_order c.if-place-list.true in
    search (rules, s)

pub slice_bounds-result-end : goal.slice_bounds-result-end
slice_bounds-result-end c =
    let t = stands 0 (length c.args.bytes.now) (c.args.place + 1) c.args.list.now c.requires.in_order c.if-place-list.true in
    search (rules, t.whole, t.within)

pub returns-then-place-list : goal.returns-then-place-list
returns-then-place-list c = sym (between_at c.args.bytes.now c.args.list.now c.args.place c.if-place-list.true)

pub returns-else-place-list : goal.returns-else-place-list
returns-else-place-list c = sym (between_last c.args.bytes.now c.args.list.now c.args.place c.if-place-list.false)
