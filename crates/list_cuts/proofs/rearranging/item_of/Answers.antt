use Rattle.std.proofs.Common.{rules, length}
use Rattle.list_cuts.proofs.SpanLemmas.{stands}
use Rattle.list_cuts.proofs.rearranging.item_of.Goals as goal

pub slice_bounds-result-count : goal.slice_bounds-result-count
slice_bounds-result-count c = (stands 0 (length c.args.bytes.now) c.args.place c.args.list.now c.requires.in_order c.requires.within).whole

pub slice_bounds-result-start : goal.slice_bounds-result-start
slice_bounds-result-start c =
    let s = stands 0 (length c.args.bytes.now) c.args.place c.args.list.now c.requires.in_order c.requires.within in
    search (rules, s.whole, s.within)

pub slice_bounds-result-end : goal.slice_bounds-result-end
slice_bounds-result-end c =
    let s = stands 0 (length c.args.bytes.now) c.args.place c.args.list.now c.requires.in_order c.requires.within in
    search (rules, s.whole, s.within)
