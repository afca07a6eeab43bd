use Rattle.std.proofs.Common.{◌≡◌, arith, map, length}
use Rattle.list_cuts.specs.Cuts.{picked}
use Rattle.list_cuts.specs.Spans.{text_of, between}
use Rattle.list_cuts.proofs.OrderLemmas.{orders_within, length-picked, picked_at}
use Rattle.list_cuts.proofs.SpanLemmas.{length-between}
use Rattle.list_cuts.proofs.WovenLemmas.{woven_more, woven_end}
use Rattle.list_cuts.proofs.rearranging.woven.Goals as goal

pub overflow_sub-number : goal.overflow_sub-number
overflow_sub-number c = (orders_within (length c.args.order.now) c.loop-place.place 0 c.args.order.now c.requires.order c.loop-place-test.true).0

pub item_of-requires-clause-within : goal.item_of-requires-clause-within
item_of-requires-clause-within c =
    let in_range = orders_within (length c.args.order.now) c.loop-place.place 0 c.args.order.now c.requires.order c.loop-place-test.true in
    omega (arith, in_range.0, in_range.1, c.requires.alike)

pub loop-place-preserved : goal.loop-place-preserved
loop-place-preserved c =
    let items = map (text_of c.args.bytes.now) c.args.list.now in
    let many : length (picked c.args.order.now items) ≡ length c.args.order.now = length-picked c.args.order.now items in
    let gaps : length (between c.args.bytes.now c.args.list.now) ≡ length c.args.list.now = length-between c.args.bytes.now c.args.list.now in
    let at = picked_at c.args.order.now items c.loop-place.place c.loop-place-test.true in
    woven_more (picked c.args.order.now items) (between c.args.bytes.now c.args.list.now) c.loop-place.out.items
    c.extend_from_slice.new.self.items c.extend_from_slice-in-loop-place.new.self.items c.loop-place.place
    (rw many c.loop-place-test.true) (rw (gaps, c.requires.alike) c.loop-place-test.true)
    (rw (at, ← c.item_of.ensures) c.in_ok-extend_from_slice.ensures.items)
    (rw (← c.gap_of.ensures) c.in_ok-extend_from_slice-2.ensures.items)
    c.loop-place.invariant

pub returns : goal.returns
returns c =
    let items = map (text_of c.args.bytes.now) c.args.list.now in
    let many : length (picked c.args.order.now items) ≡ length c.args.order.now = length-picked c.args.order.now items in
    woven_end (picked c.args.order.now items) (between c.args.bytes.now c.args.list.now) c.loop-place.out.items c.loop-place.place
    (rw many c.loop-place-test.false) c.loop-place.invariant
