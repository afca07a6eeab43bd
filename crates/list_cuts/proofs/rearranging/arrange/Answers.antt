use Rattle.std.proofs.Common.{ℕ, ◌≡◌, ◌<◌, ◌+◌, ◌-◌, arith, sym, length, drop, ap, ◌∙◌, List}
use Rattle.list_cuts.specs.Spans.{rearranged, all_rearranged}
use Rattle.list_cuts.specs.declared.spans.Span.{Span}
use Rattle.list_cuts.proofs.LengthLemmas.{length-rearranged, whole_put, all_rearranged_none, all_rearranged_more}
use Rattle.list_cuts.proofs.rearranging.arrange.Goals as goal

pub loop-left-init : goal.loop-left-init
loop-left-init c = record {
  within = omega arith;
  made = c.in_ok-out.ensures.items ∙ sym (all_rearranged_none c.args.order.now c.args.lists.now c.args.bytes.now);
}

pub loop-left-preserved : goal.loop-left-preserved
loop-left-preserved c =
    let order = c.args.order.now in
    let list = c.index-lists-left.result in
    let out = c.loop-left.out.items in
    let below : c.loop-left.left - 1 < length c.args.lists.now = omega (arith, c.loop-left.invariant.within, c.loop-left-test.true) in
    let on : c.loop-left.left - 1 + 1 ≡ c.loop-left.left = omega (arith, c.loop-left-test.true) in
    let before : all_rearranged order (drop (c.loop-left.left - 1 + 1) c.args.lists.now) c.args.bytes.now ≡ out =
    rw on (sym c.loop-left.invariant.made) in
    let next = all_rearranged_more order c.args.lists.now c.args.bytes.now (c.loop-left.left - 1) list below c.index-lists-left.is in
    let now : c.rearrange.new.bytes ≡ rearranged order list out =
    c.in_ok-rearrange.ensures.answer ∙ ap (λ (l : List Span). rearranged order l c.deref_mut.result.now) c.as_slice.ensures
    ∙ ap (λ (bytes : List ℕ). rearranged order list bytes) c.deref_mut.ensures.value in
    let same : length c.rearrange.new.bytes ≡ length out = ap (λ (bytes : List ℕ). length bytes) now ∙ length-rearranged order list out c.requires in
    record {
      within = omega (arith, c.loop-left.invariant.within);
      made = whole_put c.loop-left.out.len out c.rearrange.new.bytes same c.loop-left.out.ok.0 ∙ now
          ∙ sym (next ∙ ap (λ (bytes : List ℕ). rearranged order list bytes) before);
    }
