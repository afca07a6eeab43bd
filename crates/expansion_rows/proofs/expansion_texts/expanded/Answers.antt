use Rattle.std.proofs.Common.{length}
use Rattle.macro_expand.proofs.TracedLemmas.{item-ordered, item-within, item-line}
use Rattle.expansion_rows.proofs.expansion_texts.expanded.Goals as goal

pub slice_bounds-toks-count : goal.slice_bounds-toks-count
slice_bounds-toks-count c =
    item-ordered c.deref-item-items.result.now c.in_ok-shape.field-0.items (length c.in-Ok.text.toks) c.loop-item.item-index _ c.deref-item-items.ensures.value c.in_ok-shape.ensures.covers c.loop-item-test.true

pub slice_bounds-toks-start : goal.slice_bounds-toks-start
slice_bounds-toks-start c =
    item-ordered c.deref-item-items.result.now c.in_ok-shape.field-0.items (length c.in-Ok.text.toks) c.loop-item.item-index _ c.deref-item-items.ensures.value c.in_ok-shape.ensures.covers c.loop-item-test.true

pub slice_bounds-toks-end : goal.slice_bounds-toks-end
slice_bounds-toks-end c =
    item-within c.deref-item-items.result.now c.in_ok-shape.field-0.items c.toks.result.now c.in-Ok.text.toks c.loop-item.item-index _ c.deref-item-items.ensures.value c.toks.ensures.value c.in_ok-shape.ensures.covers c.loop-item-test.true

pub define_line-requires-clause-defines : goal.define_line-requires-clause-defines
define_line-requires-clause-defines c =
    item-line c.deref-item-items.result.now c.in_ok-shape.field-0.items c.toks.result.now c.in-Ok.text.toks c.in-Ok.text.firsts c.loop-item.item-index _ c.deref-item-items.ensures.value c.toks.ensures.value c.in_ok-shape.ensures.answer c.loop-item-test.true c.in-Define.is
