use Rattle.std.proofs.Common.{List, sym, ◌∙◌, ap}
use Rattle.std.specs.Prelude.{slice_get}
use Rattle.std.proofs.lemmas.Option.{slice_get-get_or, slice_get_past}
use Rattle.include_tree.specs.Below.line_shape.declared.items.Item.{Item}
use Rattle.analysis.proofs.ProcessedLemmas.{item_marked, marks_none, no_item, on_ok}
use Rattle.analysis.proofs.processed.mark_numbered.Goals as goal

pub returns-then-k-items : goal.returns-then-k-items
returns-then-k-items c =
    let items = c.items_in-items.result.now in
    let k = c.args.reached.now.item in
    on_ok _ _ c.mark_item.result c.mark_item.ensures (λ marks table is_kept.
    item_marked table c.args.reached.now c.args.file.now _ c.args.marks.now.items c.mark_item.new.marks.items is_kept
    (ap (λ (is : List Item). slice_get is k) (sym c.items_in-items.ensures) ∙ slice_get-get_or items k _ c.if-k-items.true) marks)

pub returns-else-k-items : goal.returns-else-k-items
returns-else-k-items c =
    let items = c.items_in-items.result.now in
    let k = c.args.reached.now.item in
    λ table is_kept. marks_none table _ c.args.marks.now.items (no_item table c.args.reached.now c.args.file.now is_kept
    (ap (λ (is : List Item). slice_get is k) (sym c.items_in-items.ensures) ∙ slice_get_past items k c.if-k-items.false))
