use Rattle.std.proofs.Common.{◌≡◌, ◌+◌, ◌-◌, arith, rules, sym, length, ◌∙◌, get_or}
use Rattle.list_cuts.proofs.SpanLemmas.{no_span}
use Rattle.list_cuts.proofs.LengthLemmas.{IsText, no_list, text_long, text_put}
use Rattle.list_cuts.proofs.rearranging.rearrange.Goals as goal

pub returns-in-empty-clause-answer : goal.returns-in-empty-clause-answer
returns-in-empty-clause-answer c = no_list c.args.list.now c.in-empty.len_below c.args.order.now c.args.bytes.now

fitting : (c : goal.After-len) → IsText c.args.order.now c.args.list.now c.args.bytes.now c.in_ok-text-in-len1-up.text.items
fitting c = record {
  permutes = c.requires;
  alike = c.if-list-order.false;
  in_order = sym c.if-not-stand_in_order.ensures;
  some = c.in-len1-up.len_at_least;
  made = c.in_ok-text-in-len1-up.ensures;
}

pub overflow_add-end : goal.overflow_add-end
overflow_add-end c =
    let fits = text_long c.args.order.now c.args.list.now c.args.bytes.now c.in_ok-text-in-len1-up.text.items (fitting c) in
    search (rules, fits)

pub slice_bounds-copy_from_slice-end : goal.slice_bounds-copy_from_slice-end
slice_bounds-copy_from_slice-end c =
    let fits = text_long c.args.order.now c.args.list.now c.args.bytes.now c.in_ok-text-in-len1-up.text.items (fitting c) in
    search (rules, fits)

pub returns-in_ok-text-in-len1-up-clause-answer : goal.returns-in_ok-text-in-len1-up-clause-answer
returns-in_ok-text-in-len1-up-clause-answer c =
    let text = c.in_ok-text-in-len1-up.text in
    let is : IsText c.args.order.now c.args.list.now c.args.bytes.now text.items = record {
      permutes = c.requires;
      alike = c.if-list-order.false;
      in_order = sym c.if-not-stand_in_order.ensures;
      some = c.in-len1-up.len_at_least;
      made = c.in_ok-text-in-len1-up.ensures;
    } in
    let begin = (get_or c.args.list.now 0 no_span).begin in
    let put : c.copy_from_slice.new.self ≡ text.items = c.copy_from_slice.ensures.after ∙ c.deref.ensures.value in
    let many : begin + c.len.result - begin ≡ length text.items = omega (arith, c.len.ensures, text.ok.0) in
    rw put (text_put c.args.order.now c.args.list.now c.args.bytes.now text.items (begin + c.len.result - begin) is many)
