use Rattle.std.proofs.Common.{◌≡◌, ◌++◌, List, length, subst, sym, ap, ◌∙◌, append_assoc, arith}
use Rattle.std.proofs.lemmas.List.{append-nil}
use Rattle.line_shape.specs.declared.items.Item.{Item}
use Rattle.cs_base.specs.Token.{Token}
use Rattle.line_shape.specs.Items.{items_of, Follow}
use Rattle.line_shape.specs.Walk.{rest_items}
use Rattle.line_shape.proofs.CoverLemmas.{Follow-items_of}
use Rattle.line_shape.proofs.ItemsLemmas.{rest_items-first, rest_items-step, rest_items-end}
use Rattle.line_shape.proofs.walk.shape.Goals as goal

pub items-init : goal.items-init
items-init c = record {
  rest = rw c.new-items.ensures.items (rest_items-first c.toks-toks.result.now c.args.text.now.firsts);
  within = omega arith;
}

pub items-preserved : goal.items-preserved
items-preserved c =
    let toks = c.toks-toks.result.now in
    let firsts = c.args.text.now.firsts in
    let step = rest_items-step toks firsts c.items.from c.item_end-to.result c.items-test.true c.item_end-to.ensures in
    let item = ap (λ (items : List Item). items ++ rest_items toks firsts c.item_end-to.result) c.in_ok-item.ensures in
    record {
      rest =
          rw (c.in_ok-push.ensures.items, append_assoc)
          (ap (λ (items : List Item). c.items.items.items ++ items) (sym (step ∙ item)) ∙ c.items.invariant.rest);
      within = c.item_end-to.ensures.within;
    }

pub returns : goal.returns
returns c =
    let toks = c.args.text.now.toks in
    let firsts = c.args.text.now.firsts in
    let none = rest_items-end c.toks-toks.result.now firsts c.items.from (omega arith) in
    let answer : c.items.items.items ≡ items_of toks firsts =
    sym (append-nil c.items.items.items) ∙ ap (λ (items : List Item). c.items.items.items ++ items) (sym none)
    ∙ c.items.invariant.rest ∙ ap (λ (toks : List Token). items_of toks firsts) c.toks-toks.ensures.value in
    record {
      covers = subst (λ (items : List Item). Follow 0 (length toks) items) (sym answer) (Follow-items_of toks firsts);
      answer = answer;
    }
