use Rattle.std.proofs.Common.{rules, ◌≡◌, ◌+◌, ◌++◌, ◌∷◌, [], ◌∙◌, List, length, subst, take, arith}
use Rattle.std.proofs.lemmas.List.{take_more, take_all}
use Rattle.analysis.specs.Below.line_shape.declared.items.Item.{Item}
use Rattle.trim_rules.specs.Gone.{AreGone}
use Rattle.trim_rules.proofs.TrimmedLemmas.{gone-next}
use Rattle.trim_rules.proofs.trimming.Gone.add_each.Goals as goal

pub loop-item-preserved : goal.loop-item-preserved
loop-item-preserved c =
    let items = c.items_in-items.result.now in
    gone-next c.args.lines.now c.args.file.now (take c.loop-item.item-index items) (take (c.loop-item.item-index + 1) items) _ c.loop-item.self.parts.items c.add.new.self.parts.items
    c.loop-item.self.count c.add.new.self.count (take_more items c.loop-item.item-index _ (omega (arith, c.loop-item-test.true))) c.loop-item.invariant c.in_ok-add.ensures.parts c.in_ok-add.ensures.count

pub returns : goal.returns
returns c =
    let items = c.items_in-items.result.now in
    subst (λ (is : List Item). AreGone c.args.lines.now c.args.file.now is c.loop-item.self.parts.items c.loop-item.self.count)
    (take_all c.loop-item.item-index items (omega (arith, c.loop-item-test.false)) ∙ c.items_in-items.ensures) c.loop-item.invariant
