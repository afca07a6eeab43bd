use Rattle.std.proofs.Common.{◌≡◌, ◌+◌, length, length-append, take, refl, arith}
use Rattle.std.proofs.lemmas.List.{take_all}
use Rattle.template_rules.proofs.CoverLemmas.{ends_next, last_next}
use Rattle.template_rules.proofs.covers.ends_of.Goals as goal

pub loop-list-init : goal.loop-list-init
loop-list-init c = rw c.new-ends.ensures.items (refl, refl, λ i within. absurd (omega (arith, within)))

pub loop-list-preserved : goal.loop-list-preserved
loop-list-preserved c =
    let lists = c.args.lists.now in
    let k = c.loop-list.list-index in
    let next = last_next lists k c.list-item.result c.loop-list.last c.later-last.result c.loop-list-test.true (rw c.list-item.is at c.later-last.ensures) c.loop-list.invariant.0 in (
      next,
      rw (c.in_ok-push.ensures.items, length-append) (omega (arith, c.loop-list.invariant.1)),
      ends_next lists c.loop-list.ends.items c.push.new.self.items k c.later-last.result c.loop-list.invariant.1 next c.in_ok-push.ensures.items c.loop-list.invariant.2,
    )

pub returns : goal.returns
returns c = (omega (arith, c.loop-list.invariant.1), c.loop-list.invariant.2)
