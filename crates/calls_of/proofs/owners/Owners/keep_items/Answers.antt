use Rattle.std.proofs.Common.{◌<◌, length, arith}
use Rattle.std.proofs.lemmas.List.{take_more}
use Rattle.calls_of.specs.Bodies.{owned_in_item}
use Rattle.calls_of.specs.Owners.{owner_at}
use Rattle.calls_of.proofs.OwnerLemmas.{grew-items}
use Rattle.calls_of.proofs.owners.Owners.keep_items.Goals as goal

pub loop-item-preserved : goal.loop-item-preserved
loop-item-preserved c =
    let items = c.args.items.now in
    let within : c.loop-item.item-index < length items = omega (arith, c.loop-item-test.true) in
    grew-items (owned_in_item c.args.toks.now) items c.loop-item.item-index _ (owner_at c.args.self.now.names) (owner_at c.loop-item.self.names) (owner_at c.keep_item.new.self.names)
    (take_more items c.loop-item.item-index _ within) c.loop-item.invariant c.in_ok-keep_item.ensures
