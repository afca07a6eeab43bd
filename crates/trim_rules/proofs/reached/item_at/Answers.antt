use Rattle.std.proofs.Common.{None, Some, length, refl}
use Rattle.std.proofs.lemmas.Option.{slice_get_read, slice_get_past}
use Rattle.trim_rules.proofs.ReachedLemmas.{item-numbered}
use Rattle.trim_rules.proofs.reached.item_at.Goals as goal

pub returns-in-Some : goal.returns-in-Some
returns-in-Some c =
    let items = c.items_in.result.now in
    let item = c.in-Some.item.now in
    item-numbered c.args.file.now items c.args.k (Some item) c.items_in.ensures
    (slice_get_read items (length items) c.args.k item refl c.in-Some.ensures.lookup.3.0 c.in-Some.ensures.lookup.1)

pub returns-in-None : goal.returns-in-None
returns-in-None c =
    let items = c.items_in.result.now in
    item-numbered c.args.file.now items c.args.k None c.items_in.ensures (slice_get_past items c.args.k c.in-None.ensures.lookup.3)
