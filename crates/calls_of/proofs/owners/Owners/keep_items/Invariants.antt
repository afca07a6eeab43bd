use Rattle.std.proofs.Common.{take}
use Rattle.std.specs.List.{flat_map}
use Rattle.calls_of.specs.Bodies.{owned_in_item}
use Rattle.calls_of.specs.Owners.{owner_at, Grew}
use Rattle.calls_of.proofs.owners.Owners.keep_items.Given as goal

abbrev pub invariant-loop-item : goal.invariant-loop-item
invariant-loop-item l =
    Grew (flat_map (owned_in_item l.toks) (take l.item-index l.items)) (owner_at l.initial.self.names) (owner_at l.self.names)
