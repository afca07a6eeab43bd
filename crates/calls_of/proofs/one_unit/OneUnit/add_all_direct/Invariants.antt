use Rattle.std.proofs.Common.{◌≡◌, ◌++◌, drop}
use Rattle.std.specs.List.{flat_map}
use Rattle.calls_of.specs.InUnits.{direct_call}
use Rattle.calls_of.proofs.one_unit.OneUnit.add_all_direct.Given as goal

abbrev pub invariant-loop-list : goal.invariant-loop-list
invariant-loop-list l =
    l.calls.items ++ flat_map (direct_call l.known l.self) (drop l.list-index l.lists) ≡ l.initial.calls.items ++ flat_map (direct_call l.known l.self) l.lists
