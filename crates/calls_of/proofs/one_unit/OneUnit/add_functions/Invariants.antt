use Rattle.std.proofs.Common.{◌≡◌, ◌++◌}
use Rattle.std.specs.List.{flat_map, range_with_len}
use Rattle.calls_of.specs.InUnits.{function_named}
use Rattle.calls_of.proofs.one_unit.OneUnit.add_functions.Given as goal

abbrev pub invariant-loop-k : goal.invariant-loop-k
invariant-loop-k l =
    l.nodes.items ≡ l.initial.nodes.items ++ flat_map (function_named l.known l.self) (range_with_len 0 l.k)
