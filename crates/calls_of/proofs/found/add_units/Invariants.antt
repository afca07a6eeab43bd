use Rattle.std.proofs.Common.{◌≡◌, ◌++◌, drop}
use Rattle.calls_of.specs.Calls.{calls_in_unit, in_units}
use Rattle.calls_of.specs.Graphs.{nodes_in_unit}
use Rattle.calls_of.proofs.found.add_units.Given as goal

abbrev pub invariant-loop-i : goal.invariant-loop-i
invariant-loop-i l =
    (l.calls.items ++ in_units (calls_in_unit l.a.value) (drop l.i l.units) (drop l.i l.all)
    ≡ l.initial.calls.items ++ in_units (calls_in_unit l.a.value) l.units l.all)
    × (l.nodes.items ++ in_units (nodes_in_unit l.a.value) (drop l.i l.units) (drop l.i l.all)
    ≡ l.initial.nodes.items ++ in_units (nodes_in_unit l.a.value) l.units l.all)
