use Rattle.std.proofs.Common.{◌≡◌, ◌++◌, drop}
use Rattle.std.specs.List.{flat_map}
use Rattle.calls_of.specs.Graphs.{ends_of}
use Rattle.calls_of.proofs.found.push_ends.Given as goal

abbrev pub invariant-loop-call : goal.invariant-loop-call
invariant-loop-call l =
    l.nodes.items ++ flat_map ends_of (drop l.call-index l.calls) ≡ l.initial.nodes.items ++ flat_map ends_of l.calls
