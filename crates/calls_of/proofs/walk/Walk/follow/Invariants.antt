use Rattle.std.proofs.Common.{◌≡◌, take}
use Rattle.std.specs.List.{fold}
use Rattle.calls_of.specs.Walking.{followed}
use Rattle.calls_of.proofs.walk.Walk.follow.Given as goal

abbrev pub invariant-loop-edge : goal.invariant-loop-edge
invariant-loop-edge l = l.self ≡ fold (followed l.caller) l.initial.self (take l.edge-index l.edges)
