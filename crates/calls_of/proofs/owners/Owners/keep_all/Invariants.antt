use Rattle.std.proofs.Common.{map, take}
use Rattle.calls_of.specs.Bodies.{owned}
use Rattle.calls_of.specs.Owners.{owner_at, Grew}
use Rattle.calls_of.proofs.owners.Owners.keep_all.Given as goal

abbrev pub invariant-loop-tok : goal.invariant-loop-tok
invariant-loop-tok l =
    Grew (map (owned l.name) (take l.tok-index l.toks)) (owner_at l.initial.self.names) (owner_at l.self.names)
