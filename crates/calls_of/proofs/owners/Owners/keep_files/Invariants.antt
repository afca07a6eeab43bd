use Rattle.std.proofs.Common.{drop}
use Rattle.calls_of.specs.Bodies.{owned_from}
use Rattle.calls_of.specs.Owners.{owner_at}
use Rattle.calls_of.proofs.OwnerLemmas.{GrowsTo}
use Rattle.calls_of.proofs.owners.Owners.keep_files.Given as goal

abbrev pub invariant-loop-number : goal.invariant-loop-number
invariant-loop-number l =
    GrowsTo (owned_from l.number (drop l.number l.a.value.table)) (owned_from 0 l.a.value.table) (owner_at l.initial.self.names) (owner_at l.self.names)
