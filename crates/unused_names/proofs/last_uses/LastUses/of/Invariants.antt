use Rattle.unused_names.specs.LastUses.{last_at, AreLast}
use Rattle.unused_names.proofs.last_uses.LastUses.of.Given as goal

abbrev pub invariant-loop-k : goal.invariant-loop-k
invariant-loop-k l = AreLast l.events l.k (last_at l.uses.numbers)
