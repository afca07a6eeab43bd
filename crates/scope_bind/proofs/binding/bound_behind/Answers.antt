use Rattle.std.proofs.Common.{sym}
use Rattle.c99_tree.specs.Joined.{joined}
use Rattle.c_types.specs.Faults.{fault_of}
use Rattle.scope_bind.proofs.BoundLemmas.{answer-fault}
use Rattle.scope_bind.proofs.binding.bound_behind.Goals as goal

pub returns-in-Some : goal.returns-in-Some
returns-in-Some c =
    answer-fault (joined c.args.front.now.under c.args.rest.now.under) c.args.facts.now.facts (fault_of c.refusal.result) c.in-Some.fault c.refusal.ensures (sym c.in-Some.ensures)
