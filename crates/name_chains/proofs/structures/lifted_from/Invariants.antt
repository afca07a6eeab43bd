use Rattle.name_chains.specs.Members.{is_found_in, lifted}
use Rattle.name_chains.proofs.LiftLemmas.{Lifting}
use Rattle.name_chains.proofs.structures.lifted_from.Given as goal

abbrev pub invariant-chain : goal.invariant-chain
invariant-chain l = Lifting (is_found_in l.number) (lifted l.owner) l.declared l.all.items l.place

abbrev pub decreases-chain : goal.decreases-chain
decreases-chain l = l.place
