use Rattle.std.proofs.Common.{◌≡◌, drop}
use Rattle.macro_body.specs.Substitution.{chains_made}
use Rattle.macro_body.specs.Costs.{arguments}
use Rattle.macro_body.specs.Kept.{made_kept}
use Rattle.macro_body.proofs.MakingLemmas.{behind}
use Rattle.macro_body.proofs.operands.chains_made.Given as goal

abbrev pub invariant-loop-chain : goal.invariant-loop-chain
invariant-loop-chain l =
    made_kept l.initial.notes (chains_made l.name (arguments l.raw l.full) l.chains)
    ≡ behind l.made.items l.notes (chains_made l.name (arguments l.raw l.full) (drop l.chain-index l.chains))
