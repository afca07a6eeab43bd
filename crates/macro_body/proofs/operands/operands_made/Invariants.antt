use Rattle.std.proofs.Common.{◌≡◌, drop}
use Rattle.macro_body.specs.Substitution.{is_alone, operands_made}
use Rattle.macro_body.specs.Costs.{arguments}
use Rattle.macro_body.specs.Kept.{made_kept}
use Rattle.macro_body.proofs.MakingLemmas.{behind}
use Rattle.macro_body.proofs.operands.operands_made.Given as goal

abbrev pub invariant-loop-part : goal.invariant-loop-part
invariant-loop-part l =
    made_kept l.initial.notes (operands_made l.name (arguments l.raw l.full) (is_alone l.chain) l.chain)
    ≡ behind l.operands.items l.notes (operands_made l.name (arguments l.raw l.full) (is_alone l.chain) (drop l.part-index l.chain))
