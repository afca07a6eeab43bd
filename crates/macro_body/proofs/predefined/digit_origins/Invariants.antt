use Rattle.std.proofs.Common.{◌≡◌}
use Rattle.macro_body.specs.Substitution.{digit_origins}
use Rattle.macro_body.proofs.predefined.digit_origins.Given as goal

abbrev pub invariant-loop-k : goal.invariant-loop-k
invariant-loop-k l = l.origins.items ≡ digit_origins l.at l.k
