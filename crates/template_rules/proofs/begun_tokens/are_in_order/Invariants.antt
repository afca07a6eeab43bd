use Rattle.std.proofs.Common.{◌≡◌, true, ◌+◌, ◌<◌, ℕ, get_or}
use Rattle.std.specs.Prelude.{nat_le}
use Rattle.cs_base.specs.Token.{Token}
use Rattle.template_rules.proofs.begun_tokens.are_in_order.Given as goal

abbrev pub invariant-loop-k : goal.invariant-loop-k
invariant-loop-k l = (k : ℕ) (d : Token) → k + 1 < l.k → nat_le (get_or l.toks k d).at.at (get_or l.toks (k + 1) d).at.at ≡ true
