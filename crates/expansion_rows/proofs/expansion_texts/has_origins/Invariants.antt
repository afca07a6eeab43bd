use Rattle.std.proofs.Common.{◌≡◌, ℕ, ◌<◌, true, is_some}
use Rattle.cs_base.specs.Token.{origin_at}
use Rattle.expansion_rows.proofs.expansion_texts.has_origins.Given as goal

abbrev pub invariant-loop-k : goal.invariant-loop-k
invariant-loop-k l = (j : ℕ) → j < l.k → is_some (origin_at l.tok j) ≡ true
