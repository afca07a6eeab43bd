use Rattle.std.proofs.Common.{◌≡◌, length}
use Rattle.analysis.proofs.fronts.copies.Given as goal

-- so many are copied
abbrev pub invariant-tokens : goal.invariant-tokens
invariant-tokens l = length l.copied.items ≡ l.k
