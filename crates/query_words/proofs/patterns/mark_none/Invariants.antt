use Rattle.std.proofs.Common.{◌≡◌, ℕ, ◌≤◌, [], false, length, drop, get_or}
use Rattle.query_words.specs.Patterns.{matches}
use Rattle.query_words.proofs.patterns.mark_none.Given as goal

abbrev pub invariant-loop-k : goal.invariant-loop-k
invariant-loop-k l = (j : ℕ) → l.k ≤ j → j ≤ length l.pattern → get_or l.places j false ≡ matches (drop j l.pattern) []
