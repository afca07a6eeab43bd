use Rattle.std.proofs.Common.{◌≡◌, ◌≤◌, length, drop}
use Rattle.query_words.specs.Patterns.{matches}
use Rattle.query_words.proofs.patterns.is_match.Given as goal

abbrev pub invariant-loop-k : goal.invariant-loop-k
invariant-loop-k l = record {
  rest : matches (drop l.k l.pattern) (drop l.k l.text) ≡ matches l.pattern l.text;
  within : l.k ≤ length l.text;
}
