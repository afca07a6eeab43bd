use Rattle.std.proofs.Common.{◌++◌, drop}
use Rattle.query_words.specs.PlaceMarks.{MatchAlike}
use Rattle.query_words.proofs.patterns.without_doubles.Given as goal

abbrev pub invariant-loop-k : goal.invariant-loop-k
invariant-loop-k l = MatchAlike (l.found.items ++ drop l.k l.pattern) l.pattern
