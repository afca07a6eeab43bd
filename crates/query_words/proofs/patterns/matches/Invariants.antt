use Rattle.std.proofs.Common.{drop}
use Rattle.query_words.specs.PlaceMarks.{AreAtEnd}
use Rattle.query_words.proofs.patterns.matches.Given as goal

abbrev pub invariant-loop-k : goal.invariant-loop-k
invariant-loop-k l = AreAtEnd l.pattern (drop l.k l.text) l.places
