use Rattle.unused_names.specs.Spans.{AreSpans}
use Rattle.unused_names.proofs.spans.spans.Given as goal

abbrev pub invariant-loop-k : goal.invariant-loop-k
invariant-loop-k l = AreSpans l.bound.names l.k l.spans.items
