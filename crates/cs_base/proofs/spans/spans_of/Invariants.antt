use Rattle.std.proofs.Common.{◌≡◌, take}
use Rattle.cs_base.specs.Spans.{AreSpans, origins_by}
use Rattle.cs_base.proofs.spans.spans_of.Given as goal

abbrev pub invariant-loop-k : goal.invariant-loop-k
invariant-loop-k l = (origins_by l.k l.spans.items ≡ take l.k l.origins) × AreSpans l.k l.spans.items
