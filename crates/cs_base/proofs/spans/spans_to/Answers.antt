use Rattle.std.proofs.Common.{nat_le, rules}
use Rattle.std.proofs.lemmas.List.Sorted.{IsPartitionPoint-from_clause}
use Rattle.cs_base.proofs.SpanLemmas.{AreSpans-partitioned}
use Rattle.cs_base.proofs.spans.spans_to.Goals as goal

pub returns-clause-found : goal.returns-clause-found
returns-clause-found c =
    IsPartitionPoint-from_clause (λ s. nat_le s.from c.args.k) _ _ c.partition_point.ensures.partitioned
    (AreSpans-partitioned c.args.len c.args.k c.args.spans.now c.requires) (λ a r f k. search rules)
