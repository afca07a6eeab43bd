use Rattle.std.proofs.Common.{nat_lt, rules}
use Rattle.std.proofs.lemmas.List.Sorted.{IsPartitionPoint-from_clause, IsPartitionedBy-ltb}
use Rattle.lexer.proofs.GoneLemmas.{partition-prefix}
use Rattle.lexer.proofs.gone_table.gone_before.Goals as goal

pub returns-clause-answer : goal.returns-clause-answer
returns-clause-answer c =
    partition-prefix (λ g. nat_lt g c.args.offset) c.args.gone.now c.partition_point.result c.partition_point.ensures.bound
    (IsPartitionPoint-from_clause (λ g. nat_lt g c.args.offset) _ _ c.partition_point.ensures.partitioned
    (IsPartitionedBy-ltb (λ g. g) c.args.gone.now c.args.offset c.requires) (λ a r f k. search rules))
