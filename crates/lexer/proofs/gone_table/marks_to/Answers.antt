use Rattle.std.proofs.Common.{nat_le, rules}
use Rattle.std.proofs.lemmas.List.Sorted.{IsPartitionPoint-from_clause, IsPartitionedBy-leb}
use Rattle.lexer.proofs.GoneLemmas.{partition-prefix}
use Rattle.lexer.proofs.gone_table.marks_to.Goals as goal

pub returns-clause-answer : goal.returns-clause-answer
returns-clause-answer c =
    partition-prefix (λ m. nat_le m c.args.at) c.args.marks.now c.partition_point.result c.partition_point.ensures.bound
    (IsPartitionPoint-from_clause (λ m. nat_le m c.args.at) _ _ c.partition_point.ensures.partitioned
    (IsPartitionedBy-leb (λ m. m) c.args.marks.now c.args.at c.requires) (λ a r f k. search rules))
