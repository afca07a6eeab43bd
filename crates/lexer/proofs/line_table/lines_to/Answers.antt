use Rattle.std.proofs.Common.{nat_le, rules}
use Rattle.std.proofs.lemmas.List.Sorted.{IsPartitionPoint-from_clause}
use Rattle.lexer.proofs.LineLemmas.{IsTable-partitioned}
use Rattle.lexer.proofs.line_table.lines_to.Goals as goal

pub returns-clause-found : goal.returns-clause-found
returns-clause-found c =
    IsPartitionPoint-from_clause (λ s. nat_le s c.args.at) _ _ c.partition_point.ensures.partitioned
    (IsTable-partitioned c.args.starts.now c.args.at c.args.len c.requires) (λ a r f k. search rules)
