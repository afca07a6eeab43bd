use Rattle.std.proofs.Common.{rules}
use Rattle.std.specs.Borrow.{Bor}
use Rattle.std.specs.Prelude.{nat_lt}
use Rattle.std.proofs.lemmas.List.Sorted.{IsPartitionPoint-from_clause, IsPartitionedBy-ltb}
use Rattle.c_types.specs.declared.lists.List.{List as NameList}
use Rattle.template_rules.proofs.covers.begun_before.Goals as goal

pub returns-clause-cut : goal.returns-clause-cut
returns-clause-cut c =
    IsPartitionPoint-from_clause (λ (l : Bor NameList). nat_lt l.now.begin c.args.after) _ _ c.partition_point.ensures.partitioned
    (IsPartitionedBy-ltb (λ (l : Bor NameList). l.now.begin) c.args.lists.now c.args.after c.requires) (λ a r f k. search rules)
