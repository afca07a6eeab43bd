use Rattle.std.proofs.Common.{nat_le, rules}
use Rattle.std.proofs.lemmas.List.Sorted.{IsPartitionPoint-from_clause, IsPartitionedBy-leb}
use Rattle.analysis.specs.Below.unit_steps.declared.events.Reached.{Reached}
use Rattle.template_rules.proofs.HalvingLemmas.{count_cut}
use Rattle.template_rules.proofs.run_list.run_by_halves.Goals as goal

pub returns : goal.returns
returns c =
    count_cut (λ (r : Reached). nat_le r.before c.args.k) c.args.reached.now c.partition_point.result c.partition_point.ensures.bound
    (IsPartitionPoint-from_clause (λ (r : Reached). nat_le r.before c.args.k) _ _ c.partition_point.ensures.partitioned
    (IsPartitionedBy-leb (λ (r : Reached). r.before) c.args.reached.now c.args.k c.requires) (λ a r f k. search rules))
