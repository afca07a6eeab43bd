use Rattle.std.proofs.Common.{sym, rules}
use Rattle.std.specs.Prelude.{nat_lt}
use Rattle.std.proofs.lemmas.List.Sorted.{IsPartitionPoint-from_clause, IsPartitionedBy-ltb}
use Rattle.c_types.specs.declared.lists.List.{List as NameList}
use Rattle.template_rules.proofs.CalleeLemmas.{called_from, none_called}
use Rattle.template_rules.proofs.callees.by_halves.Goals as goal

pub returns-then-at-calls : goal.returns-then-at-calls
returns-then-at-calls c =
    let cut = IsPartitionPoint-from_clause (λ (l : NameList). nat_lt l.name c.args.k) _ _ c.partition_point-at.ensures.partitioned
    (IsPartitionedBy-ltb (λ (l : NameList). l.name) c.args.calls.now c.args.k c.requires) (λ a r f k. search rules) in
    sym (none_called c.args.calls.now c.args.k c.partition_point-at.result cut c.if-at-calls.true)

pub returns : goal.returns
returns c =
    let cut = IsPartitionPoint-from_clause (λ (l : NameList). nat_lt l.name c.args.k) _ _ c.partition_point-at.ensures.partitioned
    (IsPartitionedBy-ltb (λ (l : NameList). l.name) c.args.calls.now c.args.k c.requires) (λ a r f k. search rules) in
    called_from c.args.calls.now c.args.k c.partition_point-at.result cut c.requires c.index-calls-at.result c.if-at-calls.false
