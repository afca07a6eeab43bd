use Rattle.std.proofs.Common.{◌≡◌, ◌<◌, length, get_or, sym, ◌∙◌, rules}
use Rattle.std.specs.Prelude.{nat_lt}
use Rattle.std.proofs.lemmas.Bool.{eq-eqb, ne_eqb}
use Rattle.std.proofs.lemmas.List.{get_or_default}
use Rattle.std.proofs.lemmas.List.Sorted.{IsPartitionPoint-from_clause, IsPartitionedBy-ltb}
use Rattle.c_types.specs.declared.parameters.ParameterList.{ParameterList}
use Rattle.template_rules.proofs.ParameterLemmas.{none_of_name, of_name_here, not_of_name}
use Rattle.template_rules.proofs.unit_parameters.by_halves.Goals as goal

pub returns-then-at-lists : goal.returns-then-at-lists
returns-then-at-lists c =
    let cut = IsPartitionPoint-from_clause (λ (p : ParameterList). nat_lt p.name c.args.k) _ _ c.partition_point-at.ensures.partitioned
    (IsPartitionedBy-ltb (λ (p : ParameterList). p.name) c.args.lists.now c.args.k c.requires) (λ a r f k. search rules) in
    sym (none_of_name c.args.lists.now c.args.k c.partition_point-at.result cut c.if-at-lists.true)

pub returns-then-lists-at : goal.returns-then-lists-at
returns-then-lists-at c =
    let xs = c.args.lists.now in
    let n = c.partition_point-at.result in
    let x = c.index-lists-at.result in
    let y = c.index-lists-at-then-lists-at.result in
    let within : n < length xs = c.if-at-lists.false in
    let cut = IsPartitionPoint-from_clause (λ (p : ParameterList). nat_lt p.name c.args.k) _ _ c.partition_point-at.ensures.partitioned
    (IsPartitionedBy-ltb (λ (p : ParameterList). p.name) xs c.args.k c.requires) (λ a r f k. search rules) in
    let it : get_or xs n x ≡ y = get_or_default xs n x y within ∙ sym c.index-lists-at-then-lists-at.is in
    let named : y.name ≡ c.args.k = rw it at c.if-lists-at.true in
    sym (of_name_here xs c.args.k n cut y within c.index-lists-at-then-lists-at.is (eq-eqb y.name c.args.k named))

pub returns-else-lists-at : goal.returns-else-lists-at
returns-else-lists-at c =
    let xs = c.args.lists.now in
    let n = c.partition_point-at.result in
    let x = c.index-lists-at.result in
    let cut = IsPartitionPoint-from_clause (λ (p : ParameterList). nat_lt p.name c.args.k) _ _ c.partition_point-at.ensures.partitioned
    (IsPartitionedBy-ltb (λ (p : ParameterList). p.name) xs c.args.k c.requires) (λ a r f k. search rules) in
    let it : get_or xs n x ≡ x = sym c.index-lists-at.is in
    sym (not_of_name xs c.args.k n cut c.requires x c.if-at-lists.false c.index-lists-at.is (ne_eqb x.name c.args.k (rw it at c.if-lists-at.false)))
