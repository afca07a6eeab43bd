use Rattle.std.proofs.Common.{◌≡◌, List, ℕ, [], Bool, sym, rules, arith}
use Rattle.std.specs.Prelude.{nat_lt}
use Rattle.std.proofs.lemmas.List.Sorted.{IsPartitionPoint-from_clause, IsPartitionedBy-ltb}
use Rattle.std.proofs.lemmas.List.Sums.{prefix_len_is}
use Rattle.template_rules.specs.FileLists.{begin_of}
use Rattle.template_rules.proofs.file_lists.place_for.Goals as goal

pub returns : goal.returns
returns c =
    let at = c.args.at in
    let lists = c.args.lists.now in
    let n = c.partition_point.result in
    let bound = c.partition_point.ensures.bound in
    let cut = IsPartitionPoint-from_clause (λ (m : List ℕ). nat_lt (begin_of m) at) _ _ c.partition_point.ensures.partitioned
    (IsPartitionedBy-ltb begin_of lists at c.requires) (λ a r f k. search rules) in
    sym (prefix_len_is (λ (m : List ℕ). nat_lt (begin_of m) at) lists n [] bound
    (λ k less. cut.0 k [] (omega (arith, less, bound)) less) (λ within. cut.1 n [] (omega arith) within))
