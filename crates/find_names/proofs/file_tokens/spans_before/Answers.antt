use Rattle.std.proofs.Common.{◌≡◌, ◌<◌, ◌≤◌, true, false, get_or, arith, rules}
use Rattle.std.specs.Prelude.{nat_lt}
use Rattle.std.proofs.lemmas.Bool.Decides.{nat_tests}
use Rattle.std.proofs.lemmas.List.Sorted.{IsPartitionPoint-from_clause, IsPartitionedBy-ltb}
use Rattle.std.proofs.lemmas.Option.{get_or_from_slice_get, slice_get_within}
use Rattle.find_names.specs.FileTokens.{place_number}
use Rattle.find_names.proofs.file_tokens.spans_before.Goals as goal

pub returns-clause-lower : goal.returns-clause-lower
returns-clause-lower c i p at less =
    let cut = IsPartitionPoint-from_clause (λ q. nat_lt (place_number q) c.args.number) _ _ c.partition_point.ensures.partitioned
    (IsPartitionedBy-ltb place_number c.args.spans.now c.args.number c.requires) (λ a r f k. search rules) in
    let it : get_or c.args.spans.now i p ≡ p = get_or_from_slice_get c.args.spans.now i p p at in
    let lower : nat_lt (place_number p) c.args.number ≡ true = rw it at (cut.0 i p (omega arith) less) in
    grind (arith, nat_tests)
