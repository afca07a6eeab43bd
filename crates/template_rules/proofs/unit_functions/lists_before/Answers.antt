use Rattle.std.proofs.Common.{◌≡◌, ◌<◌, ◌≤◌, true, false, get_or, arith, rules}
use Rattle.std.specs.Prelude.{nat_lt}
use Rattle.std.proofs.lemmas.Bool.Decides.{nat_tests}
use Rattle.std.proofs.lemmas.List.Sorted.{IsPartitionPoint-from_clause, IsPartitionedBy-ltb}
use Rattle.std.proofs.lemmas.Option.{get_or_from_slice_get, slice_get_within}
use Rattle.template_rules.specs.ListPlaces.{name_number}
use Rattle.template_rules.proofs.unit_functions.lists_before.Goals as goal

pub returns-clause-lower : goal.returns-clause-lower
returns-clause-lower c i l at less =
    let cut = IsPartitionPoint-from_clause (λ m. nat_lt (name_number c.args.toks.now m.now) c.args.number) _ _ c.partition_point.ensures.partitioned
    (IsPartitionedBy-ltb (λ m. name_number c.args.toks.now m.now) c.args.lists.now c.args.number c.requires) (λ a r f k. search rules) in
    let it : get_or c.args.lists.now i l ≡ l = get_or_from_slice_get c.args.lists.now i l l at in
    let lower : nat_lt (name_number c.args.toks.now l.now) c.args.number ≡ true = rw it at (cut.0 i l (omega arith) less) in
    grind (arith, nat_tests)

pub returns-clause-others : goal.returns-clause-others
returns-clause-others c i l at on =
    let cut = IsPartitionPoint-from_clause (λ m. nat_lt (name_number c.args.toks.now m.now) c.args.number) _ _ c.partition_point.ensures.partitioned
    (IsPartitionedBy-ltb (λ m. name_number c.args.toks.now m.now) c.args.lists.now c.args.number c.requires) (λ a r f k. search rules) in
    let it : get_or c.args.lists.now i l ≡ l = get_or_from_slice_get c.args.lists.now i l l at in
    let other : nat_lt (name_number c.args.toks.now l.now) c.args.number ≡ false = rw it at (cut.1 i l on (slice_get_within c.args.lists.now i l at)) in
    grind (arith, nat_tests)
