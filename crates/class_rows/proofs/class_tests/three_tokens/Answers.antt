use Rattle.std.proofs.Common.{refl, sym, inl, inr, arith, subst}
use Rattle.eclass_map.specs.ClassTable.{Table, IsFree, part_of_file}
use Rattle.eclass_map.proofs.CallerFacts.{free_apart, free_empty}
use Rattle.class_rows.proofs.class_tests.three_tokens.Goals as goal

pub add_token-requires-3-clause-free : goal.add_token-requires-3-clause-free
add_token-requires-3-clause-free c =
    let P : Table → Type 0 = λ v. IsFree v (part_of_file 1 8 1) in
    free_apart (part_of_file 1 5 1) (part_of_file 1 8 1) _ _ c.in_ok-add_token-2.ensures.added
    (free_apart (part_of_file 1 0 2) (part_of_file 1 8 1) _ _ c.in_ok-add_token.ensures.added
    (subst P (sym c.new-classes.ensures.exact) (free_empty (part_of_file 1 8 1))) (inl (inr (refl, omega arith))))
    (inl (inr (refl, omega arith)))
