use Rattle.std.proofs.Common.{◌+◌, ◌≤◌, refl, sym, inl, inr, arith, subst}
use Rattle.cs_base.specs.declared.positions.Part.{Part}
use Rattle.eclass_map.specs.ClassTable.{Table, IsAdded, IsFree, part_of_file}
use Rattle.eclass_map.proofs.CallerFacts.{free_apart, free_empty, near_added, near_empty}
use Rattle.class_rows.proofs.class_tests.short_tokens.Goals as goal

pub add_token-requires-3-clause-free : goal.add_token-requires-3-clause-free
add_token-requires-3-clause-free c =
    let P : Table → Type 0 = λ v. IsFree v (part_of_file 1 4 3) in
    free_apart (part_of_file 1 2 1) (part_of_file 1 4 3) _ _ c.in_ok-add_token-2.ensures.added
    (free_apart (part_of_file 1 0 1) (part_of_file 1 4 3) _ _ c.in_ok-add_token.ensures.added
    (subst P (sym c.new-classes.ensures.exact) (free_empty (part_of_file 1 4 3))) (inl (inr (refl, omega arith))))
    (inl (inr (refl, omega arith)))

pub returns-clause-near : goal.returns-clause-near
returns-clause-near c =
    let P : Table → Type 0 = λ v. (other : Part) → IsAdded v other → other.start.at + other.len ≤ 7 in
    near_added (part_of_file 1 4 3) _ _ 7 c.in_ok-add_token-3.ensures.added
    (near_added (part_of_file 1 2 1) _ _ 7 c.in_ok-add_token-2.ensures.added
    (near_added (part_of_file 1 0 1) _ _ 7 c.in_ok-add_token.ensures.added (subst P (sym c.new-classes.ensures.exact) (near_empty 7)) (omega arith))
    (omega arith))
    (omega arith)
