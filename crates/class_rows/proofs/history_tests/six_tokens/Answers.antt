use Rattle.std.proofs.Common.{refl, sym, inl, inr, arith, subst}
use Rattle.eclass_map.specs.ClassTable.{Table, IsFree, part_of_file}
use Rattle.eclass_map.proofs.CallerFacts.{free_apart, free_empty}
use Rattle.class_rows.proofs.history_tests.six_tokens.Goals as goal

pub add_token-requires-3-clause-free : goal.add_token-requires-3-clause-free
add_token-requires-3-clause-free c =
    free_apart (part_of_file 1 2 1) (part_of_file 1 4 2) _ _ c.in_ok-add_token-2.ensures.added
    (free_apart (part_of_file 1 0 1) (part_of_file 1 4 2) _ _ c.in_ok-add_token.ensures.added
    (subst (λ (v : Table). IsFree v (part_of_file 1 4 2)) (sym c.new-classes.ensures.exact) (free_empty (part_of_file 1 4 2)))
    (inl (inr (refl, omega arith))))
    (inl (inr (refl, omega arith)))

pub add_token-requires-4-clause-free : goal.add_token-requires-4-clause-free
add_token-requires-4-clause-free c =
    free_apart (part_of_file 1 4 2) (part_of_file 1 8 1) _ _ c.in_ok-add_token-3.ensures.added
    (free_apart (part_of_file 1 2 1) (part_of_file 1 8 1) _ _ c.in_ok-add_token-2.ensures.added
    (free_apart (part_of_file 1 0 1) (part_of_file 1 8 1) _ _ c.in_ok-add_token.ensures.added
    (subst (λ (v : Table). IsFree v (part_of_file 1 8 1)) (sym c.new-classes.ensures.exact) (free_empty (part_of_file 1 8 1)))
    (inl (inr (refl, omega arith))))
    (inl (inr (refl, omega arith))))
    (inl (inr (refl, omega arith)))

pub add_token-requires-5-clause-free : goal.add_token-requires-5-clause-free
add_token-requires-5-clause-free c =
    free_apart (part_of_file 1 8 1) (part_of_file 1 11 1) _ _ c.in_ok-add_token-4.ensures.added
    (free_apart (part_of_file 1 4 2) (part_of_file 1 11 1) _ _ c.in_ok-add_token-3.ensures.added
    (free_apart (part_of_file 1 2 1) (part_of_file 1 11 1) _ _ c.in_ok-add_token-2.ensures.added
    (free_apart (part_of_file 1 0 1) (part_of_file 1 11 1) _ _ c.in_ok-add_token.ensures.added
    (subst (λ (v : Table). IsFree v (part_of_file 1 11 1)) (sym c.new-classes.ensures.exact) (free_empty (part_of_file 1 11 1)))
    (inl (inr (refl, omega arith))))
    (inl (inr (refl, omega arith))))
    (inl (inr (refl, omega arith))))
    (inl (inr (refl, omega arith)))

pub add_token-requires-6-clause-free : goal.add_token-requires-6-clause-free
add_token-requires-6-clause-free c =
    free_apart (part_of_file 1 11 1) (part_of_file 1 13 1) _ _ c.in_ok-add_token-5.ensures.added
    (free_apart (part_of_file 1 8 1) (part_of_file 1 13 1) _ _ c.in_ok-add_token-4.ensures.added
    (free_apart (part_of_file 1 4 2) (part_of_file 1 13 1) _ _ c.in_ok-add_token-3.ensures.added
    (free_apart (part_of_file 1 2 1) (part_of_file 1 13 1) _ _ c.in_ok-add_token-2.ensures.added
    (free_apart (part_of_file 1 0 1) (part_of_file 1 13 1) _ _ c.in_ok-add_token.ensures.added
    (subst (λ (v : Table). IsFree v (part_of_file 1 13 1)) (sym c.new-classes.ensures.exact) (free_empty (part_of_file 1 13 1)))
    (inl (inr (refl, omega arith))))
    (inl (inr (refl, omega arith))))
    (inl (inr (refl, omega arith))))
    (inl (inr (refl, omega arith))))
    (inl (inr (refl, omega arith)))
