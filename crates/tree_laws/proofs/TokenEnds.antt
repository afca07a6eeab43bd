-- Facts on the first and the last tokens of trees.
use Rattle.std.proofs.Common.{Bool, List, [], ap, arith, inl, inr, refl, true, ℕ, ◌∙◌, ◌∷◌, ◌≡◌, ◌≤◌}
use Rattle.std.proofs.lemmas.Bool.{false≢true, or_left, or_right}
use Rattle.std.specs.List.{list_any}
use Rattle.c_types.specs.Trees.{last_token}
use Rattle.tree_laws.specs.TreesOfTexts.{begins_with_token, token_count}
use Rattle.tree_laws.proofs.Lookups.{In}
use Rattle.c99_tree.specs.Tree.{Forest, node, none, token}

pub last_none : (f : Forest) (k : ℕ) → token_count f ≡ 0 → last_token f k ≡ k
last_none none k e = refl
last_none (token i rest) k e = absurd (omega (arith, e))
last_none (node l first under rest) k e = last_none rest (last_token under k) (omega (arith, e)) ∙ last_none under k (omega (arith, e))

pub begins_some : (f : Forest) → begins_with_token f ≡ true → 1 ≤ token_count f
begins_some none e = absurd (false≢true e)
begins_some (token i rest) e = omega arith
begins_some (node l first under rest) e = absurd (false≢true e)

pub any_of : {X : Type 0} (test : X → Bool) (xs : List X) (x : X) → In x xs → test x ≡ true → list_any test xs ≡ true
any_of test [] x i h = absurd i
any_of test (y ∷ xs) x (inl e) h = or_left (test y) (list_any test xs) (ap test e ∙ h)
any_of test (y ∷ xs) x (inr i) h = or_right (test y) (list_any test xs) (any_of test xs x i h)
