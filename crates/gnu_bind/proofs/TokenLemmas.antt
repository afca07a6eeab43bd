-- The first token among some children, one child after another.
use Rattle.std.proofs.Common.{ℕ, zero, suc, ◌≡◌, Option, None, Some, refl, sym, ap, ◌∙◌}
use Rattle.std.specs.Prelude.{unwrap_or}
use Rattle.c99_tree.specs.Tree.{Forest, none, token, node}
use Rattle.c_types.specs.Children.{from_child}
use Rattle.c_types.specs.Trees.{first_token}
use Rattle.c_types.specs.Shapes.{leading_token}

first-step : (d : ℕ) (f : Forest) (k : ℕ) → first_token (from_child k f) d ≡ unwrap_or (leading_token (from_child k f)) (first_token (from_child (suc k) f) d)
first-step d none zero = refl
first-step d none (suc k) = refl
first-step d (token i rest) zero = refl
first-step d (node l first under rest) zero = refl
first-step d (token i rest) (suc k) = first-step d rest k
first-step d (node l first under rest) (suc k) = first-step d rest k

pub found-yes : (here whole rest : ℕ) (o : Option ℕ) (x : ℕ) → here ≡ whole → here ≡ unwrap_or o rest → o ≡ Some x → x ≡ whole
found-yes here whole rest o x kept step is = sym (step ∙ ap (λ p. unwrap_or p rest) is) ∙ kept

pub found-no : (here whole rest : ℕ) (o : Option ℕ) → here ≡ whole → here ≡ unwrap_or o rest → o ≡ None → rest ≡ whole
found-no here whole rest o kept step is = sym (step ∙ ap (λ p. unwrap_or p rest) is) ∙ kept
