-- The children of a tree as a list and as a forest.
use Rattle.std.proofs.Common.{ℕ, zero, suc, ◌≡◌, ◌+◌, ◌-◌, ◌<◌, ◌≤◌, Bool, true, false, List, [], ◌∷◌, ◌++◌, length, get_or, None, Some, refl, ap, subst, ◌∙◌, arith}
use Rattle.std.proofs.lemmas.Bool.{false≢true}
use Rattle.c99_tree.specs.Tree.{token, node, put, count_of, part_at}
use Rattle.c99_tree.specs.Children.{part_of, forest_of, led, led_count}
use Rattle.c99_tree.specs.declared.tree.Branch.{Branch}
use Rattle.c99_tree.specs.declared.tree.Branch.TheVariants.{Token, Inner}

pub count_of-forest_of : (kids : List Branch) → count_of (forest_of kids) ≡ length kids
count_of-forest_of [] = refl
count_of-forest_of (Token i ∷ kids) = omega (arith, count_of-forest_of kids)
count_of-forest_of (Inner t ∷ kids) = omega (arith, count_of-forest_of kids)

pub forest_of-push : (kids : List Branch) (b : Branch) → forest_of (kids ++ b ∷ []) ≡ put (forest_of kids) (part_of b)
forest_of-push [] (Token i) = refl
forest_of-push [] (Inner t) = refl
forest_of-push (Token i ∷ kids) b = ap (token i) (forest_of-push kids b)
forest_of-push (Inner t ∷ kids) b = ap (node t.label t.first t.under) (forest_of-push kids b)

pub part_at-some : (kids : List Branch) (k : ℕ) (b : Branch) → k < length kids → b ≡ get_or kids k b → part_at (forest_of kids) k ≡ Some (part_of b)
part_at-some [] k b within found = absurd (omega arith)
part_at-some (Token i ∷ kids) zero b within found = rw found refl
part_at-some (Inner t ∷ kids) zero b within found = rw found refl
part_at-some (Token i ∷ kids) (suc k) b within found = part_at-some kids k b (omega arith) found
part_at-some (Inner t ∷ kids) (suc k) b within found = part_at-some kids k b (omega arith) found

pub part_at-none : (kids : List Branch) (k : ℕ) → length kids ≤ k → part_at (forest_of kids) k ≡ None
part_at-none [] k past = refl
part_at-none (b ∷ kids) zero past = absurd (omega arith)
part_at-none (Token i ∷ kids) (suc k) past = part_at-none kids k (omega arith)
part_at-none (Inner t ∷ kids) (suc k) past = part_at-none kids k (omega arith)

-- ---- With a token that may lead them

pub count_of-led : (leads : Bool) (first : ℕ) (kids : List Branch) → leads ≡ true → count_of (led leads first (forest_of kids)) ≡ length kids + 1
count_of-led true first kids on = omega (arith, count_of-forest_of kids)
count_of-led false first kids on = absurd (false≢true on)

pub count_of-plain : (leads : Bool) (first : ℕ) (kids : List Branch) → leads ≡ false → count_of (led leads first (forest_of kids)) ≡ length kids
count_of-plain leads first kids off = ap (λ b. count_of (led b first (forest_of kids))) off ∙ count_of-forest_of kids

pub led_count-on : (leads : Bool) (n m : ℕ) → leads ≡ true → led_count leads n < m → n + 1 < m
led_count-on leads n m on few = subst (λ b. led_count b n < m) on few

pub led-push : (leads : Bool) (first : ℕ) (kids : List Branch) (b : Branch)
    → led leads first (forest_of (kids ++ b ∷ [])) ≡ put (led leads first (forest_of kids)) (part_of b)
led-push true first kids b = ap (token first) (forest_of-push kids b)
led-push false first kids b = forest_of-push kids b
