-- Places behind which others are put that tell nothing.
use Rattle.std.proofs.Common.{ℕ, zero, suc, ◌≤◌, ◌≡◌, ◌⊎◌, inl, inr, List, [], ◌∷◌, ◌++◌, length, get_or, take, refl, ◌∙◌, ap}
use Rattle.std.specs.List.{AllByRecursion, AllClonesOf, AppendsClonesOf}
use Rattle.std.proofs.lemmas.List.{take_all}

is_zero : (y : ℕ) → (y ≡ 0) ⊎ (y ≡ 0) → y ≡ 0
is_zero y (inl e) = e
is_zero y (inr e) = e

-- a list of zeros tells 0 everywhere
zeros : (ys : List ℕ) → AllClonesOf (λ x y. y ≡ x) 0 ys → (k : ℕ) → get_or ys k 0 ≡ 0
zeros [] all k = refl
zeros (y ∷ ys) (own, all) zero = is_zero y own
zeros (y ∷ ys) (own, all) (suc k) = zeros ys all k

behind : (old ys : List ℕ) → AllClonesOf (λ x y. y ≡ x) 0 ys → (k : ℕ) → get_or (old ++ ys) k 0 ≡ get_or old k 0
behind [] ys all k = zeros ys all k
behind (x ∷ old) ys all zero = refl
behind (x ∷ old) ys all (suc k) = behind old ys all k

pub tells_same : (old new : List ℕ) (n : ℕ) → length old ≤ n → AppendsClonesOf (λ x y. y ≡ x) (take n old) new 0
    → (k : ℕ) → get_or new k 0 ≡ get_or old k 0
tells_same old new n within (ys, made, all) k =
    ap (λ l. get_or l k 0) made ∙ behind (take n old) ys all k ∙ ap (λ l. get_or l k 0) (take_all n old within)
