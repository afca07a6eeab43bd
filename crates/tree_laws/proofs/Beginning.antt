-- Before the first token of a text.
use Rattle.std.proofs.Common.{ℕ, ◌≤◌, ◌≡◌, Bool, true, false, if◌then◌else◌, List, [], ◌∷◌, ◌++◌, nat_lt, refl, sym, subst}
use Rattle.tree_laws.proofs.Private.{Declaration}
use Rattle.tree_laws.proofs.Matching.{Matches, Bounds, Within, SameOuter}

-- no name is visible
none_seen : (c : Bool) (ds : List Declaration) → ds ≡ [] → ds ≡ (if c then [] else []) ++ []
none_seen true ds e = e
none_seen false ds e = e

pub first_matches : (n : ℕ) → Matches 0 ([] ∷ []) (n ∷ []) []
first_matches n = λ k w. none_seen (nat_lt k n) [] refl

pub file_bounds : (k n : ℕ) (x : List (List Declaration)) → SameOuter ([] ∷ []) x → k ≤ n → Bounds k n x (n ∷ [])
file_bounds k n [] same h = absurd same
file_bounds k n (s ∷ x) same h = (refl, (h, subst (λ z. Within k z []) (sym same) tt))
