-- Lists whose elements stand at places that rise, one behind another.
use Rattle.std.proofs.Common.{ℕ, ◌+◌, ◌<◌, ◌≤◌, Bool, true, false, List, [], ◌∷◌, ◌++◌, cond, arith}
use Rattle.std.specs.Prelude.{filter, All, AllPairs}
use Rattle.std.proofs.lemmas.List.Elements.{All-nil, All-cons, All-weaker}
use Rattle.std.proofs.lemmas.List.Kept.{AllPairs-cons}
use Rattle.c_types.specs.declared.lists.Range.{Range}
use Rattle.tree_laws.specs.BoundNames.{IsBody}

pub pairs_none : {X : Type 0} (Q : X → X → Type 0) → AllPairs Q []
pairs_none Q i j d before within = absurd (omega arith)

-- ---- Each at a place of its own

-- the places rise from low on and stay below high
abbrev pub Climbs : {X : Type 0} → (X → ℕ) → ℕ → ℕ → List X → Type 0
Climbs at low high [] = low ≤ high
Climbs at low high (x ∷ xs) = (low ≤ at x) × Climbs at (at x + 1) high xs

pub climbs_lower : {X : Type 0} (at : X → ℕ) (lower low high : ℕ) (xs : List X) → lower ≤ low → Climbs at low high xs → Climbs at lower high xs
climbs_lower at lower low high [] less h = omega arith
climbs_lower at lower low high (x ∷ xs) less h = (omega (arith, h.0), h.1)

pub climbs_append : {X : Type 0} (at : X → ℕ) (low middle high : ℕ) (xs ys : List X) → Climbs at low middle xs → Climbs at middle high ys → Climbs at low high (xs ++ ys)
climbs_append at low middle high [] ys h k = climbs_lower at low middle high ys h k
climbs_append at low middle high (x ∷ xs) ys h k = (h.0, climbs_append at (at x + 1) middle high xs ys h.1 k)

filter_case : {X : Type 0} (at : X → ℕ) (low high : ℕ) (c : Bool) (x : X) (xs : List X) → low ≤ at x → Climbs at (at x + 1) high xs
    → Climbs at low high (cond c (x ∷ xs) xs)
filter_case at low high true x xs less h = (less, h)
filter_case at low high false x xs less h = climbs_lower at low (at x + 1) high xs (omega arith) h

pub climbs_filter : {X : Type 0} (at : X → ℕ) (low high : ℕ) (p : X → Bool) (xs : List X) → Climbs at low high xs → Climbs at low high (filter p xs)
climbs_filter at low high p [] h = h
climbs_filter at low high p (x ∷ xs) h = filter_case at low high (p x) x (filter p xs) h.0 (climbs_filter at (at x + 1) high p xs h.1)

climbs_above : {X : Type 0} (at : X → ℕ) (low high : ℕ) (xs : List X) → Climbs at low high xs → All (λ (x : X). low ≤ at x) xs
climbs_above {X} at low high [] h = All-nil (λ (x : X). low ≤ at x)
climbs_above {X} at low high (x ∷ xs) h =
    All-cons (λ (y : X). low ≤ at y) x xs h.0
    (All-weaker (λ (y : X). at x + 1 ≤ at y) (λ (y : X). low ≤ at y) (λ y above. omega (arith, above, h.0)) xs (climbs_above at (at x + 1) high xs h.1))

pub climbs_pairs : {X : Type 0} (at : X → ℕ) (low high : ℕ) (xs : List X) → Climbs at low high xs → AllPairs (λ (x y : X). at x < at y) xs
climbs_pairs {X} at low high [] h = pairs_none (λ (x y : X). at x < at y)
climbs_pairs {X} at low high (x ∷ xs) h =
    AllPairs-cons (λ (y z : X). at y < at z) x xs
    (All-weaker (λ (y : X). at x + 1 ≤ at y) (λ (y : X). at x < at y) (λ y above. omega (arith, above)) xs (climbs_above at (at x + 1) high xs h.1))
    (climbs_pairs at (at x + 1) high xs h.1)

-- ---- Ranges behind their names

-- name and range rise from low on and stay below high
abbrev pub Laid : ℕ → ℕ → List Range → Type 0
Laid low high [] = low ≤ high
Laid low high (r ∷ rs) = (low ≤ r.name) × (r.name < r.from) × (r.from ≤ r.to) × Laid (r.to + 1) high rs

laid_lower : (lower low high : ℕ) (rs : List Range) → lower ≤ low → Laid low high rs → Laid lower high rs
laid_lower lower low high [] less h = omega arith
laid_lower lower low high (r ∷ rs) less h = (omega (arith, h.0), h.1, h.2, h.3)

pub laid_append : (low middle high : ℕ) (rs ss : List Range) → Laid low middle rs → Laid middle high ss → Laid low high (rs ++ ss)
laid_append low middle high [] ss h k = laid_lower low middle high ss h k
laid_append low middle high (r ∷ rs) ss h k = (h.0, h.1, h.2, laid_append (r.to + 1) middle high rs ss h.3 k)

laid_within : (low high : ℕ) (rs : List Range) → Laid low high rs → low ≤ high
laid_within low high [] h = h
laid_within low high (r ∷ rs) h = omega (arith, h.0, h.1, h.2, laid_within (r.to + 1) high rs h.3)

laid_above : (low high : ℕ) (rs : List Range) → Laid low high rs → All (λ (r : Range). low ≤ r.name) rs
laid_above low high [] h = All-nil (λ (r : Range). low ≤ r.name)
laid_above low high (r ∷ rs) h =
    All-cons (λ (s : Range). low ≤ s.name) r rs h.0
    (All-weaker (λ (s : Range). r.to + 1 ≤ s.name) (λ (s : Range). low ≤ s.name) (λ s above. omega (arith, above, h.0, h.1, h.2)) rs (laid_above (r.to + 1) high rs h.3))

pub laid_pairs : (low high : ℕ) (rs : List Range) → Laid low high rs → AllPairs (λ (r s : Range). r.to < s.name) rs
laid_pairs low high [] h = pairs_none (λ (r s : Range). r.to < s.name)
laid_pairs low high (r ∷ rs) h =
    AllPairs-cons (λ (x y : Range). x.to < y.name) r rs
    (All-weaker (λ (s : Range). r.to + 1 ≤ s.name) (λ (s : Range). r.to < s.name) (λ s above. omega (arith, above)) rs (laid_above (r.to + 1) high rs h.3))
    (laid_pairs (r.to + 1) high rs h.3)

pub laid_bodies : (low high count : ℕ) (rs : List Range) → high ≤ count → Laid low high rs → All (IsBody count) rs
laid_bodies low high count [] within h = All-nil (IsBody count)
laid_bodies low high count (r ∷ rs) within h =
    All-cons (IsBody count) r rs
    (record { behind = h.1; ends = h.2; within = omega (arith, within, laid_within (r.to + 1) high rs h.3) })
    (laid_bodies (r.to + 1) high count rs within h.3)
