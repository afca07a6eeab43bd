-- Where a join stands: what is so before each of its steps.
use Rattle.std.specs.Prelude.{ℕ, ◌≡◌, ◌≤◌, ◌⊎◌, List, length, Some, slice_get}
use Rattle.class_labels.specs.declared.spots.Spot.{Spot}
use Rattle.class_labels.specs.Chain.{Chain}
use Rattle.class_labels.specs.Labels.{Labels, spot}
use Rattle.class_labels.specs.Table.{IsTable}
use Rattle.class_labels.specs.Runs.{Runs, BeginsAt, IsPair}

-- What stays true while a join goes on. R is what the whole join forces, and `Begins` tells which characters begin a token.
pub record Walk (Begins : ℕ → Type 0) (R : ℕ → ℕ → Type 0) (t : Labels) : Type 0 where
  pub table : IsTable t
  pub opens : (i : ℕ) (s : Spot) → Begins i → slice_get t.spots i ≡ Some s → s.offset ≡ 0
  pub least : (p q : ℕ) (s : Spot) → slice_get t.spots p ≡ Some s → slice_get t.spots q ≡ Some s → Chain R p q
  pub opened : (i c : ℕ) → slice_get t.spots i ≡ Some (spot c 0) → (j : ℕ) × Begins j × Chain R i j

-- alike before, or at equal places of the two lists
abbrev pub Forced : List ℕ → List ℕ → Labels → ℕ → ℕ → Type 0
Forced xs ys t p q = (slice_get t.spots p ≡ slice_get t.spots q) ⊎ IsPair xs ys p q

-- what a join begins with, from any of its steps on
pub record AtPlace (Begins : ℕ → Type 0) (R : ℕ → ℕ → Type 0) (n skip : ℕ) (xs ys : List ℕ) (t : Labels) : Type 0 where
  pub walk : Walk Begins R t
  pub long : n ≡ length t.spots
  pub even : length xs ≡ length ys
  pub first : Runs Begins n xs
  pub second : Runs Begins n ys
  pub linked : (k p q : ℕ) → skip ≤ k → slice_get xs k ≡ Some p → slice_get ys k ≡ Some q → R p q
  pub begins_x : BeginsAt t xs skip
  pub begins_y : BeginsAt t ys skip
