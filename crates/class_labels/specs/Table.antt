-- What is true of every table of labels.
use Rattle.std.specs.Prelude.{ℕ, ◌+◌, ◌≡◌, ◌<◌, ◌≤◌, ◌⊎◌, List, [], ◌∷◌, length, Some, slice_get, zero, suc}
use Rattle.class_labels.specs.declared.spots.Spot.{Spot}
use Rattle.class_labels.specs.Labels.{Labels, spot, walk_at, length_at}

-- x is an element of the list
abbrev pub In : ℕ → List ℕ → Type 0
In x [] = ⊥
In x (y ∷ ys) = (x ≡ y) ⊎ In x ys

-- no element stands twice
abbrev pub Distinct : List ℕ → Type 0
Distinct [] = Unit {0}
Distinct (x ∷ xs) = (In x xs → ⊥) × Distinct xs

-- a character at offset o of a part that begins at some x of the list
pub record Among (xs : List ℕ) (l k o : ℕ) : Type 0 where
  pub start : ℕ
  pub among : In start xs
  pub there : start + o ≡ k
  pub inside : o < l

-- the parts of class c begin at the characters of the list, and each has l characters
pub record IsClass (c l : ℕ) (xs : List ℕ) (spots : List Spot) : Type 0 where
  pub whole : (x o : ℕ) → In x xs → o < l → slice_get spots (x + o) ≡ Some (spot c o)
  pub found : (k o : ℕ) → slice_get spots k ≡ Some (spot c o) → Among xs l k o

-- how many characters begin no part
abbrev pub past_first : ℕ → ℕ
past_first zero = 0
past_first (suc o) = 1

abbrev pub inner : List Spot → ℕ
inner [] = 0
inner (s ∷ spots) = past_first s.offset + inner spots

pub record IsTable (t : Labels) : Type 0 where
  pub each : length t.lengths ≡ length t.walks
  pub some : (c : ℕ) → c < length t.walks → 1 ≤ length_at t c
  pub known : (k : ℕ) (s : Spot) → slice_get t.spots k ≡ Some s → s.class < length t.walks
  pub once : (c : ℕ) → c < length t.walks → Distinct (walk_at t c)
  -- a cut finds a number free, since there are never more numbers than parts
  pub counted : length t.walks + inner t.spots ≤ length t.spots
  pub classes : (c : ℕ) → c < length t.walks → IsClass c (length_at t c) (walk_at t c) t.spots

-- what a cut asks for
pub record IsCut (c k : ℕ) (t : Labels) : Type 0 where
  pub table : IsTable t
  pub within : c < length t.walks
  pub some : 0 < k
  pub less : k < length_at t c
  pub held : 0 < length (walk_at t c)

-- what a union asks for
pub record IsUnion (a b : ℕ) (t : Labels) : Type 0 where
  pub table : IsTable t
  pub kept : a < length t.walks
  pub lost : b < length t.walks
  pub apart : a ≡ b → ⊥
  pub level : length_at t a ≡ length_at t b

-- two classes that have parts
pub record AreClasses (c d : ℕ) (t : Labels) : Type 0 where
  pub table : IsTable t
  pub first : c < length t.walks
  pub second : d < length t.walks
  pub first_held : 0 < length (walk_at t c)
  pub second_held : 0 < length (walk_at t d)
