-- Names with numbers: what contracts see of the private table below `Visible`.
use Rattle.std.specs.Prelude.{ℕ, ◌<◌, ◌≤◌, ◌≡◌, Bool, false, List, [], length, get_or}

-- the names, each once, and whether each is a typedef name now
pub record Marks : Type 0 where
  pub names : List (List ℕ)
  pub typedefs : List Bool

abbrev pub marks_of : List (List ℕ) → List Bool → Marks
marks_of names typedefs = record { names = names; typedefs = typedefs }

-- the name with this number
abbrev pub nth : List (List ℕ) → ℕ → List ℕ
nth names k = get_or names k []

-- each name has a mark, and stands once
pub record IsNumbered (m : Marks) : Type 0 where
  pub each : length m.typedefs ≡ length m.names
  pub once : (i j : ℕ) → i < length m.names → j < length m.names → nth m.names i ≡ nth m.names j → i ≡ j

-- the name has the number, perhaps as a new one; the older names and all marks stay
pub record IsNumberOf (old new : Marks) (name : List ℕ) (number : ℕ) : Type 0 where
  pub within : number < length new.names
  pub spelled : nth new.names number ≡ name
  pub grown : length old.names ≤ length new.names
  pub names_stay : (k : ℕ) → k < length old.names → nth new.names k ≡ nth old.names k
  pub marks_stay : (k : ℕ) → get_or new.typedefs k false ≡ get_or old.typedefs k false
