-- Members of a class in one file, in the order of their characters.
use Rattle.std.specs.Prelude.{ℕ, ◌+◌, ◌≡◌, ◌≤◌, ◌<◌, Option, Some, None, List, [], ◌∷◌, length}
use Rattle.cs_base.specs.declared.positions.Part.{Part}

-- They stand in the file one behind the other, none before the character, and none is empty.
abbrev pub AreInOrder : ℕ → ℕ → List Part → Type 0
AreInOrder file from [] = Unit {0}
AreInOrder file from (m ∷ members) =
    (m.start.file ≡ file) × (from ≤ m.start.at) × (0 < m.len) × AreInOrder file (m.start.at + m.len) members

-- The same, but that the first one may have begun before the character; it ends behind it.
abbrev pub AreLeft : ℕ → ℕ → List Part → Type 0
AreLeft file at [] = Unit {0}
AreLeft file at (m ∷ members) =
    (m.start.file ≡ file) × (at < m.start.at + m.len) × (0 < m.len) × AreInOrder file (m.start.at + m.len) members

-- a text, or none where it would have more than so many bytes
abbrev pub IsUpTo : ℕ → List ℕ → Option (List ℕ) → Type 0
IsUpTo most text None = most < length text
IsUpTo most text (Some made) = (made ≡ text) × (length text ≤ most)
