-- Marks on the characters of files, by the number of the file and that of the character in it.
use Rattle.std.specs.Prelude.{ℕ, ◌+◌, ◌≡◌, ◌<◌, ◌≤◌, ◌||◌, ◌&&◌, nat_eq, nat_le, nat_lt, Bool, true, false, Some, List, [], length, slice_get, slice_index_or}
use Rattle.cs_base.specs.declared.positions.Part.{Part}
use Rattle.cs_base.specs.declared.positions.Pos.{Pos}
use Rattle.cs_base.specs.declared.spans.Span.{Span}
use Rattle.cs_base.specs.Token.{Token, origin_at}
use Rattle.eclass_map.specs.Positions.{along}

-- whether a character is marked
abbrev pub is_marked : List (List Bool) → Pos → Bool
is_marked marks p = slice_index_or (slice_index_or marks p.file []) p.at false

-- there is room for more characters, and the marks are what they were
pub record Grows (old new : List Bool) : Type 0 where
  pub longer : length old < length new
  pub same : (k : ℕ) → slice_index_or new k false ≡ slice_index_or old k false

-- there is room for the marks of the characters before `end`, and the marks are what they were
pub record ReachesRow (end : ℕ) (old new : List Bool) : Type 0 where
  pub room : end ≤ length new
  pub same : (k : ℕ) → slice_index_or new k false ≡ slice_index_or old k false

-- the characters from `from` on before `end` are marked, beside those that were
pub record SetsRow (from end : ℕ) (old new : List Bool) : Type 0 where
  pub each : (k : ℕ) → slice_index_or new k false ≡ (slice_index_or old k false || (nat_le from k && nat_lt k end))

-- the position is one of the span's
abbrev pub covers : Pos → Span → Bool
covers p s = nat_eq p.file s.start.file && (nat_le s.start.at p.at && nat_lt p.at (s.start.at + s.len))

-- each character of the token stands behind the one before it in a file, and the first one there
abbrev pub StandsFrom : Token → Pos → Type 0
StandsFrom t start = (k : ℕ) → k < length t.text → origin_at t k ≡ Some (record { file = start.file; at = start.at + k })

-- there is room for the marks of a file, and the marks are what they were
pub record Reaches (file : ℕ) (old new : List (List Bool)) : Type 0 where
  pub room : file < length new
  pub same : (p : Pos) → is_marked new p ≡ is_marked old p

-- The characters that pass the test are marked, beside those that were.
pub record Adds (test : Pos → Bool) (old new : List (List Bool)) : Type 0 where
  pub each : (p : Pos) → is_marked new p ≡ (is_marked old p || test p)

-- ---- parts

-- some character of the part is marked
pub record HoldsMark (marks : List (List Bool)) (part : Part) : Type 0 where
  pub offset : ℕ
  pub within : offset < part.len
  pub marked : is_marked marks (along part.start offset) ≡ true

-- some character of some part is
pub record AnyMarked (marks : List (List Bool)) (parts : List Part) : Type 0 where
  pub number : ℕ
  pub part : Part
  pub at : slice_get parts number ≡ Some part
  pub holds : HoldsMark marks part
