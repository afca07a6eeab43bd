-- Marks on the places of a pattern: what the functions that set them promise.
use Rattle.std.specs.Prelude.{ℕ, ◌≡◌, ◌≤◌, ◌==◌, ◌&&◌, ◌||◌, if◌then◌else◌, Bool, false, not, List, length, drop, slice_index_or}
use Rattle.query_words.specs.Patterns.{matches, star}

-- A place is marked where the pattern from there on matches the text.
abbrev pub AreAtEnd : List ℕ → List ℕ → List Bool → Type 0
AreAtEnd pattern text places =
    (k : ℕ) → k ≤ length pattern → slice_index_or places k false ≡ matches (drop k pattern) text

-- A pattern that begins with this byte matches no byte at all, where what follows does.
abbrev pub without_bytes : ℕ → Bool → Bool
without_bytes c next = (c == star) && next

-- The same of a byte and what follows that: `here` says whether it matches what follows, `behind` whether its rest
-- does, and `next` whether its rest matches all.
abbrev pub with_byte : ℕ → ℕ → Bool → Bool → Bool → Bool
with_byte c byte here behind next = if c == star then next || here else ((byte == c) && behind)

-- a byte of a pattern that stands for itself
abbrev pub is_kept : ℕ → Bool
is_kept c = not (c == star)

-- two patterns match the same texts
abbrev pub MatchAlike : List ℕ → List ℕ → Type 0
MatchAlike p q = (text : List ℕ) → matches p text ≡ matches q text
