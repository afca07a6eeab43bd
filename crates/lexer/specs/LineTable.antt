-- The table of line starts: for each line the number of the bytes before it.
use Rattle.std.specs.Prelude.{◌≡◌, ℕ, suc, ◌+◌, ◌-◌, ◌≤◌, nat_lt, nat_le, ◌==◌, true, false, if◌then◌else◌, List, [], ◌∷◌, length, get_or, slice_get, Option, Some, None}
use Rattle.std.specs.List.Sorted.{IsNonDecreasing, IsPartitionPoint}
use Rattle.std.specs.Option.{option_and_then}
use Rattle.cs_base.specs.Limits.{most_bytes}
use Rattle.lexer.specs.Characters.{line_feed}

-- where the lines begin that begin behind a line feed of these characters, the first being `at`
abbrev pub starts_from : ℕ → List ℕ → List ℕ
starts_from at [] = []
starts_from at (c ∷ cs) =
    if c == line_feed then (at + 1) ∷ starts_from (at + 1) cs else starts_from (at + 1) cs

-- where the lines of a file begin
unfoldable pub line_starts : List ℕ → List ℕ
line_starts bytes = 0 ∷ starts_from 0 bytes

-- The line and the column of a character, where a line with this number begins at `start`, and the
-- later lines at these: those of the last line that does not begin behind the character.
abbrev pub place_along : ℕ → ℕ → List ℕ → ℕ → ℕ × ℕ
place_along line start [] at = (line, at - start + 1)
place_along line start (s ∷ later) at =
    if nat_le s at then place_along (line + 1) s later at else (line, at - start + 1)

-- the line and the column of a character, by the table
abbrev pub place_in : List ℕ → ℕ → ℕ × ℕ
place_in [] at = (1, at + 1)
place_in (start ∷ later) at = place_along 1 start later at

-- the character that n characters of the line with this index precede, if the line has it
abbrev pub offset_in : List ℕ → ℕ → ℕ → ℕ → Option ℕ
offset_in starts len index n =
    option_and_then (λ s. if nat_lt (s + n) (get_or starts (suc index) len) then Some (s + n) else None)
    (slice_get starts index)

-- What is true of every table: the first line begins at 0, no later line begins before an earlier
-- one, and there are at most as many lines as characters and one more.
pub record IsTable (len : ℕ) (starts : List ℕ) : Type 0 where
  pub first : slice_get starts 0 ≡ Some 0
  pub rises : IsNonDecreasing starts
  pub few : length starts ≤ len + 1
  pub small : len ≤ most_bytes

-- what a search of the table for a character finds: the lines before that index begin at the
-- character or before it, and the others behind it
abbrev pub Found : List ℕ → ℕ → ℕ → Type 0
Found starts at index = IsPartitionPoint (λ s. nat_le s at ≡ true) (λ s. nat_le s at ≡ false) starts index
