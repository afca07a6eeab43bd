-- What inner functions promise each other of lists that stand around tokens.
use Rattle.std.specs.Borrow.{Bor}
use Rattle.std.specs.Prelude.{ℕ, ◌+◌, ◌≡◌, ◌<◌, ◌&&◌, Bool, List, [], ◌∷◌, length, max, nat_le, nat_lt, slice_index_or, take}
use Rattle.c_types.specs.declared.lists.List.{List as NameList}

-- the list begins before one token, and does not end before another
abbrev pub is_around : ℕ → ℕ → NameList → Bool
is_around after to l = nat_lt l.begin after && nat_le to l.close

-- the last token at which one of these lists ends
abbrev pub last_of : List (Bor NameList) → ℕ
last_of [] = 0
last_of (l ∷ ls) = max l.now.close (last_of ls)

-- of each list the last token at which one of those up to it ends
abbrev pub AreLast : List (Bor NameList) → List ℕ → Type 0
AreLast ls ends = (length ends ≡ length ls) × ((i : ℕ) → i < length ends → slice_index_or ends i 0 ≡ last_of (take (i + 1) ls))
