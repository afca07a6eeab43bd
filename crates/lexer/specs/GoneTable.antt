-- The table of bytes that are no logical character: the bytes of line splices, and the carriage returns
-- of new-lines.
use Rattle.std.specs.Prelude.{◌≤◌, ◌<◌, ℕ, zero, suc, ◌+◌, ◌-◌, ◌==◌, nat_lt, nat_le, Bool, false, if◌then◌else◌, List, [], ◌∷◌, length, get_or, slice_get, Option, Some, None}
use Rattle.std.specs.List.{prefix_len}
use Rattle.std.specs.Option.{option_map_or}
use Rattle.std.specs.List.Sorted.{IsNonDecreasing}
use Rattle.cs_base.specs.Limits.{most_bytes}
use Rattle.lexer.specs.Logical.{gone_length}

-- how many bytes go from this one on, where `skip` go that go with one before
abbrev pub going : ℕ → ℕ → List ℕ → ℕ
going zero c cs = gone_length c cs
going (suc skip) c cs = suc skip

-- the offsets of the bytes that go, from offset `at` on, where the first `skip` go
abbrev pub gone_from : ℕ → ℕ → List ℕ → List ℕ
gone_from skip at [] = []
gone_from skip at (c ∷ cs) =
    if going skip c cs == 0 then gone_from 0 (at + 1) cs else at ∷ gone_from (going skip c cs - 1) (at + 1) cs

-- the offsets of the bytes of a file that go
unfoldable pub gone_of : List ℕ → List ℕ
gone_of bytes = gone_from 0 0 bytes

-- for each byte that goes, how many logical characters stand before it, where `at` stand before these
abbrev pub marks_from : ℕ → ℕ → List ℕ → List ℕ
marks_from skip at [] = []
marks_from skip at (c ∷ cs) =
    if going skip c cs == 0 then marks_from 0 (at + 1) cs else at ∷ marks_from (going skip c cs - 1) at cs

-- for each byte of a file that goes, how many logical characters stand before it
unfoldable pub marks_of : List ℕ → List ℕ
marks_of bytes = marks_from 0 0 bytes

-- the offset of logical character `at`: as many bytes go before it as have that many characters or
-- fewer before them
abbrev pub byte_in : List ℕ → ℕ → ℕ
byte_in marks at = at + prefix_len (λ m. nat_le m at) marks

-- how many bytes go before this offset
abbrev pub gone_before : List ℕ → ℕ → ℕ
gone_before gone offset = prefix_len (λ g. nat_lt g offset) gone

-- the byte at this offset goes
abbrev pub is_gone : List ℕ → ℕ → Bool
is_gone gone offset = option_map_or (λ g. g == offset) (slice_get gone (gone_before gone offset)) false

-- the logical character at an offset, if that byte does not go
abbrev pub character_in : List ℕ → ℕ → Option ℕ
character_in gone offset = if is_gone gone offset then None else Some (offset - gone_before gone offset)

-- What is true of every table of a file with so many logical characters and bytes.
pub record IsGoneTable (len size : ℕ) (gone marks : List ℕ) : Type 0 where
  pub rises : IsNonDecreasing gone
  pub apart : (k : ℕ) → k < length gone → k ≤ get_or gone k 0
  pub marks_rise : IsNonDecreasing marks
  pub few : len + length marks ≤ size
  pub small : size ≤ most_bytes
