-- Positions of the characters of added tokens, and their numbers in the order of adding.
use Rattle.std.specs.Prelude.{ℕ, ◌+◌, ◌-◌, ◌^◌, ◌≡◌, ◌<◌, ◌≤◌, ◌⊎◌, Bool, ◌&&◌, ◌||◌, cond, nat_eq, nat_lt, nat_le, List, [], ◌∷◌, map, Option, Some, None, slice_get, unwrap_or}
use Rattle.std.specs.Option.{option_and_then}
use Rattle.cs_base.specs.declared.positions.Pos.{Pos}
use Rattle.cs_base.specs.declared.positions.Part.{Part}
use Rattle.eclass_map.specs.declared.token_list.Added.{Added}

-- the character so many after one, in its file
abbrev pub along : Pos → ℕ → Pos
along p o = record { file = p.file; at = p.at + o }

-- the character behind a part
abbrev pub end_of : Part → Pos
end_of part = along part.start part.len

-- the part holds the character
abbrev pub holds : Part → Pos → Bool
holds part p = nat_eq part.start.file p.file && (nat_le part.start.at p.at && nat_lt (p.at - part.start.at) part.len)

-- the number of a character, none where no added token holds it
unfoldable pub index_at : List Added → Pos → Option ℕ
index_at [] p = None
index_at (r ∷ rs) p = cond (holds r.place p) (Some (r.first + (p.at - r.place.start.at))) (index_at rs p)

-- the number of the origin of a character; 0 where it has none or is in no added token
abbrev pub number_of : List Added → Option Pos → ℕ
number_of tokens origin = unwrap_or (option_and_then (index_at tokens) origin) 0

-- the numbers of a list of origins
abbrev pub numbers : List Added → List (Option Pos) → List ℕ
numbers tokens origins = map (number_of tokens) origins

-- a character with the number begins an added token
abbrev pub Begins : List Added → ℕ → Type 0
Begins tokens i = (k : ℕ) × (r : Added) × (slice_get tokens k ≡ Some r) × (r.first ≡ i)

-- the token begins at the character or before it
abbrev pub begins_by : Added → Pos → Bool
begins_by r p = nat_lt r.place.start.file p.file || (nat_eq r.place.start.file p.file && nat_le r.place.start.at p.at)

-- one token ends before the other begins
abbrev pub Before : Part → Part → Type 0
Before a b = (a.start.file < b.start.file) ⊎ ((a.start.file ≡ b.start.file) × (a.start.at + a.len ≤ b.start.at))

-- What is true of the list of added tokens: they stand in the order of their places and do not overlap, and none
-- is empty or has a number of 2^32 or more.
pub record AreTokens (tokens : List Added) : Type 0 where
  pub ordered : (i j : ℕ) (r s : Added) → i < j → slice_get tokens i ≡ Some r → slice_get tokens j ≡ Some s → Before r.place s.place
  pub some : (k : ℕ) (r : Added) → slice_get tokens k ≡ Some r → 0 < r.place.len
  pub numbered : (k : ℕ) (r : Added) → slice_get tokens k ≡ Some r → r.first + r.place.len < 2 ^ 32
