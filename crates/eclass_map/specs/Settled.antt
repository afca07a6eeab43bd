-- Tokens once their characters have other numbers: the gaps between them stay.
use Rattle.std.specs.Prelude.{ℕ, ◌+◌, ◌-◌, ◌^◌, ◌≡◌, ◌<◌, ◌≤◌, ◌⊎◌, cond, nat_eq, List, [], ◌∷◌, Some, slice_get, slice_index_or}
use Rattle.cs_base.specs.declared.positions.Pos.{Pos}
use Rattle.eclass_map.specs.declared.token_list.Added.{Added}
use Rattle.eclass_map.specs.Positions.{along, end_of}

-- where the text of a file ends before its first token
abbrev pub no_text : Pos
no_text = record { file = 0; at = 0 }

-- a token, where the token before it ended at `from` and now ends at `to`
abbrev pub settled_token : List ℕ → Pos → ℕ → Added → Added
settled_token numbers from to r = record {
  place = record {
    start = record { file = r.place.start.file; at = cond (nat_eq r.place.start.file from.file) (to + (r.place.start.at - from.at)) r.place.start.at };
    len = slice_index_or numbers (r.first + r.place.len) 0 - slice_index_or numbers r.first 0;
  };
  first = slice_index_or numbers r.first 0;
}

-- the tokens, from the first one of the list on
unfoldable pub settled : List ℕ → Pos → ℕ → List Added → List Added
settled numbers from to [] = []
settled numbers from to (r ∷ rs) =
    settled_token numbers from to r ∷ settled numbers (end_of r.place) (end_of (settled_token numbers from to r).place).at rs

-- the characters of the tokens are numbers of the list, in order
pub record AreNumbered (tokens : List Added) (numbers : List ℕ) : Type 0 where
  pub first : (k : ℕ) (r : Added) → slice_get tokens k ≡ Some r → (x : ℕ) × (slice_get numbers r.first ≡ Some x)
  pub ends : (k : ℕ) (r : Added) → slice_get tokens k ≡ Some r → (y : ℕ) × (slice_get numbers (r.first + r.place.len) ≡ Some y)
  pub grows : (k : ℕ) (r : Added) → slice_get tokens k ≡ Some r → slice_index_or numbers r.first 0 ≤ slice_index_or numbers (r.first + r.place.len) 0

-- no token ends at 2^32 or later
abbrev pub Fits : List Added → Type 0
Fits tokens = (k : ℕ) (r : Added) → slice_get tokens k ≡ Some r → r.place.start.at + r.place.len < 2 ^ 32

-- the list has the positions of the characters of the tokens, by their numbers
abbrev pub ArePlaced : List Added → List Pos → Type 0
ArePlaced tokens places = (k : ℕ) (r : Added) (o : ℕ) → slice_get tokens k ≡ Some r → o < r.place.len → slice_get places (r.first + o) ≡ Some (along r.place.start o)

-- no number is that of characters of two tokens
abbrev pub AreApart : List Added → Type 0
AreApart tokens = (i j : ℕ) (r s : Added) → i < j → slice_get tokens i ≡ Some r → slice_get tokens j ≡ Some s
    → (r.first + r.place.len ≤ s.first) ⊎ (s.first + s.place.len ≤ r.first)
