-- What contracts see of a table of classes, and the words of its promises.
use Rattle.std.specs.Prelude.{ℕ, ◌-◌, ◌≡◌, ◌<◌, ◌⊎◌, ◌&&◌, true, cond, nat_eq, List, [], ◌∷◌, ◌++◌, zero, suc, length, map, Option, Some, None, slice_get, slice_index_or}
use Rattle.std.specs.Option.{option_map, option_and_then}
use Rattle.std.specs.List.{flat_map, prefix_len, insert}
use Rattle.cs_base.specs.declared.positions.Pos.{Pos}
use Rattle.cs_base.specs.declared.positions.Part.{Part}
use Rattle.cs_base.specs.Token.{Token, origin_at}
use Rattle.eclass_map.specs.declared.token_list.Added.{Added}
pub use Rattle.class_labels.specs.declared.spots.Spot.{Spot}
use Rattle.class_labels.specs.Chain.{Chain}
use Rattle.class_labels.specs.Labels.{Labels, spot, walk_at, length_at, added, joined, joined_parts}
use Rattle.class_labels.specs.Weight.{relabelled, weight, part_count}
use Rattle.eclass_map.specs.Positions.{along, holds, index_at, numbers, begins_by}

-- The added tokens in the order of their places, the position of each of their characters in the order of adding,
-- and the labels of these.
pub record Table : Type 0 where
  pub tokens : List Added
  pub places : List Pos
  pub labels : Labels

-- the class number and offset of a character, none where it lies in no added token
abbrev pub label : Table → Pos → Option Spot
label t p = option_and_then (λ i. slice_get t.labels.spots i) (index_at t.tokens p)

-- a character of an added token
abbrev pub IsHeld : Table → Pos → Type 0
IsHeld t p = (s : Spot) × (label t p ≡ Some s)

-- two characters of added tokens are the same: they stand at one offset in parts of one class number
pub record Same (t : Table) (p q : Pos) : Type 0 where
  pub at : Spot
  pub first : label t p ≡ Some at
  pub second : label t q ≡ Some at

-- the added tokens, in the order of their places
abbrev pub added_tokens : Table → List Part
added_tokens t = map (λ (r : Added). r.place) t.tokens

abbrev pub IsAdded : Table → Part → Type 0
IsAdded t token = (k : ℕ) × (slice_get (added_tokens t) k ≡ Some token)

-- the character begins an added token
abbrev pub BeginsToken : Table → Pos → Type 0
BeginsToken t p = (token : Part) × IsAdded t token × (token.start ≡ p)

-- a start: some character that is the same begins an added token
abbrev pub IsStart : Table → Pos → Type 0
IsStart t p = (q : Pos) × BeginsToken t q × Same t p q

-- a part runs from a start to before the next start, or to its token's end
pub record IsPart (t : Table) (part : Part) : Type 0 where
  pub start : IsStart t part.start
  pub some : 0 < part.len
  pub goes_on : (o : ℕ) → 0 < o → o < part.len → IsHeld t (along part.start o) × (IsStart t (along part.start o) → ⊥)
  pub ends : IsHeld t (along part.start part.len) → IsStart t (along part.start part.len)

-- the part of a character with this label
abbrev pub part_from : Table → Pos → Spot → Part
part_from t p s = record { start = record { file = p.file; at = p.at - s.offset }; len = length_at t.labels s.class }

-- the part that holds a character
abbrev pub part_of : Table → Pos → Option Part
part_of t p = option_map (part_from t p) (label t p)

-- the class number of a part, none of what is no part
abbrev pub class_in : Table → Part → Option ℕ
class_in t part =
    option_and_then (λ s. cond (nat_eq s.offset 0 && nat_eq (length_at t.labels s.class) part.len) (Some s.class) None) (label t part.start)

abbrev pub nowhere : Pos
nowhere = record { file = 0; at = 0 }

-- the part of class c that begins at character number x
abbrev pub part_with : Table → ℕ → ℕ → Part
part_with t c x = record { start = slice_index_or t.places x nowhere; len = length_at t.labels c }

-- the parts of a class in the order of the walk
abbrev pub members_of : Table → ℕ → List Part
members_of t c = map (part_with t c) (walk_at t.labels c)

-- the positions of n characters from one on
abbrev pub positions : Pos → ℕ → List (Option Pos)
positions p zero = []
positions p (suc n) = Some p ∷ positions (along p 1) n

-- the origins are whole added tokens, one after another
pub record AreWhole (t : Table) (origins : List (Option Pos)) : Type 0 where
  pub tokens : List Part
  pub added : (k : ℕ) (token : Part) → slice_get tokens k ≡ Some token → IsAdded t token
  pub each : origins ≡ flat_map (λ (token : Part). positions token.start token.len) tokens

-- character k of one token and character k of the other
pub record IsLinked (x y : Token) (p q : Pos) : Type 0 where
  pub place : ℕ
  pub first : origin_at x place ≡ Some p
  pub second : origin_at y place ≡ Some q

-- the same before, or linked now
abbrev pub SameOrLinked : Table → Token → Token → Pos → Pos → Type 0
SameOrLinked t x y p q = Same t p q ⊎ IsLinked x y p q

-- no character of the part lies in an added token
abbrev pub IsFree : Table → Part → Type 0
IsFree t part = (o : ℕ) → o < part.len → IsHeld t (along part.start o) → ⊥

abbrev pub part_of_file : ℕ → ℕ → ℕ → Part
part_of_file file at len = record { start = record { file = file; at = at }; len = len }

-- n characters from one on
unfoldable pub fresh_places : Pos → ℕ → List Pos
fresh_places p zero = []
fresh_places p (suc n) = fresh_places p n ++ along p n ∷ []

-- how many tokens from the front begin at the character or before it
abbrev pub begun_count : List Added → Pos → ℕ
begun_count tokens p = prefix_len (λ r. begins_by r p) tokens

-- how many characters the added tokens have
abbrev pub character_count : Table → ℕ
character_count t = length t.places

-- the table with one token more, in a class of its own
unfoldable pub with_token : Part → Table → Table
with_token part t = record {
  tokens = insert t.tokens (begun_count t.tokens part.start) (record { place = part; first = length t.places });
  places = t.places ++ fresh_places part.start part.len;
  labels = added part.len t.labels;
}

-- some link of the list has the first character in one token and the second at the same place of the other
pub record LinkedBy (links : List (Token × Token)) (p q : Pos) : Type 0 where
  pub place : ℕ
  pub first : Token
  pub second : Token
  pub at : slice_get links place ≡ Some (first, second)
  pub link : IsLinked first second p q

-- two characters are the same exactly where a chain of links of the list leads from one to the other
pub record AreLinks (links : List (Token × Token)) (t : Table) : Type 0 where
  pub holds : (p q : Pos) → LinkedBy links p q → Same t p q
  pub least : (p q : Pos) → Same t p q → Chain (LinkedBy links) p q

-- The token is added as one part in a class of its own, and all else stays.
pub record AddsToken (token : Part) (old new : Table) : Type 0 where
  pub own : IsAdded new token
  pub kept : (other : Part) → IsAdded old other → IsAdded new other
  pub only : (other : Part) → IsAdded new other → IsAdded old other ⊎ (other ≡ token)
  pub stays : (p : Pos) (s : Spot) → label old p ≡ Some s → label new p ≡ Some s
  pub rest : (p : Pos) (s : Spot) → label new p ≡ Some s → (label old p ≡ Some s) ⊎ (holds token p ≡ true)
  pub alone : (o : ℕ) → o < token.len → label new (along token.start o) ≡ Some (spot (length old.labels.walks) o)
  pub class : members_of new (length old.labels.walks) ≡ token ∷ []
  pub classes : (c : ℕ) → c < length old.labels.walks → members_of new c ≡ members_of old c

-- The parts and classes are those of the relation `Same`, with the added tokens as the tokens.
pub record HasParts (t : Table) : Type 0 where
  -- the characters of added tokens have labels, and no others
  pub held : (token : Part) (p : Pos) → IsAdded t token → holds token p ≡ true → IsHeld t p
  pub lies : (p : Pos) → IsHeld t p → (token : Part) × IsAdded t token × (holds token p ≡ true)
  -- each character of an added token lies in a part, and that is a part
  pub parts : (p : Pos) (part : Part) → part_of t p ≡ Some part → IsPart t part × (holds part p ≡ true)
  -- a class number is told of parts alone, and of each
  pub told : (part : Part) (c : ℕ) → class_in t part ≡ Some c → IsPart t part
  pub each : (part : Part) → IsPart t part → (c : ℕ) × (class_in t part ≡ Some c)
  -- each character of a part is labelled with its class number, and with how many of its characters stand before it
  pub spots : (part : Part) (c o : ℕ) → class_in t part ≡ Some c → o < part.len → label t (along part.start o) ≡ Some (spot c o)
  -- parts have one number exactly where their starts are the same
  pub one_class : (a b : Part) (c : ℕ) → class_in t a ≡ Some c → class_in t b ≡ Some c → Same t a.start b.start
  pub one_number : (a b : Part) (c d : ℕ) → class_in t a ≡ Some c → class_in t b ≡ Some d → Same t a.start b.start → c ≡ d
  -- the walk of a class gives each of its parts, and once
  pub walked : (part : Part) (c k : ℕ) → slice_get (members_of t c) k ≡ Some part → class_in t part ≡ Some c
  pub member : (part : Part) (c : ℕ) → class_in t part ≡ Some c → (k : ℕ) × (slice_get (members_of t c) k ≡ Some part)
  pub once : (part : Part) (c j k : ℕ) → slice_get (members_of t c) j ≡ Some part → slice_get (members_of t c) k ≡ Some part → j ≡ k

-- how many characters began a part before, and lie in a part of another class number after
abbrev pub relabelled_in : Table → Table → ℕ
relabelled_in old new = relabelled old.labels.spots new.labels.spots

-- the weight of a table: over the classes, the number of parts times one less than the number of its binary digits
abbrev pub weight_in : Table → ℕ
weight_in t = weight t.labels

-- how many parts there are
abbrev pub parts_in : Table → ℕ
parts_in t = part_count t.labels

-- the table once two tokens are joined: tokens and positions stay
abbrev pub joined_in : Token → Token → Table → Table
joined_in x y t = record {
  tokens = t.tokens;
  places = t.places;
  labels = joined 0 (numbers t.tokens x.origins) (numbers t.tokens y.origins) t.labels;
}

-- how many parts that gives another number
abbrev pub parts_joined : Token → Token → Table → ℕ
parts_joined x y t = joined_parts 0 (numbers t.tokens x.origins) (numbers t.tokens y.origins) t.labels
