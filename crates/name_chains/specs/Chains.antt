-- How the declarations of a unit are found: by the spelling of the name, by the structure or union, and by the end
-- of the range.
use Rattle.std.specs.Prelude.{ℕ, ◌+◌, ◌*◌, ◌/◌, ◌%◌, ◌<◌, ◌≤◌, ◌≡◌, min, Bool, false, ◌&&◌, not, List, length, take, reverse, filter, get_or, slice_get, slice_set, Option, None, Some, nat_lt, ◌==◌, if◌then◌else◌}
use Rattle.cs_base.specs.Token.{Token}
use Rattle.c_types.specs.declared.declarations.Space.{Space}
use Rattle.c_types.specs.declared.declarations.Space.TheVariants.{Ordinary as ordinary, Tags as tags, Members as members, Inner as inner, Unnamed as unnamed, Labels as labels}
use Rattle.c_types.specs.declared.declarations.Declaration.{Declaration}
use Rattle.name_chains.specs.declared.latest.Asked.{Asked}
use Rattle.name_chains.specs.declared.latest.Asked.TheVariants.{Live, Within, Tag, Anywhere}
use Rattle.name_chains.specs.Spellings.{number_at, AreNumbers}
use Rattle.name_chains.specs.Links.{Links, has_key, AreChained, IsLeft}
use Rattle.name_chains.specs.Linked.{linkage_key_of}
use Rattle.name_chains.specs.declared.structures.Rank.{Rank}
use Rattle.name_chains.specs.Ranks.{AreRanked}

-- the tokens of a unit, and its declarations, the latest first
pub record Chains : Type 0 where
  pub toks : List Token
  pub declared : List Declaration

-- one less than how many keys tags and the names in structures, unions and bodies are spread over: a fourth of the tokens
abbrev pub count_of : List ℕ → ℕ
count_of numbers = min (length numbers / 4) 4294967295

-- The key of a spelling by its number in a name space. An ordinary identifier has one of its own. Tags are few, and each
-- structure, union and body has a name space of its own (6.2.3), so the keys in these are spread over a table, by a factor
-- that is prime; two may have one key.
abbrev pub space_key : ℕ → Space → ℕ → ℕ
space_key count ordinary number = count + 1 + number
space_key count tags number = (number * 2654435761) % (count + 1)
space_key count (members n) number = (number * 2654435761 + n * 2) % (count + 1)
space_key count (inner n) number = (number * 2654435761 + n * 2) % (count + 1)
space_key count (unnamed n) number = (number * 2654435761 + n * 2) % (count + 1)
space_key count (labels n) number = (number * 2654435761 + n * 2 + 1) % (count + 1)

-- what declarations in a name space that are named as token k have in common
abbrev pub name_key : List ℕ → Space → ℕ → ℕ
name_key numbers space k = space_key (count_of numbers) space (number_at numbers k)

abbrev pub name_key_of : List ℕ → Declaration → ℕ
name_key_of numbers d = name_key numbers d.space d.name_at

-- what the members of a structure or union have in common, with the places of those without a name
abbrev pub member_key : Space → ℕ
member_key (members n) = n + 1
member_key (unnamed n) = n + 1
member_key _ = 0

abbrev pub member_key_of : Declaration → ℕ
member_key_of d = member_key d.space

-- what all have in common that are found among the members of a structure or union
abbrev pub found_key : Space → ℕ
found_key (members n) = n + 1
found_key (inner n) = n + 1
found_key _ = 0

abbrev pub found_key_of : Declaration → ℕ
found_key_of d = found_key d.space

-- For each token one more than the place of the first declaration whose range ends there, or 0. Of tokens behind
-- the list nothing is said.
pub record AreEnded (declared : List Declaration) (ends : List ℕ) : Type 0 where
  pub within : (j : ℕ) → get_or ends j 0 ≤ length declared
  pub told : (k : ℕ) (d : Declaration) → slice_get declared k ≡ Some d → d.to < length ends → 0 < get_or ends d.to 0
  pub first : (k : ℕ) (d : Declaration) → slice_get declared k ≡ Some d → d.to < length ends → get_or ends d.to 0 ≤ k + 1

-- a declaration more, whose range ends at the token
abbrev pub with_end : ℕ → ℕ → List ℕ → List ℕ
with_end to place ends = if nat_lt to (length ends) && (get_or ends to 0 == 0) then slice_set ends to place else ends

-- the declaration has the key, and has not ended at the token
abbrev pub lasts : (Declaration → ℕ) → ℕ → ℕ → Declaration → Bool
lasts key_of n at d = has_key key_of n d && nat_lt at d.to

-- For each declaration a place before it from which the way through those that have its key can go on: those between
-- them have all ended where its range begins.
pub record AreOver (key_of : Declaration → ℕ) (declared : List Declaration) (over : List ℕ) : Type 0 where
  pub each : length over ≡ length declared
  pub leads : (k : ℕ) (d : Declaration) → slice_get declared k ≡ Some d
      → IsLeft (has_key key_of (key_of d)) (filter (lasts key_of (key_of d) d.from)) (take k declared) (reverse (take k declared)) (get_or over k 0)

-- the range has begun at the token
abbrev pub has_begun : ℕ → Option Declaration → Bool
has_begun at None = false
has_begun at (Some d) = not (nat_lt at d.from)

-- it has ended there
abbrev pub has_ended : ℕ → Option Declaration → Bool
has_ended at None = false
has_ended at (Some d) = not (nat_lt at d.to)

-- where the way goes on from declaration k, if only those matter that have not ended at the token
abbrev pub next_at : List Declaration → List ℕ → List ℕ → ℕ → ℕ → ℕ
next_at declared before over at k = if has_begun at (slice_get declared k) then get_or over k 0 else get_or before k 0

-- the same, where there may be no such token, so that all matter
abbrev pub next_place : List Declaration → List ℕ → List ℕ → Option ℕ → ℕ → ℕ
next_place declared before over None k = get_or before k 0
next_place declared before over (Some at) k = next_at declared before over at k

-- the token at which no declaration has ended of which this can be said, if there is one
abbrev pub asked_at : Asked → Option ℕ
asked_at (Live at) = Some at
asked_at (Within at depth) = Some at
asked_at (Tag at anew depth) = Some at
asked_at Anywhere = None

-- the tables are those of the declarations
pub record IsTabled (toks : List Token) (numbers : List ℕ) (declared : List Declaration) (names linked structures found : Links) (over ends : List ℕ) (ranks : List Rank) : Type 0 where
  pub numbered : AreNumbers toks numbers
  pub named : AreChained (name_key_of numbers) declared names
  pub joined : AreChained (linkage_key_of numbers) declared linked
  pub passed : AreOver (name_key_of numbers) declared over
  pub owned : AreChained member_key_of declared structures
  pub held : AreChained found_key_of declared found
  pub ended : AreEnded declared ends
  pub ranked : AreRanked declared ranks
