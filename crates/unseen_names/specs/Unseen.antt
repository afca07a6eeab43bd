-- The old name where no unit processes it (this project's): what a new spelling of a class leaves behind there.
use Rattle.std.specs.Prelude.{ℕ, ◌≡◌, ◌⊎◌, ◌&&◌, nat_eq, Bool, true, false, Option, Some, None, List, ◌++◌, codes, slice_get}
use Rattle.std.specs.List.{flat_map, list_any}
use Rattle.std.specs.List.Sorted.{IsStrictlySortedBy}
use Rattle.cs_base.specs.declared.positions.Part.{Part}
use Rattle.cs_base.specs.declared.positions.Pos.{Pos}
use Rattle.cs_base.specs.Token.{Token}
use Rattle.analysis.specs.Analysis.{AnalysisValue, UnitAnalysis}
use Rattle.analysis.specs.ClassReport.{place_text}
use Rattle.analysis.specs.Parts.{IsPart, IsMember, part_cmp}
use Rattle.analysis.specs.Places.{place_at}
use Rattle.analysis.specs.Spellings.{spelling_of}
use Rattle.class_marks.specs.declared.roles.Role.TheVariants.{Declares, Uses}
use Rattle.class_marks.specs.Touching.{HasRole}
use Rattle.unseen_names.specs.declared.words.Source.{Source}
use Rattle.unseen_names.specs.declared.words.Source.TheVariants.{Names, Pragmas}
use Rattle.unseen_names.specs.Words.{words_of}
use Rattle.unseen_names.specs.Reach.{Reaches}

-- a whole token that is a part, of another class
pub record IsOther (a : AnalysisValue) (part place : Part) : Type 0 where
  pub whole : IsPart a place
  pub no_member : IsMember a part place → ⊥

-- the character comes from the position
abbrev pub stands_at : Pos → Option Pos → Bool
stands_at p (Some q) = nat_eq p.file q.file && nat_eq p.at q.at
stands_at p None = false

-- some character of the token does
abbrev pub comes_from : Pos → Token → Bool
comes_from p t = list_any (stands_at p) t.origins

-- some token of the unit does
abbrev pub is_in_unit : Pos → UnitAnalysis → Bool
is_in_unit p u = list_any (comes_from p) u.text.toks

-- some unit has a token with a character from there
abbrev pub IsProcessed : AnalysisValue → Pos → Type 0
IsProcessed a p = list_any (is_in_unit p) a.units ≡ true

-- No name declares anything with the class or uses it, and no unit has the token: so it is with what stands in skipped groups,
-- in `pragma` and `error` lines, in the replacement lists of macros that nothing expands, and in arguments that macros drop.
pub record IsIdle (a : AnalysisValue) (place : Part) : Type 0 where
  pub undeclared : HasRole a Declares place → ⊥
  pub unused : HasRole a Uses place → ⊥
  pub unprocessed : IsProcessed a place.start → ⊥

-- a word of this source in a file that may be edited, spelled as the part
abbrev pub IsSpelledAlike : AnalysisValue → Source → Part → Part → Type 0
IsSpelledAlike a source part place = (k : ℕ) × (slice_get (words_of a source (spelling_of a part)) k ≡ Some place)

-- An identifier of a file that may be edited, spelled as the part, that is another idle class which the class reaches.
pub record IsUnseenName (a : AnalysisValue) (part place : Part) : Type 0 where
  pub word : IsSpelledAlike a Names part place
  pub other : IsOther a part place
  pub idle : IsIdle a place
  pub reached : Reaches a part place.start

-- A word so spelled in the string literal of a `_Pragma` operator, which no unit has and the class reaches.
pub record IsUnseenInPragma (a : AnalysisValue) (part place : Part) : Type 0 where
  pub word : IsSpelledAlike a Pragmas part place
  pub unprocessed : IsProcessed a place.start → ⊥
  pub reached : Reaches a part place.start

abbrev pub IsUnseen : AnalysisValue → Part → Part → Type 0
IsUnseen a part place = IsUnseenName a part place ⊎ IsUnseenInPragma a part place

-- The list has each of them, once, in the order of their places.
pub record AreUnseen (a : AnalysisValue) (part : Part) (places : List Part) : Type 0 where
  pub each : (k : ℕ) (place : Part) → slice_get places k ≡ Some place → IsUnseen a part place
  pub all : (place : Part) → IsUnseen a part place → (k : ℕ) × (slice_get places k ≡ Some place)
  pub sorted : IsStrictlySortedBy (part_cmp a) places

-- ---- their lines

-- unseen PATH:LINE:COL NAME
abbrev pub unseen_line : AnalysisValue → Part → Part → List ℕ
unseen_line a part place =
    codes "unseen " ++ place_text (place_at a.table place.start) ++ codes " " ++ spelling_of a part ++ codes "\n"

-- the lines of these places, in order
unfoldable pub unseen_lines : AnalysisValue → Part → List Part → List ℕ
unseen_lines a part places = flat_map (unseen_line a part) places

-- The lines of all places where the name of the class of the part stands unseen.
pub record PrintsUnseen (a : AnalysisValue) (part : Part) (text : List ℕ) : Type 0 where
  pub places : List Part
  pub are_unseen : AreUnseen a part places
  pub lines : text ≡ unseen_lines a part places

-- ---- what inner functions promise each other

-- no unit has the token
abbrev pub IsUnprocessed : AnalysisValue → Part → Type 0
IsUnprocessed a place = IsProcessed a place.start → ⊥

-- no name declares anything with the class or uses it
pub record IsUnstated (a : AnalysisValue) (place : Part) : Type 0 where
  pub undeclared : HasRole a Declares place → ⊥
  pub unused : HasRole a Uses place → ⊥

-- two places are one
abbrev pub is_same : Part → Part → Bool
is_same p q = (nat_eq p.start.file q.start.file && nat_eq p.start.at q.start.at) && nat_eq p.len q.len
