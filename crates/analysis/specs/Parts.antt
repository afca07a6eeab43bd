-- Parts of file tokens, and their classes (this project's): what must be spelled alike.
use Rattle.std.specs.Prelude.{ℕ, ◌≡◌, ◌<◌, true, Option, Some, None, List, slice_get}
use Rattle.std.specs.List.Sorted.{IsStrictlySortedBy}
use Rattle.std.specs.declared.cmp.Ordering.{Ordering}
use Rattle.std.specs.declared.cmp.Ordering.TheVariants.{Less}
use Rattle.cs_base.specs.declared.positions.Part.{Part}
use Rattle.cs_base.specs.declared.positions.Pos.{Pos}
use Rattle.include_tree.specs.Below.source_files.KeptFiles.{kept_at}
use Rattle.eclass_map.specs.Chain.{Chain}
use Rattle.eclass_map.specs.ClassTable.{LinkedBy}
use Rattle.eclass_map.specs.Positions.{along, holds}
use Rattle.analysis.specs.Analysis.{AnalysisValue}
use Rattle.analysis.specs.FileTokens.{IsFileToken}
use Rattle.analysis.specs.Links.{linked_pairs}
use Rattle.analysis.specs.Places.{place_cmp}

-- Two positions are the same: a chain of links leads from one to the other, character k of one token to character
-- k of the other.
abbrev pub AreSame : AnalysisValue → Pos → Pos → Type 0
AreSame a p q = Chain (LinkedBy (linked_pairs a)) p q

-- a character of a file token
abbrev pub IsCharacter : AnalysisValue → Pos → Type 0
IsCharacter a p = (token : Part) × IsFileToken a token × (holds token p ≡ true)

-- Each that stands in no kept file stands in the pseudo file of lines.
abbrev pub StandInFiles : AnalysisValue → Type 0
StandInFiles a = (p : Pos) → IsCharacter a p → kept_at a.table p.file ≡ None → p.file ≡ 0

-- the position begins a file token
abbrev pub Begins : AnalysisValue → Pos → Type 0
Begins a p = (token : Part) × IsFileToken a token × (token.start ≡ p)

-- a start: some position that is the same begins a file token
abbrev pub IsStart : AnalysisValue → Pos → Type 0
IsStart a p = (q : Pos) × Begins a q × AreSame a p q

-- A part runs from a start to before the next start, or to its token's end.
pub record IsPart (a : AnalysisValue) (part : Part) : Type 0 where
  pub held : IsCharacter a part.start
  pub start : IsStart a part.start
  pub some : 0 < part.len
  pub goes_on : (o : ℕ) → 0 < o → o < part.len → IsCharacter a (along part.start o) × (IsStart a (along part.start o) → ⊥)
  pub ends : IsCharacter a (along part.start part.len) → IsStart a (along part.start part.len)

-- a member of the class of a part: a part whose start is the same
pub record IsMember (a : AnalysisValue) (part other : Part) : Type 0 where
  pub is_part : IsPart a other
  pub same : AreSame a part.start other.start

-- ---- classes as lists

-- parts in the order of their places
abbrev pub part_cmp : AnalysisValue → Part → Part → Ordering
part_cmp a part other = place_cmp a.table part.start other.start

-- The list has each member of the class of a part, once, in the order of their places.
pub record AreMembers (a : AnalysisValue) (part : Part) (members : List Part) : Type 0 where
  pub each : (k : ℕ) (other : Part) → slice_get members k ≡ Some other → IsMember a part other
  pub all : (other : Part) → IsMember a part other → (k : ℕ) × (slice_get members k ≡ Some other)
  pub sorted : IsStrictlySortedBy (part_cmp a) members

-- the first member of its class
pub record IsFirst (a : AnalysisValue) (part : Part) : Type 0 where
  pub is_part : IsPart a part
  pub first : (other : Part) → IsMember a part other → part_cmp a other part ≡ Less → ⊥

-- The list has the first member of each class, in the order of their places.
pub record AreFirsts (a : AnalysisValue) (firsts : List Part) : Type 0 where
  pub each : (k : ℕ) (part : Part) → slice_get firsts k ≡ Some part → IsFirst a part
  pub all : (part : Part) → IsFirst a part → (k : ℕ) × (slice_get firsts k ≡ Some part)
  pub sorted : IsStrictlySortedBy (part_cmp a) firsts

-- the part that holds a position, and none where that is no character of a file token
abbrev pub Holds : AnalysisValue → Pos → Option Part → Type 0
Holds a p None = IsCharacter a p → ⊥
Holds a p (Some part) = IsPart a part × (holds part p ≡ true)
