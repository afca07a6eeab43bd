-- Which classes a query asks of (this project's): those of which some member is named by its place, and none is a
-- keyword.
use Rattle.std.specs.Prelude.{ℕ, ◌≡◌, true, Some, List}
use Rattle.cs_base.specs.declared.positions.Part.{Part}
use Rattle.cs_base.specs.declared.positions.Place.{Place}
use Rattle.analysis.specs.Analysis.{AnalysisValue}
use Rattle.analysis.specs.FileTokens.{IsFileToken}
use Rattle.analysis.specs.Naming.{Names}
use Rattle.analysis.specs.Parts.{AreMembers, IsFirst, IsMember}
use Rattle.analysis.specs.Places.{place_at}
use Rattle.analysis.specs.Spellings.{spelling_of}
use Rattle.find_names.specs.Keywords.{is_keyword}

-- the part that a place names
abbrev pub NamesPart : AnalysisValue → Place → Part → Type 0
NamesPart a place part = Names a place.path place.line place.column (Some part)

-- the place at which the part begins names it
abbrev pub IsNamed : AnalysisValue → Part → Type 0
IsNamed a part = NamesPart a (place_at a.table part.start) part

-- some member of the class of a part is named so
pub record IsNameable (a : AnalysisValue) (part : Part) : Type 0 where
  pub member : Part
  pub is_member : IsMember a part member
  pub named : IsNamed a member

-- the part is a whole token, and that a keyword of the standard of some unit (6.4.1)
pub record IsWholeKeyword (a : AnalysisValue) (part : Part) : Type 0 where
  pub whole : IsFileToken a part
  pub word : is_keyword a.workspace.units (spelling_of a part) ≡ true

-- some member of the class is one
pub record IsKeywordClass (a : AnalysisValue) (part : Part) : Type 0 where
  pub member : Part
  pub is_member : IsMember a part member
  pub keyword : IsWholeKeyword a member

-- the class of a part is in question
pub record IsInQuestion (a : AnalysisValue) (part : Part) : Type 0 where
  pub nameable : IsNameable a part
  pub no_keyword : IsKeywordClass a part → ⊥

-- the first member of a class, and all its members
pub record IsClass (a : AnalysisValue) (part : Part) (members : List Part) : Type 0 where
  pub first : IsFirst a part
  pub are_members : AreMembers a part members
