-- What names touch a class, and where its members stand (this project's).
use Rattle.std.specs.Prelude.{ℕ, ◌≡◌, ◌<◌, Bool, true, Some, List, length, slice_get, slice_index_or}
use Rattle.cs_base.specs.declared.positions.Part.{Part}
use Rattle.cs_base.specs.declared.positions.Pos.{Pos}
use Rattle.cs_base.specs.Token.{Token, origin_at}
use Rattle.eclass_map.specs.Positions.{holds}
use Rattle.analysis.specs.Analysis.{AnalysisValue}
use Rattle.analysis.specs.Parts.{IsMember}
use Rattle.analysis.specs.Places.{is_read_only}
use Rattle.class_marks.specs.declared.roles.Role.{Role}
use Rattle.class_marks.specs.Roles.{names_with}

-- Some character of the token comes from a member of the class of the part.
pub record Touches (a : AnalysisValue) (part : Part) (t : Token) : Type 0 where
  pub character : ℕ
  pub at : Pos
  pub member : Part
  pub origin : origin_at t character ≡ Some at
  pub is_member : IsMember a part member
  pub held : holds member at ≡ true

-- some name with the role has a character of the class: each part of a name gives its class the role
pub record HasRole (a : AnalysisValue) (role : Role) (part : Part) : Type 0 where
  pub number : ℕ
  pub name : Token
  pub listed : slice_get (names_with role a) number ≡ Some name
  pub touches : Touches a part name

-- a member of the class lies in a read-only file or a pseudo file
pub record IsReadOnlyClass (a : AnalysisValue) (part : Part) : Type 0 where
  pub member : Part
  pub is_member : IsMember a part member
  pub kept_from_edits : is_read_only a.table a.workspace.readonly member.start.file ≡ true

-- of each file that has one of these numbers, whether it is read-only or a pseudo file
abbrev pub AreReadOnly : AnalysisValue → List Bool → Type 0
AreReadOnly a files =
    (number : ℕ) (d : Bool) → number < length files → slice_index_or files number d ≡ is_read_only a.table a.workspace.readonly number
