-- Where a class could be meant by its spelling (this project's, over ISO/IEC 9899:1999, 6.2.1 and 6.2.2).
use Rattle.std.specs.Prelude.{ℕ, ◌≡◌, ◌<◌, ◌⊎◌, ◌==◌, ◌&&◌, not, nat_lt, Bool, true, false, List}
use Rattle.std.specs.List.{list_any}
use Rattle.cs_base.specs.declared.positions.Part.{Part}
use Rattle.cs_base.specs.declared.positions.Pos.{Pos}
use Rattle.analysis.specs.Below.c_types.declared.entity.EntityKind.{EntityKind}
use Rattle.analysis.specs.Below.c_types.declared.entity.EntityKind.TheVariants.{Typedef, Function, Enumerator, Tag, Member}
use Rattle.analysis.specs.Analysis.{AnalysisValue}
use Rattle.analysis.specs.Parts.{IsMember}
use Rattle.class_marks.specs.declared.roles.Role.{Role}
use Rattle.class_marks.specs.declared.roles.Role.TheVariants.{Defines, OfKind, External}
use Rattle.class_marks.specs.Touching.{HasRole}

-- ---- names that reach past a function

abbrev pub is_wide_kind : EntityKind → Bool
is_wide_kind Function = true
is_wide_kind Typedef = true
is_wide_kind Enumerator = true
is_wide_kind Tag = true
is_wide_kind Member = true
is_wide_kind _ = false

-- a macro, what has external linkage, a function, a typedef name, an enumerator, a tag, a member
abbrev pub is_wide_role : Role → Bool
is_wide_role Defines = true
is_wide_role External = true
is_wide_role (OfKind kind) = is_wide_kind kind
is_wide_role _ = false

-- the class of the part has the name of one of these
pub record IsWide (a : AnalysisValue) (part : Part) : Type 0 where
  pub role : Role
  pub wide : is_wide_role role ≡ true
  pub has : HasRole a role part

-- ---- all others

-- All members of the class stand in the file of the position, one of them before it and one behind it.
pub record IsBetween (a : AnalysisValue) (part : Part) (p : Pos) : Type 0 where
  pub one_file : (m : Part) → IsMember a part m → m.start.file ≡ p.file
  pub before : Part
  pub is_before : IsMember a part before
  pub starts_before : before.start.at < p.at
  pub behind : Part
  pub is_behind : IsMember a part behind
  pub starts_behind : p.at < behind.start.at

-- The class reaches a position: everywhere where it reaches past a function, and else between its members.
abbrev pub Reaches : AnalysisValue → Part → Pos → Type 0
Reaches a part p = IsWide a part ⊎ IsBetween a part p

abbrev pub ReachesStart : AnalysisValue → Part → Part → Type 0
ReachesStart a part place = Reaches a part place.start

-- ---- the same by a list of the members

abbrev pub is_elsewhere : ℕ → Part → Bool
is_elsewhere file m = not (m.start.file == file)

abbrev pub begins_before : ℕ → Part → Bool
begins_before at m = nat_lt m.start.at at

abbrev pub begins_behind : ℕ → Part → Bool
begins_behind at m = nat_lt at m.start.at

abbrev pub are_around : List Part → Pos → Bool
are_around members p =
    not (list_any (is_elsewhere p.file) members)
    && (list_any (begins_before p.at) members && list_any (begins_behind p.at) members)
