-- A class over an analysis, as contracts see it and as inner functions know it.
use Rattle.std.specs.Prelude.{ℕ, ◌≡◌, ◌%◌, Bool, true, false, Some, None, List, length, get_or, slice_get}
use Rattle.cs_base.specs.declared.positions.Part.{Part}
use Rattle.cs_base.specs.declared.positions.Pos.{Pos}
use Rattle.eclass_map.specs.ClassTable.{class_in}
use Rattle.eclass_map.specs.Positions.{holds}
use Rattle.part_respell.specs.Respelled.{member_over}
use Rattle.analysis.specs.Analysed.{Analysed}
use Rattle.analysis.specs.Analysis.{AnalysisValue}
use Rattle.analysis.specs.Parts.{AreMembers}

-- The analysis, and the members of the class.
pub record ClassValue : Type 0 where
  pub analysis : Analysed
  pub members : List Part

abbrev pub class_over : Analysed → List Part → ClassValue
class_over analysis members = record { analysis = analysis; members = members }

-- The class that a place of a workspace names: the analysis, the part at the place, and the members of its class.
pub record NamedClass : Type 0 where
  pub analysis : AnalysisValue
  pub part : Part
  pub members : List Part

-- These are the members of the class with this number, in the order of their places.
pub record IsClass (a : Analysed) (members : List Part) (number : ℕ) : Type 0 where
  pub part : Part
  pub numbered : class_in a.classes part ≡ Some number
  pub listed : AreMembers a.value part members

-- no member holds a character of the part
abbrev pub IsApart : List Part → Part → Type 0
IsApart members part = (p : Pos) → holds part p ≡ true → member_over members p ≡ None

-- no member holds a character of the file
abbrev pub IsFree : List Part → ℕ → Type 0
IsFree members file = (p : Pos) → p.file ≡ file → member_over members p ≡ None

-- Of each file in which a member stands the table says so, by the remainder of its number.
pub record HoldFiles (members : List Part) (files : List Bool) : Type 0 where
  pub all : length files ≡ 256
  pub each : (k : ℕ) (m : Part) → slice_get members k ≡ Some m → get_or files (m.start.file % 256) false ≡ true

-- what is kept of a class
pub record IsKept (a : Analysed) (members : List Part) (number : ℕ) (files : List Bool) : Type 0 where
  pub class : IsClass a members number
  pub held : HoldFiles members files
