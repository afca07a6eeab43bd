-- What contracts see of an analysis, and what its lists of classes tell.
use Rattle.std.specs.Prelude.{ℕ, ◌≡◌, Some, List, [], slice_index_or}
use Rattle.cs_base.specs.declared.positions.Part.{Part}
use Rattle.eclass_map.specs.ClassTable.{Table, class_in}
use Rattle.analysis.specs.Analysis.{AnalysisValue}
use Rattle.analysis.specs.Parts.{AreMembers, AreFirsts}

-- An analysis: the accepted workspace, and the table of its classes.
pub record Analysed : Type 0 where
  pub value : AnalysisValue
  pub classes : Table

abbrev pub analysed : AnalysisValue → Table → Analysed
analysed value classes = record { value = value; classes = classes }

-- Lists of parts: the members of each class under its number, and the first member of each class.
pub record ClassLists : Type 0 where
  pub members : List (List Part)
  pub firsts : List Part

abbrev pub class_lists : List (List Part) → List Part → ClassLists
class_lists members firsts = record { members = members; firsts = firsts }

-- They are those of the classes.
pub record AreLists (a : AnalysisValue) (classes : Table) (lists : ClassLists) : Type 0 where
  pub members : (part : Part) (c : ℕ) → class_in classes part ≡ Some c → AreMembers a part (slice_index_or lists.members c [])
  pub firsts : AreFirsts a lists.firsts
