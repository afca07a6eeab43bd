-- Lists of the classes of a table while they are made.
use Rattle.std.specs.Prelude.{ℕ, ◌≡◌, ◌<◌, Some, List, [], ◌∷◌, ◌++◌, length, take, slice_get, slice_index_or}
use Rattle.std.specs.List.Sorted.{IsStrictlySortedBy}
use Rattle.cs_base.specs.declared.positions.Part.{Part}
use Rattle.eclass_map.specs.ClassTable.{Table, class_in}
use Rattle.analysis.specs.Analysis.{AnalysisValue}
use Rattle.analysis.specs.Analysed.{ClassLists, class_lists}
use Rattle.analysis.specs.Parts.{IsFirst, part_cmp}

-- The list has the parts of class c, in the order of their places.
pub record AreOfClass (a : AnalysisValue) (classes : Table) (c : ℕ) (parts : List Part) : Type 0 where
  pub each : (k : ℕ) (part : Part) → slice_get parts k ≡ Some part → class_in classes part ≡ Some c
  pub all : (part : Part) → class_in classes part ≡ Some c → (k : ℕ) × (slice_get parts k ≡ Some part)
  pub sorted : IsStrictlySortedBy (part_cmp a) parts

-- The list has the first member of each class with a number below n.
pub record AreFirstsBelow (a : AnalysisValue) (classes : Table) (n : ℕ) (firsts : List Part) : Type 0 where
  pub each : (k : ℕ) (part : Part) → slice_get firsts k ≡ Some part → IsFirst a part
  pub all : (part : Part) (c : ℕ) → c < n → class_in classes part ≡ Some c → IsFirst a part → (k : ℕ) × (slice_get firsts k ≡ Some part)

-- The classes with numbers below n are listed; their first members stand in the order of the numbers.
pub record AreListed (a : AnalysisValue) (classes : Table) (n : ℕ) (lists : ClassLists) : Type 0 where
  pub count : length lists.members ≡ n
  pub members : (c : ℕ) → c < n → AreOfClass a classes c (slice_index_or lists.members c [])
  pub firsts : AreFirstsBelow a classes n lists.firsts

-- no part has a class number of n or more
abbrev pub AreBelow : Table → ℕ → Type 0
AreBelow classes n = (part : Part) (c : ℕ) → class_in classes part ≡ Some c → c < n

-- lists of one class more
abbrev pub with_class : List Part → ClassLists → ClassLists
with_class parts lists = class_lists (lists.members ++ parts ∷ []) (lists.firsts ++ take 1 parts)
