-- Names that are declared and not used (this project's).
use Rattle.std.specs.Prelude.{ℕ, ◌≡◌, false, Some, List, codes, slice_get}
use Rattle.std.specs.List.Sorted.{IsStrictlySortedBy}
use Rattle.std.specs.Str.{bytes_eq}
use Rattle.cs_base.specs.declared.positions.Part.{Part}
use Rattle.analysis.specs.Analysis.{AnalysisValue}
use Rattle.analysis.specs.Parts.{IsFirst, part_cmp}
use Rattle.analysis.specs.Spellings.{spelling_of}
use Rattle.class_marks.specs.declared.roles.Role.TheVariants.{Declares, Uses}
use Rattle.class_marks.specs.Touching.{HasRole, IsReadOnlyClass}

-- some name declares the class, and none uses it
pub record IsDeclaredAlone (a : AnalysisValue) (part : Part) : Type 0 where
  pub declared : HasRole a Declares part
  pub unused : HasRole a Uses part → ⊥

-- The first member of a class that is declared and not used, lies in no read-only file or pseudo file, and is not
-- spelled as the function is that a program begins with (5.1.2.2.1).
pub record IsUnused (a : AnalysisValue) (part : Part) : Type 0 where
  pub first : IsFirst a part
  pub alone : IsDeclaredAlone a part
  pub edited : IsReadOnlyClass a part → ⊥
  pub other_name : bytes_eq (spelling_of a part) (codes "main") ≡ false

-- The list has each of them, once, in the order of their places.
pub record AreUnused (a : AnalysisValue) (parts : List Part) : Type 0 where
  pub each : (k : ℕ) (part : Part) → slice_get parts k ≡ Some part → IsUnused a part
  pub all : (part : Part) → IsUnused a part → (k : ℕ) × (slice_get parts k ≡ Some part)
  pub sorted : IsStrictlySortedBy (part_cmp a) parts
