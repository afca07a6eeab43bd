-- In which order files are edited: what inner functions promise each other.
use Rattle.std.specs.Prelude.{ℕ, ◌≡◌, Some, List, [], ◌∷◌, IsTrue, IsUtf8, slice_get}
use Rattle.std.specs.Ordering.{nat_cmp}
use Rattle.std.specs.declared.cmp.Ordering.TheVariants.{Less}
use Rattle.std.specs.Cmp.Lexicographic.{slice_cmp}
use Rattle.cs_base.specs.declared.positions.Part.{Part}
use Rattle.cs_base.specs.Edit.{Edit, comes_last}
use Rattle.analysis.specs.Below.source_files.Files.{Table}
use Rattle.analysis.specs.Below.source_files.KeptFiles.{KeptValue, kept_at}
use Rattle.analysis.specs.Places.{path_at}

-- the path of one number comes before that of another
abbrev pub IsBefore : Table → ℕ → ℕ → Type 0
IsBefore table file other = slice_cmp nat_cmp (path_at table file) (path_at table other) ≡ Less

-- Members of one file stand one behind the other, and those of other files behind them have later paths.
abbrev pub AreByPath : Table → List Part → Type 0
AreByPath table [] = Unit {0}
AreByPath table (m ∷ []) = Unit {0}
AreByPath table (m ∷ n ∷ ms) =
    ((n.start.file ≡ m.start.file → ⊥) → IsBefore table m.start.file n.start.file) × AreByPath table (n ∷ ms)

-- the path of the file of the first member comes behind those of the edits
abbrev pub ComeBehind : Table → List Edit → List Part → Type 0
ComeBehind table edits [] = Unit {0}
ComeBehind table edits (m ∷ ms) = IsTrue (comes_last (path_at table m.start.file) edits)

-- So does that of its kept file, if there is one, and it is text.
abbrev pub IsNext : Table → List Edit → List Part → Type 0
IsNext table edits run =
    (m : Part) (f : KeptValue) → slice_get run 0 ≡ Some m → kept_at table m.start.file ≡ Some f
    → IsTrue (comes_last f.path edits) × IsUtf8 f.path
