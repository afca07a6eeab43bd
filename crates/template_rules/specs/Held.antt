-- Where the lists of the functions begin in a unit, and the files in which they stand (this project's).
use Rattle.std.specs.Prelude.{ℕ, ◌==◌, ◌≡◌, ◌&&◌, ◌||◌, Bool, false, Some, List, slice_get}
use Rattle.std.specs.List.{list_any}
use Rattle.cs_base.specs.declared.positions.Part.{Part}
use Rattle.c_types.specs.declared.lists.List.{List as NameList}
use Rattle.analysis.specs.Below.include_tree.PseudoFiles.{is_pseudo}
use Rattle.analysis.specs.Below.source_files.Files.{Table}
use Rattle.analysis.specs.Below.source_files.KeptFiles.{KeptValue, kept_at}
use Rattle.analysis.specs.Analysis.{UnitAnalysis, AnalysisValue}
use Rattle.template_rules.specs.declared.file_lists.FoundList.{FoundList}
use Rattle.template_rules.specs.FileLists.{all_found}
use Rattle.template_rules.specs.Functions.{names_function}

-- the list is one of a function, and begins with token k of the unit
abbrev pub is_begun : List Part → UnitAnalysis → ℕ → NameList → Bool
is_begun members u k l = names_function members u.text.toks u.bound.names l.name && (l.begin == k)

-- one of a declarator or of a call is
abbrev pub begins_at : List Part → UnitAnalysis → ℕ → Bool
begins_at members u k = list_any (is_begun members u k) u.bound.declarators || list_any (is_begun members u k) u.bound.calls

-- the number is that of a file that was read, and is no pseudo file
abbrev pub IsHeld : Table → ℕ → Type 0
IsHeld table number = (f : KeptValue) × (kept_at table number ≡ Some f) × (is_pseudo f.path ≡ false)

-- So it is with the file of each list of the functions.
abbrev pub ListsAreHeld : List Part → AnalysisValue → Type 0
ListsAreHeld members a = (k : ℕ) (f : FoundList) → slice_get (all_found members a) k ≡ Some f → IsHeld a.table f.file
