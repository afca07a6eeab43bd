-- Marks on the items of files: what the functions that set and read them promise.
use Rattle.std.specs.Prelude.{◌≡◌, ◌<◌, ℕ, Bool, true, false, List, [], length, replicate, slice_set, slice_index_or}
use Rattle.std.specs.List.{fold}
use Rattle.std.specs.Option.{option_map_or}
use Rattle.analysis.specs.Below.unit_steps.declared.events.Reached.{Reached}
use Rattle.analysis.specs.Below.source_files.Files.{Table}
use Rattle.analysis.specs.Below.source_files.KeptFiles.{kept_at}
use Rattle.analysis.specs.Below.unit_steps.Texts.{UnitTextValue}
use Rattle.analysis.specs.Texts.{TextsValue}
use Rattle.query_report.specs.Skipped.{items_in, is_reached}

-- how many items the kept file with a number has
abbrev pub count_at : Table → ℕ → ℕ
count_at table number = option_map_or (λ f. length (items_in f)) (kept_at table number) 0

-- an item of a file is marked
abbrev pub is_marked : List (List Bool) → ℕ → ℕ → Bool
is_marked rows file item = slice_index_or (slice_index_or rows file []) item false

-- the marks with that of an item that is reached
abbrev pub marked : List (List Bool) → Reached → List (List Bool)
marked rows r = slice_set rows r.file (slice_set (slice_index_or rows r.file []) r.item true)

-- the marks with those of a unit
abbrev pub marked_by : List (List Bool) → UnitTextValue → List (List Bool)
marked_by rows unit = fold marked rows unit.reached

-- no item of the first files is marked
abbrev pub AreBlank : Table → List (List Bool) → Type 0
AreBlank table rows = (file : ℕ) → file < length rows → slice_index_or rows file [] ≡ replicate (count_at table file) false

-- the items of kept files are marked where they are reached
abbrev pub AreMarked : TextsValue → List (List Bool) → Type 0
AreMarked t rows = (file item : ℕ) → item < count_at t.table file → is_marked rows file item ≡ is_reached t.texts file item
