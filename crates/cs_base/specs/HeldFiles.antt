-- What contracts see of the fields of a `MemFiles`.
use Rattle.std.specs.Prelude.{◌≤◌, ◌<◌, ℕ, List, Option, None, Some, map, length, slice_get, slice_range, All}
use Rattle.std.specs.Option.{option_map}
use Rattle.cs_base.specs.declared.held_files.HeldFile.{HeldFile}
use Rattle.cs_base.specs.declared.held_files.LastFailed.{LastFailed}
use Rattle.cs_base.specs.declared.held_files.LastFailed.TheVariants as last
use Rattle.cs_base.specs.Outside.{FileMap}

-- the files whose bytes are those ranges of the store
abbrev pub files_in : List ℕ → List HeldFile → FileMap
files_in bytes files = map (λ f. (f.path, slice_range bytes f.start f.end)) files

-- the path that is told as that of the last failed call
abbrev pub last_path : List HeldFile → LastFailed → Option (List ℕ)
last_path files last.Untold = None
last_path files (last.Kept path) = Some path
last_path files (last.Held k) = option_map (λ (f : HeldFile). f.path) (slice_get files k)

-- the range of a file lies in a store of this length
pub record IsRange (len : ℕ) (f : HeldFile) : Type 0 where
  pub ordered : f.start ≤ f.end
  pub within : f.end ≤ len

-- the last failed call is that of a file that is there
abbrev pub IsThere : List HeldFile → LastFailed → Type 0
IsThere files last.Untold = Unit {0}
IsThere files (last.Kept path) = Unit {0}
IsThere files (last.Held k) = k < length files

-- What is true of the fields of every `MemFiles`.
pub record AreHeld (len : ℕ) (files : List HeldFile) (last : LastFailed) : Type 0 where
  pub ranges : All (IsRange len) files
  pub there : IsThere files last
