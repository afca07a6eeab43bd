-- The paths of kept files.
use Rattle.std.specs.Prelude.{ℕ, Bool, false, Option, List}
use Rattle.std.specs.Option.{option_map_or}
use Rattle.std.specs.Str.{bytes_eq}
use Rattle.analysis.specs.Below.source_files.KeptFiles.{KeptValue}

-- a kept file, if there is one, has the path
abbrev pub has_path : List ℕ → Option KeptValue → Bool
has_path path file = option_map_or (λ (f : KeptValue). bytes_eq path f.path) file false
