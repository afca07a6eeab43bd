-- The order of source files (ISO/IEC 9899:1999, 5.1.1.1) in reports, which is this project's own.
use Rattle.std.specs.Prelude.{ℕ, ◌+◌, ◌==◌, Bool, false, not, if◌then◌else◌, Option, None, Some, List, [], ◌∷◌}
use Rattle.std.specs.Cmp.Lexicographic.{slice_cmp}
use Rattle.std.specs.Option.{option_map_or}
use Rattle.std.specs.Ordering.{is_lt, nat_cmp, ordering_then}
use Rattle.std.specs.declared.cmp.Ordering.{Ordering}
use Rattle.cs_base.specs.Units.{less_sign, begins_with}
use Rattle.analysis.specs.Below.source_files.Files.{Table}
use Rattle.analysis.specs.Below.source_files.KeptFiles.{KeptValue, kept_in, kept_at}

-- a path is that of a pseudo file: it begins with `<`, and no other path does
abbrev pub is_pseudo : List ℕ → Bool
is_pseudo path = begins_with (λ c. c == less_sign) path

-- a kept file is a source file
abbrev pub is_source : Option KeptValue → Bool
is_source None = false
is_source (Some f) = not (is_pseudo f.path)

-- the numbers of the source files of a table, whose first entry has this number
unfoldable pub numbers_from : ℕ → Table → List ℕ
numbers_from number [] = []
numbers_from number (e ∷ table) =
    if is_source (kept_in number e) then number ∷ numbers_from (number + 1) table
    else numbers_from (number + 1) table

-- the path of the kept file with a number
abbrev pub path_at : Table → ℕ → List ℕ
path_at table number = option_map_or (λ (f : KeptValue). f.path) (kept_at table number) []

-- which of two files comes first: by the bytes of their paths, and then by number; each path has one number,
-- so the second never decides
abbrev pub file_cmp : Table → ℕ → ℕ → Ordering
file_cmp table m n = ordering_then (slice_cmp nat_cmp (path_at table m) (path_at table n)) (nat_cmp m n)

-- a number put into a list in order: before the first that does not come before it
unfoldable pub placed : (ℕ → ℕ → Ordering) → ℕ → List ℕ → List ℕ
placed cmp n [] = n ∷ []
placed cmp n (m ∷ ms) = if is_lt (cmp m n) then m ∷ placed cmp n ms else n ∷ m ∷ ms

-- numbers in order
unfoldable pub in_order : (ℕ → ℕ → Ordering) → List ℕ → List ℕ
in_order cmp [] = []
in_order cmp (n ∷ ns) = placed cmp n (in_order cmp ns)
