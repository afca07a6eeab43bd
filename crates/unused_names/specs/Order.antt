-- The order of positions in reports (this project's).
use Rattle.std.specs.Prelude.{ℕ, List, []}
use Rattle.std.specs.Cmp.Lexicographic.{slice_cmp}
use Rattle.std.specs.Option.{option_map_or}
use Rattle.std.specs.Ordering.{nat_cmp, ordering_then}
use Rattle.std.specs.declared.cmp.Ordering.{Ordering}
use Rattle.cs_base.specs.declared.positions.Pos.{Pos}
use Rattle.analysis.specs.Below.source_files.Files.{Table}
use Rattle.analysis.specs.Below.source_files.KeptFiles.{KeptValue, kept_at}

-- the path of the kept file with a number
abbrev pub path_of : Table → ℕ → List ℕ
path_of table number = option_map_or (λ (f : KeptValue). f.path) (kept_at table number) []

-- Which of two positions comes first: by the bytes of their paths, and in a file by their characters. Each path has
-- one number, so that of two kept files the numbers never decide.
abbrev pub position_cmp : Table → Pos → Pos → Ordering
position_cmp table p q =
    ordering_then (slice_cmp nat_cmp (path_of table p.file) (path_of table q.file))
    (ordering_then (nat_cmp p.file q.file) (nat_cmp p.at q.at))
