-- Where positions stand in the files of a workspace, and in which order (this project's).
use Rattle.std.specs.Prelude.{ℕ, ◌+◌, ◌/◌, ◌%◌, ◌||◌, ◌==◌, Bool, List, [], eqb, false, unwrap_or, slice_get}
use Rattle.std.specs.List.{list_any, starts_with}
use Rattle.std.specs.Option.{option_map_or}
use Rattle.std.specs.Ordering.{nat_cmp, ordering_then}
use Rattle.std.specs.declared.cmp.Ordering.{Ordering}
use Rattle.std.specs.Cmp.Lexicographic.{slice_cmp}
use Rattle.cs_base.specs.declared.positions.Pos.{Pos}
use Rattle.cs_base.specs.declared.positions.Place.{Place}
use Rattle.lexer.specs.Lines.{line_column_of}
use Rattle.include_tree.specs.Below.source_files.Files.{Table, lines_path}
use Rattle.include_tree.specs.Below.source_files.Faults.{place_of}
use Rattle.include_tree.specs.Below.source_files.KeptFiles.{KeptValue, kept_at}
use Rattle.include_tree.specs.PseudoFiles.{is_pseudo}

-- ---- places

-- the digits of n begin at character 8n of the pseudo file of lines, which is column 1 of line n + 1
abbrev pub digits_apart : ℕ
digits_apart = 8

abbrev pub place_in_lines : Pos → Place
place_in_lines at = place_of lines_path (at.at / digits_apart + 1, at.at % digits_apart + 1)

-- the place of a character of a file; characters of its tokens have one
abbrev pub place_in_file : Pos → KeptValue → Place
place_in_file at file = place_of file.path (unwrap_or (line_column_of file.bytes at.at) (1, 1))

-- the place of a position in the files of the table
abbrev pub place_at : Table → Pos → Place
place_at table at = option_map_or (place_in_file at) (kept_at table at.file) (place_in_lines at)

-- ---- order

-- the path that has a number
abbrev pub path_at : Table → ℕ → List ℕ
path_at table number = option_map_or (λ e. e.path) (slice_get table number) []

-- Positions are ordered by the bytes of their paths, and in a file by their characters, which stand in the order
-- of their bytes.
abbrev pub place_cmp : Table → Pos → Pos → Ordering
place_cmp table p q = ordering_then (slice_cmp nat_cmp (path_at table p.file) (path_at table q.file)) (nat_cmp p.at q.at)

-- ---- files that are not edited

-- a path of a pseudo file, or one that begins with one of these prefixes
abbrev pub is_read_only_path : List (List ℕ) → List ℕ → Bool
is_read_only_path prefixes path = is_pseudo path || list_any (starts_with eqb path) prefixes

-- the number of a file that is read-only; number 0 is that of the pseudo file of lines
abbrev pub is_read_only : Table → List (List ℕ) → ℕ → Bool
is_read_only table prefixes number =
    number == 0 || option_map_or (λ f. is_read_only_path prefixes f.path) (kept_at table number) false
