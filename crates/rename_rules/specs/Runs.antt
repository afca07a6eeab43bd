-- The members of a class by their files (this project's), and the files as they are edited. Members stand in the order
-- of their places, and places are ordered by path first: so those of one file stand one behind the other.
use Rattle.std.specs.Prelude.{ℕ, ◌+◌, ◌≡◌, ◌<◌, ◌≤◌, ◌==◌, nat_lt, if◌then◌else◌, Bool, Option, None, List, [], ◌∷◌, length}
use Rattle.std.specs.List.{flat_map, list_any, prefix_len}
use Rattle.std.specs.Option.{option_map_or}
use Rattle.cs_base.specs.declared.positions.Part.{Part}
use Rattle.cs_base.specs.Edit.{Edit, edit}
use Rattle.cs_base.specs.Limits.{most_bytes, most_bytes_of_all}
use Rattle.analysis.specs.Below.source_files.Files.{Table}
use Rattle.analysis.specs.Below.source_files.KeptFiles.{KeptValue, kept_in, kept_at}
use Rattle.analysis.specs.Below.include_tree.PseudoFiles.{is_pseudo}
use Rattle.part_respell.specs.Respelled.{respelled}
use Rattle.analysis.specs.Analysis.{AnalysisValue}

-- a member in front of runs: it joins the first one, if that stands in its file
abbrev pub with_member : Part → List (List Part) → List (List Part)
with_member m ((n ∷ run) ∷ runs) =
    if n.start.file == m.start.file then (m ∷ n ∷ run) ∷ runs else (m ∷ []) ∷ (n ∷ run) ∷ runs
with_member m runs = (m ∷ []) ∷ runs

-- the members of each file, in order
unfoldable pub runs : List Part → List (List Part)
runs [] = []
runs (m ∷ members) = with_member m (runs members)

-- the file in which the members of a run stand
abbrev pub file_of : AnalysisValue → List Part → Option KeptValue
file_of a [] = None
file_of a (m ∷ run) = kept_at a.table m.start.file

-- its bytes with the new name for each of them
abbrev pub new_bytes : List ℕ → List Part → KeptValue → List ℕ
new_bytes name run f = respelled run name f.number f.bytes

-- the edit of a file
abbrev pub edit_of : AnalysisValue → List ℕ → List Part → List Edit
edit_of a name run = option_map_or (λ (f : KeptValue). edit f.path (new_bytes name run f) (length run) ∷ []) (file_of a run) []

-- The edits of the files that hold a member, in the order of their paths, each with the number of its members.
unfoldable pub edits_of : AnalysisValue → List Part → List ℕ → List Edit
edits_of a members name = flat_map (edit_of a name) (runs members)

-- ---- sizes; pseudo files have none

abbrev pub size_of : KeptValue → List ℕ → ℕ
size_of f bytes = if is_pseudo f.path then 0 else length bytes

-- how many bytes an edited file would have
abbrev pub new_size : AnalysisValue → List ℕ → List Part → ℕ
new_size a name run = option_map_or (λ (f : KeptValue). size_of f (new_bytes name run f)) (file_of a run) 0

-- they would be more than a file may have
abbrev pub is_too_large : AnalysisValue → List ℕ → List Part → Bool
is_too_large a name run = nat_lt most_bytes (new_size a name run)

-- a member stands in the file with this number
abbrev pub is_edited : List Part → ℕ → Bool
is_edited members number = list_any (λ (m : Part). m.start.file == number) members

-- how many bytes a file has that is not edited
abbrev pub kept_size : List Part → ℕ → KeptValue → ℕ
kept_size members number f = if is_edited members number then 0 else size_of f f.bytes

-- and how many all these have, from the entries from this number on
unfoldable pub kept_sizes : List Part → ℕ → Table → ℕ
kept_sizes members number [] = 0
kept_sizes members number (e ∷ table) = option_map_or (kept_size members number) (kept_in number e) 0 + kept_sizes members (number + 1) table

-- how many the edited files of these runs would have
abbrev pub new_sizes : AnalysisValue → List ℕ → List (List Part) → ℕ
new_sizes a name [] = 0
new_sizes a name (run ∷ others) = new_size a name run + new_sizes a name others

-- how many bytes all files would have together
unfoldable pub new_size_of_all : AnalysisValue → List ℕ → List Part → ℕ
new_size_of_all a name members = kept_sizes members 0 a.table + new_sizes a name (runs members)

-- ---- what inner functions promise each other

-- the member stands in the file
abbrev pub is_in : ℕ → Part → Bool
is_in file m = m.start.file == file

-- how many members stand in the file of the first one, one behind the other
abbrev pub run_length : List Part → ℕ
run_length [] = 0
run_length (m ∷ members) = prefix_len (is_in m.start.file) members + 1

-- None is empty, and in one file each ends before the next begins.
abbrev pub AreApart : List Part → Type 0
AreApart [] = Unit {0}
AreApart (m ∷ []) = 0 < m.len
AreApart (m ∷ n ∷ members) =
    (0 < m.len) × (n.start.file ≡ m.start.file → m.start.at + m.len ≤ n.start.at) × AreApart (n ∷ members)

-- a size, as far as the limits ask for it
abbrev pub most_size : ℕ
most_size = most_bytes_of_all + 1
