-- The lists of functions in the files (this project's): where their items stand, and the bytes once these are in another
-- order. A list that several units process, or one unit several times, stands in its file once.
use Rattle.std.specs.Prelude.{ℕ, ◌+◌, ◌-◌, ◌==◌, nat_le, nat_lt, if◌then◌else◌, Bool, false, List, [], ◌∷◌, ◌++◌, count_by, length, map, slice_get, slice_index_or, unwrap_or}
use Rattle.std.specs.List.{flat_map, insert, prefix_len}
use Rattle.std.specs.Option.{option_map_or}
use Rattle.cs_base.specs.declared.positions.Part.{Part}
use Rattle.cs_base.specs.declared.positions.Pos.{Pos}
use Rattle.cs_base.specs.Edit.{Edit, edit}
use Rattle.cs_base.specs.Token.{Token, origin_at}
use Rattle.c_types.specs.declared.lists.List.{List as NameList}
use Rattle.edited_files.specs.Edited.{with_each}
use Rattle.list_cuts.specs.declared.spans.Span.{Span}
use Rattle.list_cuts.specs.Spans.{all_rearranged}
use Rattle.analysis.specs.Below.lexer.Lines.{byte_offset_of}
use Rattle.analysis.specs.Below.lexer.Tokens.{tokens_of}
use Rattle.analysis.specs.Below.scope_bind.declared.bound.Name.{Name}
use Rattle.analysis.specs.Below.source_files.Files.{Table}
use Rattle.analysis.specs.Below.source_files.KeptFiles.{KeptValue, kept_in}
use Rattle.analysis.specs.Analysis.{UnitAnalysis, AnalysisValue}
use Rattle.template_rules.specs.declared.file_lists.FoundList.{FoundList}
use Rattle.template_rules.specs.Functions.{origin_of, place_of, names_function}
use Rattle.template_rules.specs.Lists.{separators}

-- ---- lists in files, each by the characters of its parentheses and of the commas between its items

abbrev pub character_in : ℕ → Pos → List ℕ
character_in file p = if p.file == file then p.at ∷ [] else []

abbrev pub characters_of : ℕ → List Token → ℕ → List ℕ
characters_of file toks k = flat_map (character_in file) (place_of toks k)

-- a list whose `(` stands in this file
abbrev pub found_list : ℕ → List ℕ → FoundList
found_list file marks = record { file = file; marks = marks }

abbrev pub found_at : List Token → NameList → Pos → List FoundList
found_at toks l p = found_list p.file (flat_map (characters_of p.file toks) (separators l)) ∷ []

-- it stands in a file
abbrev pub found_in : List Token → NameList → List FoundList
found_in toks l = option_map_or (found_at toks l) (origin_of toks l.begin) []

-- if it is one of a function that the class names
abbrev pub function_list : List Part → List Token → List Name → NameList → List FoundList
function_list members toks names l = if names_function members toks names l.name then found_in toks l else []

abbrev pub unit_found : List Part → UnitAnalysis → List FoundList
unit_found members u =
    flat_map (function_list members u.text.toks u.bound.names) u.bound.declarators
    ++ flat_map (function_list members u.text.toks u.bound.names) u.bound.calls

-- the lists of all functions
abbrev pub all_found : List Part → AnalysisValue → List FoundList
all_found members a = flat_map (unit_found members) a.units

-- ---- the lists in a file

-- where a list begins
abbrev pub begin_of : List ℕ → ℕ
begin_of l = slice_index_or l 0 0

-- how many lists begin before a character
abbrev pub place_for : ℕ → List (List ℕ) → ℕ
place_for at lists = prefix_len (λ m. nat_lt (begin_of m) at) lists

-- list number k begins there
abbrev pub begins_at : ℕ → List (List ℕ) → ℕ → Bool
begins_at at lists k = option_map_or (λ m. begin_of m == at) (slice_get lists k) false

-- lists in the order in which they begin, once this one is among them
abbrev pub with_list : List ℕ → List (List ℕ) → List (List ℕ)
with_list l lists =
    if begins_at (begin_of l) lists (place_for (begin_of l) lists) then lists else insert lists (place_for (begin_of l) lists) l

-- the same for each of these, in order
unfoldable pub with_lists : List (List ℕ) → List (List ℕ) → List (List ℕ)
with_lists [] lists = lists
with_lists (l ∷ more) lists = with_lists more (with_list l lists)

-- it stands in this file
abbrev pub marks_in : ℕ → FoundList → List (List ℕ)
marks_in file f = if f.file == file then f.marks ∷ [] else []

-- Those of them that stand in a file, each once, in the order in which they begin.
abbrev pub lists_in : List FoundList → ℕ → List (List ℕ)
lists_in found file = with_lists (flat_map (marks_in file) found) []

-- ---- the bytes of items

-- how many tokens of the file begin up to a character, and before one
abbrev pub begun_by : List Token → ℕ → ℕ
begun_by toks at = count_by (λ (t : Token). nat_le t.at.at at) toks

abbrev pub begun_before : List Token → ℕ → ℕ
begun_before toks at = count_by (λ (t : Token). nat_lt t.at.at at) toks

-- the byte at a position of the file
abbrev pub byte_in : List ℕ → Pos → ℕ
byte_in bytes p = unwrap_or (byte_offset_of bytes p.at) 0

-- the byte at which a token begins, and that behind its last character
abbrev pub first_byte : List ℕ → Token → ℕ
first_byte bytes t = option_map_or (byte_in bytes) (origin_at t 0) 0

abbrev pub end_byte : List ℕ → Token → ℕ
end_byte bytes t = option_map_or (λ p. byte_in bytes p + 1) (origin_at t (length t.text - 1)) 0

-- the item behind one character and before another: from its first token to behind its last
abbrev pub item_between : List ℕ → List Token → ℕ → ℕ → Span
item_between bytes toks after before = record {
  begin = option_map_or (first_byte bytes) (slice_get toks (begun_by toks after)) 0;
  end = option_map_or (end_byte bytes) (slice_get toks (begun_before toks before - 1)) 0;
}

-- the items of a list
abbrev pub items_of : List ℕ → List Token → List ℕ → List Span
items_of bytes toks (after ∷ before ∷ more) = item_between bytes toks after before ∷ items_of bytes toks (before ∷ more)
items_of bytes toks _ = []

-- ---- edits

-- the bytes of a file with the items of these lists in the new order
abbrev pub new_bytes : List ℕ → List (List ℕ) → KeptValue → List ℕ
new_bytes order lists f = all_rearranged order (map (items_of f.bytes (tokens_of f.number f.bytes)) lists) f.bytes

-- the edit of a file that has such lists
abbrev pub edit_for : List ℕ → KeptValue → List (List ℕ) → List Edit
edit_for order f [] = []
edit_for order f lists = edit f.path (new_bytes order lists f) (length lists) ∷ []

abbrev pub edit_in : List FoundList → List ℕ → KeptValue → List Edit
edit_in found order f = edit_for order f (lists_in found f.number)

-- those of the entries of a table from this number on
unfoldable pub edits_from : List FoundList → List ℕ → ℕ → Table → List Edit
edits_from found order number [] = []
edits_from found order number (e ∷ table) =
    option_map_or (edit_in found order) (kept_in number e) [] ++ edits_from found order (number + 1) table

-- The edits of the files that hold a list of the functions, in the order of their paths, each with the number of its lists.
unfoldable pub edits_of : List Part → AnalysisValue → List ℕ → List Edit
edits_of members a order = with_each (edits_from (all_found members a) order 0 a.table) []
