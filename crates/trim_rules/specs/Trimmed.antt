-- Include lines that become null directives (ISO/IEC 9899:1999, 6.10.7): the bytes of their tokens behind the `#` go, and white
-- space, comments and line splices stay.
use Rattle.std.specs.Prelude.{ℕ, ◌+◌, Bool, if◌then◌else◌, List, [], ◌∷◌, ◌++◌, drop, filter, length, map}
use Rattle.std.specs.List.{list_any, flat_map}
use Rattle.std.specs.Option.{option_map_or}
use Rattle.cs_base.specs.declared.positions.Part.{Part}
use Rattle.cs_base.specs.declared.positions.Pos.{Pos}
use Rattle.cs_base.specs.Edit.{Edit, edit}
use Rattle.edited_files.specs.Edited.{with_each}
use Rattle.analysis.specs.Below.include_tree.PseudoFiles.{is_pseudo}
use Rattle.analysis.specs.Below.include_tree.Walk.{ItemText}
use Rattle.analysis.specs.Below.source_files.Files.{Table}
use Rattle.analysis.specs.Below.source_files.KeptFiles.{KeptValue, kept_in}
use Rattle.analysis.specs.FileTokens.{span_of}
use Rattle.part_respell.specs.Respelled.{respelled}
use Rattle.unused_names.specs.Lines.{is_position}
use Rattle.trim_rules.specs.Staying.{items_of}

-- the position is that of one of these lines
abbrev pub is_line : List Pos → Pos → Bool
is_line lines p = list_any (λ q. is_position q p) lines

-- the items of a file that are these lines; a pseudo file is not edited
abbrev pub lines_in : List Pos → KeptValue → List ItemText
lines_in lines f = if is_pseudo f.path then [] else filter (λ (i : ItemText). is_line lines i.at) (items_of f)

-- the tokens behind the `#` of a line, each from its first character on
abbrev pub behind_hash : ItemText → List Part
behind_hash i = map span_of (drop 1 i.toks)

-- the bytes of a file without the tokens of these lines
abbrev pub without : List ItemText → KeptValue → List ℕ
without [] f = f.bytes
without items f = respelled (flat_map behind_hash items) [] f.number f.bytes

-- the bytes of a file in which these lines are null directives
unfoldable pub trimmed : List Pos → KeptValue → List ℕ
trimmed lines f = without (lines_in lines f) f

-- the edit of a file that has such lines, with their number
abbrev pub edit_for : KeptValue → List ItemText → List Edit
edit_for f [] = []
edit_for f items = edit f.path (without items f) (length items) ∷ []

abbrev pub edit_in : List Pos → KeptValue → List Edit
edit_in lines f = edit_for f (lines_in lines f)

-- those of the entries of a table from this number on
unfoldable pub edits_from : List Pos → ℕ → Table → List Edit
edits_from lines number [] = []
edits_from lines number (e ∷ table) = option_map_or (edit_in lines) (kept_in number e) [] ++ edits_from lines (number + 1) table

-- the edits of the files in which these lines stand, in the order of their paths
unfoldable pub edits_of : List Pos → Table → List Edit
edits_of lines table = with_each (edits_from lines 0 table) []
