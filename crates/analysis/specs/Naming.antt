-- What a place names (this project's): the part that holds its character, where that lies in an identifier which
-- some unit processes.
use Rattle.std.specs.Prelude.{ℕ, ◌+◌, ◌≡◌, if◌then◌else◌, Bool, true, Option, Some, None, List, [], ◌∷◌, filter, take, drop, slice_get}
use Rattle.std.specs.List.{flat_map, list_any}
use Rattle.std.specs.Option.{option_map, option_map_or, option_and_then}
use Rattle.std.specs.Str.{bytes_eq}
use Rattle.cs_base.specs.declared.positions.Part.{Part}
use Rattle.cs_base.specs.declared.positions.Pos.{Pos}
use Rattle.cs_base.specs.Token.{Token}
use Rattle.lexer.specs.Lines.{offset_of}
use Rattle.lexer.specs.Places.{pos}
use Rattle.lexer.specs.Tokens.{tokens_of, firsts_of}
use Rattle.include_tree.specs.Below.line_shape.declared.items.ItemKind.{ItemKind}
use Rattle.include_tree.specs.Below.line_shape.declared.items.ItemKind.TheVariants as kind
use Rattle.include_tree.specs.Below.line_shape.declared.items.GnuLine.{GnuLine}
use Rattle.include_tree.specs.Below.line_shape.declared.items.GnuLine.TheVariants.{IncludeNext, Elifdef, Elifndef}
use Rattle.include_tree.specs.Below.line_shape.Signs.{is_name}
use Rattle.include_tree.specs.Below.unit_steps.declared.events.Reached.{Reached}
use Rattle.include_tree.specs.Below.source_files.Files.{Table}
use Rattle.include_tree.specs.Below.source_files.HeaderNames.{is_header, begins_header}
use Rattle.include_tree.specs.Below.source_files.KeptFiles.{KeptValue, kept_in, kept_at}
use Rattle.include_tree.specs.Walk.{ItemText, item_texts}
use Rattle.eclass_map.specs.Positions.{holds}
use Rattle.eclass_map.specs.ClassTable.{Table as Classes, part_of}
use Rattle.analysis.specs.Analysis.{UnitAnalysis, AnalysisValue}
use Rattle.analysis.specs.FileTokens.{span_of}
use Rattle.analysis.specs.Parts.{IsPart}

-- ---- identifiers that are processed

-- the tokens behind the word of an include line, unless a header name is the first (6.10.2 paragraph 4)
abbrev pub computed_name : List Token → List Token
computed_name [] = []
computed_name (t ∷ toks) = if is_header t.kind then [] else t ∷ toks

-- the tokens behind the word of a line that asks for the next file of a name, unless they begin as a header
abbrev pub nameable_next : List Token → List Token
nameable_next toks = if begins_header toks then [] else toks

-- those behind the word of a line that GNU C alone has: the name that it asks for, or what names a file and is expanded
abbrev pub nameable_behind : GnuLine → Bool → List Token → List Token
nameable_behind Elifdef true toks = take 1 toks
nameable_behind Elifndef true toks = take 1 toks
nameable_behind IncludeNext evaluated toks = nameable_next toks
nameable_behind _ evaluated toks = []

-- The tokens of a reached item that a place may name: all of a run (6.10.3); the name, the parameters and the
-- replacement list of a definition; the name behind `undef`, `ifdef` and `ifndef`; all that stand behind the word
-- in a condition that was evaluated (6.10.1), and in an include line that is expanded.
abbrev pub nameable : ItemKind → Bool → List Token → List Token
nameable kind.Run evaluated toks = toks
nameable kind.Define evaluated toks = drop 2 toks
nameable kind.Undef evaluated toks = take 1 (drop 2 toks)
nameable kind.Ifdef evaluated toks = take 1 (drop 2 toks)
nameable kind.Ifndef evaluated toks = take 1 (drop 2 toks)
nameable kind.If true toks = drop 2 toks
nameable kind.Elif true toks = drop 2 toks
nameable kind.Include evaluated toks = computed_name (drop 2 toks)
nameable (kind.Gnu line) evaluated toks = nameable_behind line evaluated (drop 2 toks)
nameable _ evaluated toks = []

-- item number k of a file
abbrev pub item_at : ℕ → KeptValue → Option ItemText
item_at k file = slice_get (item_texts (tokens_of file.number file.bytes) (firsts_of file.bytes)) k

abbrev pub names_in_item : Bool → ItemText → List Token
names_in_item evaluated i = filter is_name (nameable i.kind evaluated i.toks)

-- the identifiers of an item that was reached
abbrev pub names_reached : Table → Reached → List Token
names_reached table r = option_map_or (names_in_item r.evaluated) (option_and_then (item_at r.item) (kept_at table r.file)) []

-- the identifiers that some unit processes
unfoldable pub names_processed : AnalysisValue → List Token
names_processed a = flat_map (λ (u : UnitAnalysis). flat_map (names_reached a.table) u.text.reached) a.units

-- the position lies in one of them
abbrev pub is_processed : AnalysisValue → Pos → Bool
is_processed a p = list_any (λ t. holds (span_of t) p) (names_processed a)

-- ---- places

-- the kept file of a path among the entries from this number on
unfoldable pub file_named : List ℕ → ℕ → Table → Option KeptValue
file_named path number [] = None
file_named path number (e ∷ table) = if bytes_eq path e.path then kept_in number e else file_named path (number + 1) table

-- the character of a file at a line and a column, if one stands there
abbrev pub character_of : ℕ → ℕ → KeptValue → Option Pos
character_of line column file = option_map (pos file.number) (offset_of file.bytes line column)

abbrev pub where_processed : AnalysisValue → Pos → Option Pos
where_processed a p = if is_processed a p then Some p else None

-- the position that a place names: that of its character, where it lies in a processed identifier
unfoldable pub named_position : AnalysisValue → List ℕ → ℕ → ℕ → Option Pos
named_position a path line column =
    option_and_then (where_processed a) (option_and_then (character_of line column) (file_named path 0 a.table))

-- The part that a place names, or none.
abbrev pub Names : AnalysisValue → List ℕ → ℕ → ℕ → Option Part → Type 0
Names a path line column None = named_position a path line column ≡ None
Names a path line column (Some part) =
    (p : Pos) × (named_position a path line column ≡ Some p) × IsPart a part × (holds part p ≡ true)

-- the same by a table of the classes
abbrev pub part_named : AnalysisValue → Classes → List ℕ → ℕ → ℕ → Option Part
part_named a classes path line column = option_and_then (part_of classes) (named_position a path line column)
