-- The replacement lists of macros, as they stand in the files of an analysis (ISO/IEC 9899:1999, 6.10.3 paragraphs 9
-- and 10).
use Rattle.std.specs.Prelude.{ℕ, ◌+◌, ◌==◌, ◌&&◌, if◌then◌else◌, Bool, true, false, Option, List, [], ◌∷◌, ◌++◌, drop, find, map, slice_get}
use Rattle.std.specs.List.{flat_map, position}
use Rattle.std.specs.Option.{option_map, option_map_or}
use Rattle.cs_base.specs.declared.positions.Pos.{Pos}
use Rattle.cs_base.specs.Token.{Token, origin_at}
use Rattle.analysis.specs.Below.lexer.Tokens.{tokens_of, firsts_of}
use Rattle.line_shape.specs.declared.items.Item.{Item}
use Rattle.line_shape.specs.declared.items.ItemKind.{ItemKind}
use Rattle.line_shape.specs.declared.items.ItemKind.TheVariants as kind
use Rattle.line_shape.specs.Signs.{is_close}
use Rattle.line_shape.specs.Items.{items_of}
use Rattle.line_shape.specs.MacroLine.{is_function_like}
use Rattle.analysis.specs.Below.source_files.Files.{Entry, Table}
use Rattle.analysis.specs.Below.source_files.KeptFiles.{KeptValue, kept_in}
use Rattle.analysis.specs.Below.include_tree.Walk.{ItemText, item_text}
use Rattle.analysis.specs.Analysis.{AnalysisValue}

-- ---- a `define` line

-- what stands behind the first `)`
abbrev pub behind_first_close : List Token → List Token
behind_first_close toks = option_map_or (λ k. drop (k + 1) toks) (position is_close toks) []

-- the replacement list among the tokens behind a macro's name: of a function-like macro it stands behind the
-- parameters, of an object-like macro it is all of them
abbrev pub list_behind : List Token → List Token
list_behind toks = if is_function_like toks then behind_first_close toks else toks

-- a token of a replacement list, and the name of the macro
pub record Owned : Type 0 where
  pub macro_name : Token
  pub tok : Token

abbrev pub owned : Token → Token → Owned
owned macro_name tok = record { macro_name = macro_name; tok = tok }

-- those that a `define` line has: the name stands behind the `#` and the word
abbrev pub owned_by : List Token → List Owned
owned_by line = option_map_or (λ macro_name. map (owned macro_name) (list_behind (drop 3 line))) (slice_get line 2) []

-- ---- files

abbrev pub is_define : ItemKind → Bool
is_define kind.Define = true
is_define _ = false

-- those of an item
abbrev pub owned_in : ItemText → List Owned
owned_in i = if is_define i.kind then owned_by i.toks else []

-- those of an item of a file with these tokens
abbrev pub owned_in_item : List Token → Item → List Owned
owned_in_item toks i = owned_in (item_text toks i)

-- those of a file
abbrev pub owned_in_file : KeptValue → List Owned
owned_in_file f = flat_map (owned_in_item (tokens_of f.number f.bytes)) (items_of (tokens_of f.number f.bytes) (firsts_of f.bytes))

-- those of an entry with this number
abbrev pub entry_owned : ℕ → Entry → List Owned
entry_owned number e = option_map_or owned_in_file (kept_in number e) []

-- those of the entries from this number on
unfoldable pub owned_from : ℕ → Table → List Owned
owned_from number [] = []
owned_from number (e ∷ table) = entry_owned number e ++ owned_from (number + 1) table

-- ---- whose replacement list it is

-- two positions are one
abbrev pub is_pos : Pos → Pos → Bool
is_pos p q = p.file == q.file && p.at == q.at

-- the token begins at the position
abbrev pub begins_at : Pos → Token → Bool
begins_at p t = option_map_or (λ q. is_pos q p) (origin_at t 0) false

-- the name of the macro in whose replacement list a token begins there, among these
abbrev pub owner_among : List Owned → Pos → Option Token
owner_among toks p = option_map (λ (o : Owned). o.macro_name) (find (λ (o : Owned). begins_at p o.tok) toks)

-- The name of the macro in whose replacement list the position stands, if it is the first of a name: the first
-- character of a name is the first one of a token of a file, also where it was pasted (6.10.3.3).
unfoldable pub owner_of : AnalysisValue → Pos → Option Token
owner_of a p = owner_among (owned_from 0 a.table) p
