-- The files of an analysis, their items and the tokens of these (ISO/IEC 9899:1999, 6.10).
use Rattle.std.specs.Prelude.{ℕ, ◌+◌, Bool, true, false, List, [], ◌∷◌, ◌++◌, slice_range}
use Rattle.std.specs.List.{flat_map}
use Rattle.std.specs.Option.{option_map_or}
use Rattle.cs_base.specs.Token.{Token}
use Rattle.line_shape.specs.declared.items.Item.{Item}
use Rattle.line_shape.specs.declared.items.ItemKind.{ItemKind}
use Rattle.line_shape.specs.declared.items.ItemKind.TheVariants as kind
use Rattle.line_shape.specs.Items.{items_of}
use Rattle.analysis.specs.Below.lexer.Tokens.{tokens_of, firsts_of}
use Rattle.analysis.specs.Below.source_files.Files.{Table}
use Rattle.analysis.specs.Below.source_files.KeptFiles.{KeptValue, kept_in}

-- the tokens of a file
abbrev pub toks_in : KeptValue → List Token
toks_in f = tokens_of f.number f.bytes

-- its directive lines, and the runs of text lines between them
abbrev pub items_in : KeptValue → List Item
items_in f = items_of (tokens_of f.number f.bytes) (firsts_of f.bytes)

-- the tokens of an item
abbrev pub item_toks : List Token → Item → List Token
item_toks toks i = slice_range toks i.from i.to

abbrev pub is_define : ItemKind → Bool
is_define kind.Define = true
is_define _ = false

abbrev pub is_run : ItemKind → Bool
is_run kind.Run = true
is_run _ = false

-- what is found in each file, from the entries from this number on
unfoldable pub found_from : {X : Type 0} → (KeptValue → List X) → ℕ → Table → List X
found_from find number [] = []
found_from find number (e ∷ table) = option_map_or find (kept_in number e) [] ++ found_from find (number + 1) table

-- what is found in each item of a file
abbrev pub in_items : {X : Type 0} → (List Token → Item → List X) → KeptValue → List X
in_items find f = flat_map (find (toks_in f)) (items_in f)

-- what is found in each file, and what in each item of all files
abbrev pub in_files : {X : Type 0} → (KeptValue → List X) → Table → List X
in_files find table = found_from find 0 table

abbrev pub in_all_items : {X : Type 0} → (List Token → Item → List X) → Table → List X
in_all_items find table = in_files (in_items find) table
