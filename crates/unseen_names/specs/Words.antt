-- Identifiers of files that may be edited, by their spelling (this project's, over ISO/IEC 9899:1999, 6.4.2, 6.10, 6.10.3 and 6.10.9).
use Rattle.std.specs.Prelude.{ℕ, ◌+◌, ◌&&◌, if◌then◌else◌, Bool, true, false, List, [], ◌∷◌, ◌++◌, drop, slice_range}
use Rattle.std.specs.List.{flat_map, list_any}
use Rattle.std.specs.Option.{option_map_or}
use Rattle.std.specs.Str.{bytes_eq}
use Rattle.cs_base.specs.declared.positions.Part.{Part}
use Rattle.cs_base.specs.Token.{Token}
use Rattle.line_shape.specs.declared.items.Item.{Item}
use Rattle.line_shape.specs.declared.items.ItemKind.{ItemKind}
use Rattle.line_shape.specs.declared.items.ItemKind.TheVariants as kind
use Rattle.line_shape.specs.Items.{items_of}
use Rattle.line_shape.specs.MacroLine.{is_function_like, before_close, params_in}
use Rattle.line_shape.specs.Signs.{is_name}
use Rattle.analysis.specs.Below.lexer.Tokens.{tokens_of, firsts_of}
use Rattle.analysis.specs.Below.source_files.Files.{Table}
use Rattle.analysis.specs.Below.source_files.KeptFiles.{KeptValue, kept_in}
use Rattle.analysis.specs.Analysis.{AnalysisValue}
use Rattle.analysis.specs.FileTokens.{span_of}
use Rattle.analysis.specs.Places.{is_read_only}
use Rattle.unseen_names.specs.declared.words.Source.{Source}
use Rattle.unseen_names.specs.declared.words.Source.TheVariants.{Names, Pragmas}
use Rattle.unseen_names.specs.Pragmas.{pragma_words}

-- ---- lines

abbrev pub is_run : ItemKind → Bool
is_run kind.Run = true
is_run _ = false

abbrev pub is_define : ItemKind → Bool
is_define kind.Define = true
is_define _ = false

-- the tokens of an item; in a directive line those behind its word
abbrev pub operands : ItemKind → List Token → List Token
operands kind line = if is_run kind then line else drop 2 line

-- the parameters of the macro that a line defines (6.10.3)
abbrev pub parameters_of : List Token → List Token
parameters_of line = if is_function_like (drop 3 line) then params_in (before_close (drop 4 line)) else []

abbrev pub is_spelled : List ℕ → Token → Bool
is_spelled name t = bytes_eq name t.text

-- The line defines a macro with a parameter of this name: there the name stands for what a call gives.
abbrev pub has_parameter : List ℕ → ItemKind → List Token → Bool
has_parameter name kind line = is_define kind && list_any (is_spelled name) (parameters_of line)

-- ---- identifiers

-- where an identifier of this spelling stands
abbrev pub word : List ℕ → Token → List Part
word name t = if is_name t && is_spelled name t then span_of t ∷ [] else []

-- those of an item with these tokens, unless it is the line of a macro with such a parameter
abbrev pub name_words : List ℕ → ItemKind → List Token → List Part
name_words name kind line = if has_parameter name kind line then [] else flat_map (word name) (operands kind line)

-- those that are tokens, or those in the string literals of `_Pragma` operators, where no parameter is replaced
abbrev pub line_words : Source → List ℕ → ItemKind → List Token → List Part
line_words Names name kind line = name_words name kind line
line_words Pragmas name kind line = pragma_words name (operands kind line)

-- the tokens of an item, of those of its file
abbrev pub item_toks : List Token → Item → List Token
item_toks toks i = slice_range toks i.from i.to

abbrev pub item_words : Source → List ℕ → List Token → Item → List Part
item_words source name toks i = line_words source name i.kind (item_toks toks i)

-- the tokens of a file, and its directive lines with the runs of text lines between them
abbrev pub toks_in : KeptValue → List Token
toks_in f = tokens_of f.number f.bytes

abbrev pub items_in : KeptValue → List Item
items_in f = items_of (tokens_of f.number f.bytes) (firsts_of f.bytes)

-- those of a file
abbrev pub file_words : Source → List ℕ → KeptValue → List Part
file_words source name f = flat_map (item_words source name (toks_in f)) (items_in f)

-- those of a file that may be edited: of no read-only file and of no pseudo file
abbrev pub edited_words : AnalysisValue → Source → List ℕ → KeptValue → List Part
edited_words a source name f = if is_read_only a.table a.workspace.readonly f.number then [] else file_words source name f

-- what is found in each file, from the entries from this number on
unfoldable pub found_from : {X : Type 0} → (KeptValue → List X) → ℕ → Table → List X
found_from find number [] = []
found_from find number (e ∷ table) = option_map_or find (kept_in number e) [] ++ found_from find (number + 1) table

-- The identifiers of this spelling in the files that may be edited, in skipped groups too.
abbrev pub words_of : AnalysisValue → Source → List ℕ → List Part
words_of a source name = found_from (edited_words a source name) 0 a.table
