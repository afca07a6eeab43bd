-- Directive lines and macro definitions under a renaming (ISO/IEC 9899:1999, 6.10, 6.10.3).
use Rattle.std.specs.Prelude.{◌≡◌, ◌&&◌, ◌||◌, Bool, true, false, if◌then◌else◌, List, [], ◌∷◌, drop, map, codes}
use Rattle.std.specs.Option.{option_map, option_map_or}
use Rattle.std.specs.Str.{bytes_eq}
use Rattle.cs_base.specs.declared.tokens.Kind.{Kind}
use Rattle.cs_base.specs.declared.tokens.Kind.TheVariants.{Ident, Str}
use Rattle.cs_base.specs.Token.{Token}
use Rattle.line_shape.specs.declared.items.Item.{Item}
use Rattle.line_shape.specs.declared.items.ItemKind.{ItemKind}
use Rattle.line_shape.specs.declared.items.ItemKind.TheVariants.{Bad, Pragma, Gnu}
use Rattle.line_shape.specs.Signs.{is_name, is_word, is_va_args, is_hash}
use Rattle.line_shape.specs.Directives.{directive_named, is_define, is_include_next}
use Rattle.line_shape.specs.MacroLine.{is_function_like, before_close, params_in}
use Rattle.line_shape.specs.Items.{lines_of, items_of}
use Rattle.macro_expand.specs.Renaming.{Renaming, spelled, renamed, renamed_macro}
use Rattle.macro_body.specs.Defining.{defined_by}
use Rattle.source_files.specs.HeaderNames.{header_at, begins_header}
use Rattle.unit_steps.specs.Directives.{says_once}

-- a fact is true of each element
abbrev pub Each : {X : Type 0} → (X → Type 0) → List X → Type 0
Each P [] = Unit {0}
Each P (x ∷ xs) = P x × Each P xs

-- Neither an identifier nor a string literal. Where directives are read, the spelling of such a token counts; a string counts
-- by its kind, and an identifier by its kind and what is kept below.
abbrev pub is_fixed : Kind → Bool
is_fixed Ident = false
is_fixed Str = false
is_fixed _ = true

-- What a renaming keeps of each token: a token that is neither an identifier nor a string literal stays, and so do the words
-- `defined` and `__VA_ARGS__` (6.10.1 paragraph 1, 6.10.3 paragraph 5), `__VA_OPT__` and those by which conditions of GNU C ask
-- for headers, which no other token becomes.
pub record KeepsToken (r : Renaming) (t : Token) : Type 0 where
  pub others : is_fixed t.kind ≡ true → spelled r t ≡ t.text
  pub asks : is_word (codes "defined") (renamed r t) ≡ is_word (codes "defined") t
  pub rest : is_va_args (renamed r t) ≡ is_va_args t
  pub opts : is_word (codes "__VA_OPT__") (renamed r t) ≡ is_word (codes "__VA_OPT__") t
  pub header : is_word (codes "__has_include") (renamed r t) ≡ is_word (codes "__has_include") t
  pub next : is_word (codes "__has_include_next") (renamed r t) ≡ is_word (codes "__has_include_next") t

-- the parameters among the tokens behind the name of a macro
abbrev pub parameters_of : List Token → List Token
parameters_of toks = if is_function_like toks then params_in (before_close (drop 1 toks)) else []

-- an identifier is spelled like a parameter exactly where it was
abbrev pub NamesAsBefore : Renaming → Token → Token → Type 0
NamesAsBefore r p t = is_name t ≡ true → bytes_eq (spelled r t) (spelled r p) ≡ bytes_eq t.text p.text

-- So it is with each parameter of a macro and each token behind the macro's name.
abbrev pub KeepsParameters : Renaming → List Token → Type 0
KeepsParameters r toks = Each (λ p. Each (λ t. NamesAsBefore r p t) toks) (parameters_of toks)

-- the directive's word names a definition
abbrev pub defines : Token → Bool
defines word = option_map_or is_define (directive_named word) false

-- it asks for the next file of a name
abbrev pub is_next : ItemKind → Bool
is_next (Gnu line) = is_include_next line
is_next _ = false

abbrev pub asks_next : Token → Bool
asks_next word = option_map_or is_next (directive_named word) false

-- it is that of a pragma
abbrev pub is_pragma : ItemKind → Bool
is_pragma Pragma = true
is_pragma _ = false

abbrev pub begins_pragma : Token → Bool
begins_pragma word = option_map_or is_pragma (directive_named word) false

-- what stands behind the word is read as it stands: behind that of a pragma, and as the name of a header
abbrev pub stands_behind : Token → List Token → Bool
stands_behind word operands = begins_pragma word || (asks_next word && begins_header operands)

-- What a renaming keeps of a line: the directive that it names, in a definition the parameters, the header that stands in
-- a line that asks for the next file of its name, and whether a pragma says that its file is read once.
abbrev pub KeepsLine : Renaming → List Token → Type 0
KeepsLine r (hash ∷ word ∷ operands) =
    is_hash hash ≡ true → (directive_named (renamed r word) ≡ directive_named word) × (defines word ≡ true → KeepsParameters r (drop 1 operands))
    × (asks_next word ≡ true → begins_header operands ≡ true → header_at (map (renamed r) operands) ≡ header_at operands)
    × (begins_pragma word ≡ true → says_once (map (renamed r) (hash ∷ word ∷ operands)) ≡ says_once (hash ∷ word ∷ operands))
KeepsLine r _ = Unit {0}

-- an item whose positions moved
abbrev pub renamed_kind : Renaming → ItemKind → ItemKind
renamed_kind r (Bad cause at nests) = Bad cause (r.move at) nests
renamed_kind r kind = kind

abbrev pub renamed_item : Renaming → Item → Item
renamed_item r i = record {
  kind = renamed_kind r i.kind;
  at = r.move i.at;
  first_line = i.first_line;
  last_line = i.last_line;
  from = i.from;
  to = i.to;
}

-- The renamed tokens of a file have the same items, one for each, of the same tokens; only positions move.
abbrev pub ItemsAreRenamed : Type 0
ItemsAreRenamed = (r : Renaming) (toks : List Token) (firsts : List Bool) → Each (KeepsToken r) toks → Each (KeepsLine r) (lines_of toks firsts)
    → items_of (map (renamed r) toks) firsts ≡ map (renamed_item r) (items_of toks firsts)

-- The renamed tokens of a `define` line give the renamed definition.
abbrev pub DefinitionsAreRenamed : Type 0
DefinitionsAreRenamed = (r : Renaming) (line : List Token) → Each (KeepsToken r) line → KeepsParameters r (drop 3 line)
    → defined_by (map (renamed r) line) ≡ option_map (renamed_macro r) (defined_by line)
