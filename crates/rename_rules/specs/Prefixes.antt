-- Names that would become the prefix of a constant (this project's): directly in front of a quote a compiler of C11 or of
-- GNU C reads them as one token with what is quoted.
use Rattle.std.specs.Prelude.{ℕ, ◌+◌, ◌&&◌, not, if◌then◌else◌, Bool, true, false, List, [], ◌∷◌, ◌++◌, codes}
use Rattle.std.specs.List.{list_any}
use Rattle.std.specs.Option.{option_map_or}
use Rattle.std.specs.Str.{bytes_eq}
use Rattle.cs_base.specs.declared.positions.Part.{Part}
use Rattle.cs_base.specs.declared.positions.Pos.{Pos}
use Rattle.cs_base.specs.declared.tokens.Kind.{Kind}
use Rattle.cs_base.specs.declared.tokens.Kind.TheVariants.{Char, Str}
use Rattle.cs_base.specs.Token.{Token}
use Rattle.analysis.specs.Below.source_files.Files.{Table}
use Rattle.analysis.specs.Below.source_files.KeptFiles.{KeptValue, kept_in}
use Rattle.part_respell.specs.Respelled.{spelled}
use Rattle.offences.specs.Tokens.{file_toks}
use Rattle.rename_rules.specs.Tokens.{starts_in}

-- The prefixes of C11 (ISO/IEC 9899:2011, 6.4.4.4 and 6.4.5) and of the raw strings of GNU C; `L` is a reserved spelling.
abbrev pub prefixes : List (List ℕ)
prefixes =
    codes "u8" ∷ codes "u" ∷ codes "U" ∷ codes "R" ∷ codes "LR" ∷ codes "uR" ∷ codes "UR" ∷ codes "u8R" ∷ []

-- one of them is spelled so
unfoldable pub is_prefix : List ℕ → Bool
is_prefix text = list_any (bytes_eq text) prefixes

-- a character constant or a string literal (ISO/IEC 9899:1999, 6.4.4.4 and 6.4.5)
abbrev pub is_quoted : Kind → Bool
is_quoted Char = true
is_quoted Str = true
is_quoted _ = false

-- such a token, with no white space in front of it
abbrev pub is_joined : Token → Bool
is_joined t = is_quoted t.kind && not t.gap

-- the members in a token that would become the prefix of the token behind it
abbrev pub prefix_place : List Part → List ℕ → Token → Token → List Pos
prefix_place members name t next = if is_joined next && is_prefix (spelled members name t) then starts_in members t else []

-- the same for each two of these tokens that stand side by side
unfoldable pub prefix_places_of : List Part → List ℕ → List Token → List Pos
prefix_places_of members name (t ∷ next ∷ toks) = prefix_place members name t next ++ prefix_places_of members name (next ∷ toks)
prefix_places_of members name _ = []

-- in a file
abbrev pub prefix_places_in : List Part → List ℕ → KeptValue → List Pos
prefix_places_in members name f = prefix_places_of members name (file_toks f)

-- in the files of a table from this number on
unfoldable pub prefix_places : List Part → List ℕ → ℕ → Table → List Pos
prefix_places members name number [] = []
prefix_places members name number (e ∷ table) =
    option_map_or (prefix_places_in members name) (kept_in number e) [] ++ prefix_places members name (number + 1) table
