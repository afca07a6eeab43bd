-- Members behind a backslash in what `#` makes a string of (ISO/IEC 9899:1999, 6.10.3.2): in the string the backslash begins an
-- escape sequence with what stands directly behind it (6.4.4.4), and another name there would be another sequence, or none.
use Rattle.std.specs.Prelude.{◌&&◌, not, if◌then◌else◌, Bool, false, List, [], ◌∷◌, ◌++◌}
use Rattle.std.specs.List.{flat_map}
use Rattle.std.specs.Str.{bytes_eq}
use Rattle.cs_base.specs.declared.positions.Part.{Part}
use Rattle.cs_base.specs.declared.positions.Pos.{Pos}
use Rattle.cs_base.specs.Token.{Token}
use Rattle.analysis.specs.Analysis.{UnitAnalysis, AnalysisValue}
use Rattle.analysis.specs.Below.lexer.Characters.{backslash}
use Rattle.rename_rules.specs.Tokens.{starts_in}

-- a backslash that is a token by itself
abbrev pub is_backslash : Token → Bool
is_backslash t = bytes_eq t.text (backslash ∷ [])

-- behind such a one that begins an escape sequence, with no white space between: the token is part of the sequence
abbrev pub is_escaped : Bool → Token → Bool
is_escaped behind t = behind && not t.gap

-- the members in it
abbrev pub escaped_place : List Part → Bool → Token → List Pos
escaped_place members behind t = if is_escaped behind t then starts_in members t else []

-- Those of the tokens of strings, one behind another; `behind` says that a backslash stands in front which begins an escape
-- sequence. No string ends with one, for its quote would belong to the sequence.
unfoldable pub escaped_places_of : List Part → Bool → List Token → List Pos
escaped_places_of members behind [] = []
escaped_places_of members behind (t ∷ toks) =
    escaped_place members behind t ++ escaped_places_of members (is_backslash t && not (is_escaped behind t)) toks

-- those of all strings
unfoldable pub escaped_places : AnalysisValue → List Part → List Pos
escaped_places a members = flat_map (λ (u : UnitAnalysis). escaped_places_of members false u.text.stringized) a.units
