-- The operator # (ISO/IEC 9899:1999, 6.10.3.2): the spelling of an argument becomes a string literal. Which characters of
-- files its characters come from is this project's.
use Rattle.std.specs.Prelude.{ℕ, Bool, true, false, ◌&&◌, ◌||◌, ◌==◌, if◌then◌else◌, List, [], ◌∷◌, ◌++◌, Option, Some, None, Result, Ok, Err}
use Rattle.std.specs.List.{flat_map}
use Rattle.cs_base.specs.declared.positions.Pos.{Pos}
use Rattle.cs_base.specs.declared.tokens.Kind.{Kind}
use Rattle.cs_base.specs.declared.tokens.Kind.TheVariants.{Char, Str}
use Rattle.cs_base.specs.Token.{Token, token}
use Rattle.lexer.specs.Characters.{backslash, double_quote}
use Rattle.lexer.specs.Places.{pos}
use Rattle.lexer.specs.Spelling.{is_plain_string_text}

-- Why tokens make no string: their text is not one string literal.
pub data StringFault : Type 0 where
  NotAString : StringFault

abbrev pub space : ℕ
space = 32

-- a character constant or a string literal
abbrev pub is_quoted : Kind → Bool
is_quoted Char = true
is_quoted Str = true
is_quoted _ = false

-- a backslash goes before this character of a token (6.10.3.2 paragraph 2): a double quote or a
-- backslash of a character constant or a string literal
abbrev pub needs_backslash : Kind → ℕ → Bool
needs_backslash kind c = is_quoted kind && (c == double_quote || c == backslash)

-- a character of a token, as it stands in the string
abbrev pub escaped : Kind → ℕ → List ℕ
escaped kind c = if needs_backslash kind c then backslash ∷ c ∷ [] else c ∷ []

-- the spelling of a token, as it stands in the string
abbrev pub spelling_of : Token → List ℕ
spelling_of t = flat_map (escaped t.kind) t.text

-- the spelling of a token behind another one: one space stands for white space between them
abbrev pub later_spelling : Token → List ℕ
later_spelling t = (if t.gap then space ∷ [] else []) ++ spelling_of t

-- the spelling of the tokens; white space before the first of them goes
abbrev pub spellings_of : List Token → List ℕ
spellings_of [] = []
spellings_of (t ∷ ts) = spelling_of t ++ flat_map later_spelling ts

-- the text of the string
abbrev pub string_text : List Token → List ℕ
string_text ts = double_quote ∷ spellings_of ts ++ double_quote ∷ []

-- ---- origins

-- the origins of a character of a token, as it stands in the string: its own, and none for a backslash that goes before it
abbrev pub escaped_origins : Kind → ℕ → Option Pos → List (Option Pos)
escaped_origins kind c origin = if needs_backslash kind c then None ∷ origin ∷ [] else origin ∷ []

-- those of characters of a token that have these origins
unfoldable pub origins_along : Kind → List ℕ → List (Option Pos) → List (Option Pos)
origins_along kind [] origins = []
origins_along kind (c ∷ cs) [] = []
origins_along kind (c ∷ cs) (origin ∷ origins) = escaped_origins kind c origin ++ origins_along kind cs origins

-- those of the spelling of a token
abbrev pub origins_of : Token → List (Option Pos)
origins_of t = origins_along t.kind t.text t.origins

-- those of the spelling of a token behind another one: the space has none
abbrev pub later_origins : Token → List (Option Pos)
later_origins t = (if t.gap then None ∷ [] else []) ++ origins_of t

-- those of the spelling of the tokens
abbrev pub all_origins : List Token → List (Option Pos)
all_origins [] = []
all_origins (t ∷ ts) = origins_of t ++ flat_map later_origins ts

-- those of the string: the quotes around it have none
abbrev pub string_origins : List Token → List (Option Pos)
string_origins ts = None ∷ all_origins ts ++ None ∷ []

-- ---- the token

-- a string literal of this text, with these origins; its labels are blank
abbrev pub string_token : List ℕ → List (Option Pos) → Token
string_token text origins = token Str text origins false (pos 0 0) 0 false

-- The string that tokens make (6.10.3.2 paragraph 2): each character of theirs keeps its origin; or the fault, where their text is not
-- one string literal and nothing more (6.4.5), as it is with a comment behind one.
unfoldable pub stringize_of : List Token → Result Token StringFault
stringize_of ts =
    if is_plain_string_text (string_text ts) then Ok (string_token (string_text ts) (string_origins ts)) else Err NotAString
