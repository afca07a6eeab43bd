-- Words in the string literals of `_Pragma` operators (ISO/IEC 9899:1999, 6.10.9).
-- They are those of the characters as written: what the operator replaces, `\"` and `\\`, changes no word.
use Rattle.std.specs.Prelude.{ℕ, ◌+◌, ◌&&◌, ◌||◌, not, if◌then◌else◌, Bool, true, false, List, [], ◌∷◌, ◌++◌, codes, drop, length, take, unwrap_or}
use Rattle.std.specs.Str.{bytes_eq}
use Rattle.cs_base.specs.declared.positions.Part.{Part}
use Rattle.cs_base.specs.declared.tokens.Kind.{Kind}
use Rattle.cs_base.specs.declared.tokens.Kind.TheVariants.{Str}
use Rattle.cs_base.specs.Token.{Token, origin_at}
use Rattle.line_shape.specs.Signs.{is_open, is_close, is_word}
use Rattle.analysis.specs.Below.lexer.Characters.{is_word as goes_on}
use Rattle.analysis.specs.Below.lexer.Places.{pos}

-- ---- words in a string literal

-- a character stands first that no identifier has (6.4.2.1)
abbrev pub begins_apart : List ℕ → Bool
begins_apart [] = false
begins_apart (c ∷ cs) = not (goes_on c)

-- an identifier of this spelling stands first
abbrev pub begins_with_word : List ℕ → List ℕ → Bool
begins_with_word name text = bytes_eq name (take (length name) text) && begins_apart (drop (length name) text)

-- one stands behind the first character, which no identifier has
abbrev pub has_word_behind : List ℕ → List ℕ → Bool
has_word_behind name [] = false
has_word_behind name (c ∷ cs) = not (goes_on c) && begins_with_word name cs

-- so many characters of the token behind number k
abbrev pub span_behind : Token → ℕ → ℕ → Part
span_behind t k len = record { start = unwrap_or (origin_at t (k + 1)) (pos 0 0); len = len }

-- where an identifier of this spelling stands behind character k of the token, if the text is what the token has from k on
abbrev pub word_behind : List ℕ → Token → ℕ → List ℕ → List Part
word_behind name t k text = if has_word_behind name text then span_behind t k (length name) ∷ [] else []

-- behind each character from k on
unfoldable pub words_behind : List ℕ → Token → ℕ → List ℕ → List Part
words_behind name t k [] = []
words_behind name t k (c ∷ cs) = word_behind name t k (c ∷ cs) ++ words_behind name t (k + 1) cs

-- where the identifiers of this spelling stand in a string literal: each between two characters that no identifier has
abbrev pub inner_words : List ℕ → Token → List Part
inner_words name t = words_behind name t 0 t.text

-- ---- operators

abbrev pub is_string_kind : Kind → Bool
is_string_kind Str = true
is_string_kind _ = false

-- an encoding prefix (ISO/IEC 9899:2011, 6.4.5) that is a name in files; `L` is one token with its string literal
unfoldable pub is_encoding : Token → Bool
is_encoding t = is_word (codes "u8") t || (is_word (codes "u") t || is_word (codes "U") t)

-- a token stands first, with no white space in front of it
abbrev pub begins_joined : List Token → Bool
begins_joined [] = false
begins_joined (t ∷ toks) = not t.gap

-- the tokens behind such a prefix
abbrev pub behind_encoding : List Token → List Token
behind_encoding [] = []
behind_encoding (t ∷ toks) = if is_encoding t && begins_joined toks then toks else t ∷ toks

-- the identifiers of this spelling in a string literal that stands first, with `)` behind it
abbrev pub closed_words : List ℕ → List Token → List Part
closed_words name (t ∷ close ∷ toks) = if is_string_kind t.kind && is_close close then inner_words name t else []
closed_words name _ = []

-- those in an operand: `(`, one string literal of any prefix, and `)`
abbrev pub operand_words : List ℕ → List Token → List Part
operand_words name [] = []
operand_words name (t ∷ toks) = if is_open t then closed_words name (behind_encoding toks) else []

-- those of the operator that a token is, with these tokens behind it, if it is one
abbrev pub operator_words : List ℕ → Token → List Token → List Part
operator_words name t toks = if is_word (codes "_Pragma") t then operand_words name toks else []

-- those of all operators among the tokens
unfoldable pub pragma_words : List ℕ → List Token → List Part
pragma_words name [] = []
pragma_words name (t ∷ toks) = operator_words name t toks ++ pragma_words name toks
