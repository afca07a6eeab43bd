-- The names of include lines (ISO/IEC 9899:1999, 6.10.2).
use Rattle.std.specs.Prelude.{ℕ, ◌-◌, ◌&&◌, ◌||◌, Bool, true, false, if◌then◌else◌, Option, Some, None, List, [], ◌∷◌, ◌++◌, codes, length, take, drop}
use Rattle.std.specs.List.{list_any, position}
use Rattle.std.specs.Option.{option_map}
use Rattle.cs_base.specs.declared.tokens.Kind.{Kind}
use Rattle.cs_base.specs.declared.tokens.Kind.TheVariants as kind
use Rattle.cs_base.specs.Token.{Token}
use Rattle.lexer.specs.Characters.{begins, double_quote}
use Rattle.line_shape.specs.Signs.{is_sign}
use Rattle.source_files.specs.Search.{Header, header}

abbrev pub is_header : Kind → Bool
is_header kind.Header = true
is_header _ = false

abbrev pub is_string : Kind → Bool
is_string kind.Str = true
is_string _ = false

-- a text without its first and its last character
abbrev pub inside : List ℕ → List ℕ
inside text = take (length text - 2) (drop 1 text)

-- the name of a header name or a string (6.4.7, 6.10.2 paragraph 4)
abbrev pub header_in : List ℕ → Header
header_in text = header (begins double_quote text) (inside text)

abbrev pub is_less : Token → Bool
is_less t = is_sign (codes "<") t

abbrev pub is_greater : Token → Bool
is_greater t = is_sign (codes ">") t

-- the tokens before the first `>`, which stands last; none where it does not
abbrev pub before_greater : List Token → Option (List Token)
before_greater [] = None
before_greater (t ∷ []) = if is_greater t then Some [] else None
before_greater (t ∷ u ∷ toks) = if is_greater t then None else option_map (λ ts. t ∷ ts) (before_greater (u ∷ toks))

-- the spelling of tokens, one space where a token has white space before it (this project's choice)
abbrev pub gap_text : Bool → List ℕ
gap_text true = codes " "
gap_text false = []

abbrev pub spaced : List Token → List ℕ
spaced [] = []
spaced (t ∷ toks) = gap_text t.gap ++ t.text ++ spaced toks

-- the same, without the space of the first token
abbrev pub spelled : List Token → List ℕ
spelled [] = []
spelled (t ∷ toks) = t.text ++ spaced toks

-- the header that a string names: it has no `L`
abbrev pub header_of_string : Token → Option Header
header_of_string t = if is_string t.kind && begins double_quote t.text then Some (header_in t.text) else None

-- the header that tokens between `<` and `>` name
abbrev pub header_of_signs : List Token → Option Header
header_of_signs [] = None
header_of_signs (t ∷ toks) =
    if is_less t then option_map (λ ts. header false (spelled ts)) (before_greater toks) else None

-- the header that the tokens of an expanded include line name, if they have one of the two forms
abbrev pub header_of_toks : List Token → Option Header
header_of_toks (t ∷ []) = header_of_string t
header_of_toks toks = header_of_signs toks

-- the tokens before the first `>`, if there is one
abbrev pub until_greater : List Token → Option (List Token)
until_greater toks = option_map (λ (k : ℕ). take k toks) (position is_greater toks)

-- the header between `<` and the first `>`
abbrev pub header_behind_less : List Token → Option Header
header_behind_less [] = None
header_behind_less (t ∷ toks) =
    if is_less t then option_map (λ ts. header false (spelled ts)) (until_greater toks) else None

-- the header that a first token names, or else that it begins
abbrev pub header_or_less : Option Header → List Token → Option Header
header_or_less (Some h) toks = Some h
header_or_less None toks = header_behind_less toks

-- the header with which tokens begin that are no header name to the lexer, as they stand
abbrev pub header_at : List Token → Option Header
header_at [] = None
header_at (t ∷ toks) = header_or_less (header_of_string t) (t ∷ toks)

-- tokens begin as such a header does: with a string, or with `<` and a `>` somewhere behind it
abbrev pub begins_header : List Token → Bool
begins_header [] = false
begins_header (t ∷ toks) = is_string t.kind || (is_less t && list_any is_greater toks)
