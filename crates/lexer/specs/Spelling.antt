-- Spellings of whole preprocessing tokens (ISO/IEC 9899:1999, 6.4).
-- Differs: no universal character names (6.4.3).
use Rattle.std.specs.Prelude.{ℕ, Bool, true, false, not, ◌&&◌, ◌||◌, ◌==◌, if◌then◌else◌, List, [], ◌∷◌, Option, Some, None, codes}
use Rattle.std.specs.List.{list_all, list_any}
use Rattle.std.specs.Str.{bytes_eq}
use Rattle.cs_base.specs.declared.tokens.Kind.{Kind}
use Rattle.cs_base.specs.declared.tokens.Kind.TheVariants.{Ident, Number, Char, Str, Punct, Header}
use Rattle.lexer.specs.Characters.{line_feed, double_quote, single_quote, full_stop, less_than, greater_than, capital_l, backslash, is_nondigit, is_digit, is_word, is_sign, is_exponent_letter, begins}

-- identifier (6.4.2.1): a nondigit, then nondigits and digits
abbrev pub is_identifier_text : List ℕ → Bool
is_identifier_text [] = false
is_identifier_text (c ∷ cs) = is_nondigit c && list_all is_word cs

-- a pp-number that ends in `last` may go on with c (6.4.8): a digit, a nondigit, a period, or a sign
-- directly after an exponent letter
abbrev pub may_follow : ℕ → ℕ → Bool
may_follow last c = is_word c || c == full_stop || (is_sign c && is_exponent_letter last)

-- each character may follow the one before it, the first of them `last`
abbrev pub all_follow : ℕ → List ℕ → Bool
all_follow last [] = true
all_follow last (c ∷ cs) = may_follow last c && all_follow c cs

-- a digit stands first
abbrev pub begins_with_digit : List ℕ → Bool
begins_with_digit [] = false
begins_with_digit (c ∷ cs) = is_digit c

-- how a pp-number begins (6.4.8): a digit, or a period and a digit
abbrev pub begins_number : ℕ → List ℕ → Bool
begins_number c cs = is_digit c || (c == full_stop && begins_with_digit cs)

-- pp-number (6.4.8)
abbrev pub is_number_text : List ℕ → Bool
is_number_text [] = false
is_number_text (c ∷ cs) = begins_number c cs && all_follow c cs

-- nothing is left
abbrev pub is_end : List ℕ → Bool
is_end [] = true
is_end (c ∷ cs) = false

-- The characters of a character constant or a string literal behind its first quote (6.4.4.4, 6.4.5):
-- elements, and then that quote and nothing more. An element is a character other than the quote, a
-- backslash and new-line, or a backslash and any character but new-line. `escaped` says whether a
-- backslash stands before.
abbrev pub closes : ℕ → Bool → List ℕ → Bool
closes quote escaped [] = false
closes quote true (c ∷ cs) = not (c == line_feed) && closes quote false cs
closes quote false (c ∷ cs) =
    if c == quote then is_end cs else (not (c == line_feed) && closes quote (c == backslash) cs)

-- character constant without a prefix (6.4.4.4): at least one element between single quotes
abbrev pub is_plain_char_text : List ℕ → Bool
is_plain_char_text [] = false
is_plain_char_text (c ∷ cs) = c == single_quote && not (begins single_quote cs) && closes single_quote false cs

-- string literal without a prefix (6.4.5): elements between double quotes
abbrev pub is_plain_string_text : List ℕ → Bool
is_plain_string_text [] = false
is_plain_string_text (c ∷ cs) = c == double_quote && closes double_quote false cs

-- the text without the prefix `L` of a wide character constant or string literal
abbrev pub without_prefix : List ℕ → List ℕ
without_prefix [] = []
without_prefix (c ∷ cs) = if c == capital_l then cs else c ∷ cs

-- character constant (6.4.4.4)
abbrev pub is_char_text : List ℕ → Bool
is_char_text text = is_plain_char_text (without_prefix text)

-- string literal (6.4.5)
abbrev pub is_string_text : List ℕ → Bool
is_string_text text = is_plain_string_text (without_prefix text)

-- the characters of a header name behind its first one (6.4.7): characters other than new-line and the
-- closing one, and then that one and nothing more
abbrev pub ends_header : ℕ → List ℕ → Bool
ends_header close [] = false
ends_header close (c ∷ cs) = if c == close then is_end cs else (not (c == line_feed) && ends_header close cs)

-- the character that closes a header name which begins with this one, and 0 where none begins so
abbrev pub header_close : ℕ → ℕ
header_close c = if c == less_than then greater_than else (if c == double_quote then double_quote else 0)

-- header name (6.4.7): at least one character between `<` and `>` or between double quotes
abbrev pub is_header_text : List ℕ → Bool
is_header_text [] = false
is_header_text (c ∷ cs) =
    not (header_close c == 0) && not (begins (header_close c) cs) && ends_header (header_close c) cs

-- punctuators (6.4.6) of one character
abbrev pub punctuators_of_one : List (List ℕ)
punctuators_of_one =
    codes "[" ∷ codes "]" ∷ codes "(" ∷ codes ")" ∷ codes "{" ∷ codes "}" ∷ codes "." ∷ codes "&"
    ∷ codes "*" ∷ codes "+" ∷ codes "-" ∷ codes "~" ∷ codes "!" ∷ codes "/" ∷ codes "%" ∷ codes "<"
    ∷ codes ">" ∷ codes "^" ∷ codes "|" ∷ codes "?" ∷ codes ":" ∷ codes ";" ∷ codes "=" ∷ codes ","
    ∷ codes "#" ∷ []

-- punctuators of two characters
abbrev pub punctuators_of_two : List (List ℕ)
punctuators_of_two =
    codes "->" ∷ codes "++" ∷ codes "--" ∷ codes "<<" ∷ codes ">>" ∷ codes "<=" ∷ codes ">="
    ∷ codes "==" ∷ codes "!=" ∷ codes "&&" ∷ codes "||" ∷ codes "*=" ∷ codes "/=" ∷ codes "%="
    ∷ codes "+=" ∷ codes "-=" ∷ codes "&=" ∷ codes "^=" ∷ codes "|=" ∷ codes "##" ∷ codes "<:"
    ∷ codes ":>" ∷ codes "<%" ∷ codes "%>" ∷ codes "%:" ∷ []

-- punctuators of three characters
abbrev pub punctuators_of_three : List (List ℕ)
punctuators_of_three = codes "..." ∷ codes "<<=" ∷ codes ">>=" ∷ []

-- punctuators of four characters
abbrev pub punctuators_of_four : List (List ℕ)
punctuators_of_four = codes "%:%:" ∷ []

-- the text is one punctuator (6.4.6)
unfoldable pub is_punctuator_text : List ℕ → Bool
is_punctuator_text text =
    list_any (bytes_eq text) punctuators_of_one
    || list_any (bytes_eq text) punctuators_of_two
    || list_any (bytes_eq text) punctuators_of_three
    || list_any (bytes_eq text) punctuators_of_four

-- The kind of a text that is one preprocessing token (6.4), other than a header name and a single
-- character that is no token of another kind.
unfoldable pub kind_of : List ℕ → Option Kind
kind_of text =
    if is_identifier_text text then Some Ident else
    if is_number_text text then Some Number else
    if is_char_text text then Some Char else
    if is_string_text text then Some Str else
    if is_punctuator_text text then Some Punct else
    None

-- The same where a header name may stand too (6.4 paragraph 4). A text that is a header name and a
-- string literal is a header name.
unfoldable pub kind_in : Bool → List ℕ → Option Kind
kind_in header text = if header && is_header_text text then Some Header else kind_of text
