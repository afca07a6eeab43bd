-- Integer character constants (ISO/IEC 9899:1999, 6.4.4.4), read from the spelling of a token. A value is
-- its elements in base 256, and a wide one (`L`) is no different. Differs: no universal character names.
use Rattle.std.specs.Prelude.{ℕ, zero, suc, ◌+◌, ◌-◌, ◌*◌, ◌^◌, pos, Bool, ◌==◌, nat_lt, if◌then◌else◌, min, Option, Some, None, List, [], ◌∷◌, length, take, drop}
use Rattle.std.specs.Option.{option_map, option_and_then}
use Rattle.std.specs.List.{prefix_len}
use Rattle.std.specs.Str.{byte, bytes_eq}
use Rattle.cond_eval.specs.declared.integers.Integer.{Integer}
use Rattle.cond_eval.specs.declared.integers.Integer.TheVariants.{Signed}
use Rattle.cond_eval.specs.IntegerConstant.{is_digit, digits_onto}

abbrev pub quote : ℕ
quote = 39

abbrev pub double_quote : ℕ
double_quote = 34

abbrev pub backslash : ℕ
backslash = 92

-- simple-escape-sequence: what stands behind the backslash, and the character (5.2.2 for the last seven)
abbrev pub simple_escapes : List (ℕ × ℕ)
simple_escapes =
    (quote, quote) ∷ (double_quote, double_quote) ∷ (byte "?", byte "?") ∷ (backslash, backslash)
    ∷ (byte "a", 7) ∷ (byte "b", 8) ∷ (byte "f", 12) ∷ (byte "n", 10) ∷ (byte "r", 13)
    ∷ (byte "t", 9) ∷ (byte "v", 11) ∷ []

-- what a character stands for in a table
abbrev pub character_in : List (ℕ × ℕ) → ℕ → Option ℕ
character_in [] c = None
character_in (row ∷ rows) c = if c == row.0 then Some row.1 else character_in rows c

-- a value that one element can have (paragraph 9, for `unsigned char`)
abbrev pub byte_of : ℕ → Option ℕ
byte_of n = if nat_lt n 256 then Some n else None

-- an element's value and how many bytes it has: digits of the base, at least one, behind a head
abbrev pub digits_escape : ℕ → ℕ → List ℕ → Option (ℕ × ℕ)
digits_escape head base digits =
    if length digits == 0 then None
    else option_map (λ value. (value, head + length digits)) (byte_of (digits_onto base 0 digits))

-- escape-sequence, given by what stands behind its backslash: hexadecimal, octal with up to three digits,
-- or simple
abbrev pub escape : List ℕ → Option (ℕ × ℕ)
escape [] = None
escape (c ∷ cs) =
    if c == byte "x" then digits_escape 2 16 (take (prefix_len (is_digit 16) cs) cs)
    else (if is_digit 8 c then digits_escape 1 8 (take (min (prefix_len (is_digit 8) (c ∷ cs)) 3) (c ∷ cs))
    else option_map (λ value. (value, 2)) (character_in simple_escapes c))

-- c-char: the first element of a text, with its value and how many bytes it has
unfoldable pub element : List ℕ → Option (ℕ × ℕ)
element [] = None
element (c ∷ cs) = if c == backslash then escape cs else (if c == quote then None else Some (c, 1))

-- the closing quote and nothing behind it
abbrev pub is_closing : List ℕ → Bool
is_closing text = bytes_eq text (quote ∷ [])

-- the value of the elements up to the closing quote, at most so many, behind the value so far
unfoldable pub elements_onto : ℕ → ℕ → List ℕ → Option ℕ
elements_onto zero sofar text = if is_closing text then Some sofar else None
elements_onto (suc left) sofar text =
    if is_closing text then Some sofar
    else option_and_then (λ e. elements_onto left (sofar * 256 + e.0) (drop e.1 text)) (element text)

-- one to four elements in quotes
abbrev pub in_quotes : List ℕ → Option ℕ
in_quotes [] = None
in_quotes (c ∷ cs) = if c == quote then (if is_closing cs then None else elements_onto 4 0 cs) else None

-- the elements, behind an `L` or not
abbrev pub behind_prefix : List ℕ → Option ℕ
behind_prefix [] = None
behind_prefix (c ∷ cs) = if c == byte "L" then in_quotes cs else in_quotes (c ∷ cs)

-- integer-character-constant, if the spelling is one; it is signed, as an `int` is (paragraph 10)
unfoldable pub char_constant : List ℕ → Option Integer
char_constant text = option_map (λ value. Signed (pos value)) (behind_prefix text)

-- What inner functions promise each other: a value is below this while so many elements may come.
abbrev pub room_of : ℕ → ℕ
room_of left = 2 ^ (8 * (4 - left))
