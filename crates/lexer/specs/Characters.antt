-- Characters of the source character set (ISO/IEC 9899:1999, 5.2.1), by their bytes in ASCII.
use Rattle.std.specs.Prelude.{ℕ, ◌+◌, Bool, not, ◌||◌, ◌==◌, if◌then◌else◌, List, [], ◌∷◌, false}
use Rattle.std.specs.Char.{is_ascii_alphabetic, is_ascii_digit, is_ascii_whitespace}

abbrev pub line_feed : ℕ
line_feed = 10

abbrev pub vertical_tab : ℕ
vertical_tab = 11

abbrev pub carriage_return : ℕ
carriage_return = 13

abbrev pub double_quote : ℕ
double_quote = 34

abbrev pub single_quote : ℕ
single_quote = 39

abbrev pub star : ℕ
star = 42

abbrev pub plus : ℕ
plus = 43

abbrev pub minus : ℕ
minus = 45

abbrev pub full_stop : ℕ
full_stop = 46

abbrev pub slash : ℕ
slash = 47

abbrev pub less_than : ℕ
less_than = 60

abbrev pub greater_than : ℕ
greater_than = 62

abbrev pub capital_e : ℕ
capital_e = 69

abbrev pub capital_l : ℕ
capital_l = 76

abbrev pub capital_p : ℕ
capital_p = 80

abbrev pub backslash : ℕ
backslash = 92

abbrev pub underscore : ℕ
underscore = 95

abbrev pub small_e : ℕ
small_e = 101

abbrev pub small_p : ℕ
small_p = 112

-- white-space character (6.4 paragraph 3): space, the two tabs, form feed, new-line, and a carriage return
abbrev pub is_white : ℕ → Bool
is_white c = is_ascii_whitespace c || c == vertical_tab

-- nondigit (6.4.2.1): a letter or `_`
abbrev pub is_nondigit : ℕ → Bool
is_nondigit c = is_ascii_alphabetic c || c == underscore

-- digit (6.4.2.1)
abbrev pub is_digit : ℕ → Bool
is_digit c = is_ascii_digit c

-- what an identifier may go on with (6.4.2.1): a nondigit or a digit
abbrev pub is_word : ℕ → Bool
is_word c = is_nondigit c || is_digit c

-- sign (6.4.4.2)
abbrev pub is_sign : ℕ → Bool
is_sign c = c == plus || c == minus

-- the letters after which a pp-number may go on with a sign (6.4.8): `e`, `E`, `p` and `P`
abbrev pub is_exponent_letter : ℕ → Bool
is_exponent_letter c = c == small_e || c == capital_e || c == small_p || c == capital_p

-- a quote: of a character constant or of a string literal (6.4.4.4, 6.4.5)
abbrev pub is_quote : ℕ → Bool
is_quote c = c == single_quote || c == double_quote

-- phase 2 leaves this character, whatever stands behind it: it is no backslash and no carriage return
abbrev pub cannot_go : ℕ → Bool
cannot_go c = not (c == backslash || c == carriage_return)

-- the line goes on with this character
abbrev pub is_on_line : ℕ → Bool
is_on_line c = not (c == line_feed)

-- a text begins with this character
abbrev pub begins : ℕ → List ℕ → Bool
begins c [] = false
begins c (d ∷ ds) = d == c

-- the line of the character after this one: one more behind a line feed
abbrev pub line_after : ℕ → ℕ → ℕ
line_after c line = if c == line_feed then line + 1 else line
