-- Whole words in a text for the assembler: what stands in it with no character of a name before it or behind it.
use Rattle.std.specs.Prelude.{ℕ, Bool, true, false, ◌&&◌, ◌||◌, not, List, [], ◌∷◌, ◌==◌}
use Rattle.std.specs.Char.{is_ascii_alphabetic, is_ascii_digit}
use Rattle.cs_base.specs.Units.{underscore}

abbrev pub dollar : ℕ
dollar = 36

-- letters, digits, `_` and `$`, which gcc's names for the assembler may have
abbrev pub is_word_byte : ℕ → Bool
is_word_byte c = is_ascii_alphabetic c || (is_ascii_digit c || ((c == underscore) || (c == dollar)))

abbrev pub begins_inside : List ℕ → Bool
begins_inside [] = false
begins_inside (c ∷ text) = is_word_byte c

-- the word stands first, and ends there
abbrev pub stands_first : List ℕ → List ℕ → Bool
stands_first [] text = not (begins_inside text)
stands_first (w ∷ word) [] = false
stands_first (w ∷ word) (c ∷ text) = (w == c) && stands_first word text

-- .. or further behind; it is said whether a character of a name stands before the text
abbrev pub holds_from : Bool → List ℕ → List ℕ → Bool
holds_from inside word [] = false
holds_from inside word (c ∷ text) = (not inside && stands_first word (c ∷ text)) || holds_from (is_word_byte c) word text

abbrev pub holds_word : List ℕ → List ℕ → Bool
holds_word word text = holds_from false word text
