-- The lines of a text (this project's): a line feed ends one and is part of it, and what follows the last line feed is one
-- more, if there is a byte. A carriage return is a byte of its line like any other.
use Rattle.std.specs.Prelude.{ℕ, ◌==◌, Bool, not, if◌then◌else◌, List, [], ◌∷◌}
use Rattle.std.specs.List.{flat_map, onto_first}
use Rattle.cs_base.specs.Units.{line_feed}

-- the lines of a text
unfoldable pub lines_of : List ℕ → List (List ℕ)
lines_of [] = []
lines_of (b ∷ text) = if b == line_feed then (b ∷ []) ∷ lines_of text else onto_first b (lines_of text)

-- a byte that ends no line
abbrev pub is_no_feed : ℕ → Bool
is_no_feed b = not (b == line_feed)

-- the text of these lines
abbrev pub text_of : List (List ℕ) → List ℕ
text_of lines = flat_map (λ line. line) lines
