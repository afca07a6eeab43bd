-- The tokens of a file stand in order (ISO/IEC 9899:1999, 5.1.1.2 phase 3).
use Rattle.std.specs.Prelude.{◌≤◌, ℕ, ◌+◌, List, [], ◌∷◌, length}
use Rattle.cs_base.specs.Token.{Token}
use Rattle.lexer.specs.Logical.{logical_of}
use Rattle.lexer.specs.Tokens.{tokens_of}

-- The tokens stand one behind the other between these two characters, and none is empty.
abbrev pub InOrder : ℕ → ℕ → List Token → Type 0
InOrder from to [] = Unit {0}
InOrder from to (t ∷ ts) =
    (from ≤ t.at.at)
    × (1 ≤ length t.text)
    × (t.at.at + length t.text ≤ to)
    × InOrder (t.at.at + length t.text) to ts

-- The tokens of a file stand in its logical text, one behind the other.
abbrev pub TokensInOrder : Type 0
TokensInOrder = (file : ℕ) (bytes : List ℕ) → InOrder 0 (length (logical_of bytes)) (tokens_of file bytes)
