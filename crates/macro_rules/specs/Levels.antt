-- How many parentheses are open (ISO/IEC 9899:1999, 6.10.3 paragraph 10 skips matched pairs of them).
use Rattle.std.specs.Prelude.{ℕ, ◌+◌, ◌-◌, ◌==◌, ◌&&◌, not, if◌then◌else◌, Bool, List, [], ◌∷◌}
use Rattle.cs_base.specs.Token.{Token}
use Rattle.line_shape.specs.Signs.{is_open, is_close, is_comma}

-- behind a token, where so many are open before it
abbrev pub level_behind : ℕ → Token → ℕ
level_behind level t = if is_open t then level + 1 else (if is_close t then level - 1 else level)

-- a `)` where none is open
abbrev pub closes : ℕ → Token → Bool
closes level t = is_close t && level == 0

-- a comma where none is open
abbrev pub separates : ℕ → Token → Bool
separates level t = is_comma t && level == 0

-- each `)` has its `(` before it, and each `(` its `)` behind it, where so many are open before the tokens
abbrev pub paired : ℕ → List Token → Bool
paired level [] = level == 0
paired level (t ∷ toks) = not (closes level t) && paired (level_behind level t) toks
