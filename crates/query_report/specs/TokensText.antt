-- The report `tokens`: the preprocessing tokens of a unit (ISO/IEC 9899:1999, 5.1.1.2 phase 4, 6.4).
use Rattle.std.specs.Prelude.{ℕ, List, ◌++◌, codes}
use Rattle.std.specs.List.{flat_map}
use Rattle.cs_base.specs.Token.{Token}
use Rattle.analysis.specs.Below.unit_steps.Texts.{UnitTextValue}

-- the spelling of a token, on a line
abbrev pub token_line : Token → List ℕ
token_line t = t.text ++ codes "\n"

-- the tokens of a unit in order, a line each
abbrev pub tokens_text : UnitTextValue → List ℕ
tokens_text unit = flat_map token_line unit.toks
