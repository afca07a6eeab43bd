-- Tokens whose characters come from somewhere, at lines of a source file.
use Rattle.std.specs.Prelude.{◌≡◌, ℕ, ◌^◌, ◌+◌, ◌==◌, ◌&&◌, ◌||◌, Bool, IsTrue, nat_lt, is_some, List, length, Some}
use Rattle.std.specs.List.{list_all, list_any}
use Rattle.cs_base.specs.Token.{Token}
use Rattle.cs_base.specs.Limits.{most_bytes}
use Rattle.lexer.specs.Characters.{double_quote}
use Rattle.macro_body.specs.declared.definitions.Definition.{Definition}
use Rattle.macro_body.specs.Hides.{Hidden}
use Rattle.macro_body.specs.Macro.{Table}
use Rattle.macro_body.specs.Bodies.{Part, token_of}

-- each character of a token has an origin, or a `"` stands among them: so has each token of a file, each
-- string, and each token that is pasted of such tokens
abbrev pub is_traced : Token → Bool
is_traced t = list_all is_some t.origins || list_any (λ c. c == double_quote) t.text

-- the line of a token is one that a source file can have
abbrev pub is_low : Token → Bool
is_low t = nat_lt t.line (most_bytes + 1)

-- the same for tokens with their hide sets
abbrev pub is_sound : Hidden → Bool
is_sound h = is_traced h.tok && is_low h.tok

abbrev pub all_sound : List Hidden → Bool
all_sound hs = list_all is_sound hs

-- arguments of such tokens, each of fewer than 2^32
abbrev pub is_argument : List Hidden → Bool
is_argument hs = all_sound hs && nat_lt (length hs) (2 ^ 32)

-- the tokens of chains come from somewhere
abbrev pub chains_traced : List (List Part) → Bool
chains_traced chains = list_all (list_all (λ p. is_traced (token_of p))) chains

-- the replacement list of each macro comes from somewhere
abbrev pub AllTraced : Table → Type 0
AllTraced table = (name : List ℕ) (m : Definition) → table name ≡ Some m → IsTrue (list_all is_traced m.body)

-- arguments of such tokens, each of which can be expanded where so many tokens were put out, or may be put
-- in yet
abbrev pub are_fitting : ℕ → List (List Hidden) → Bool
are_fitting n raw = list_all (λ a. all_sound a && nat_lt (n + length a) (2 ^ 32)) raw
