-- The operator ## (ISO/IEC 9899:1999, 6.10.3.3): two preprocessing tokens become one.
use Rattle.std.specs.Prelude.{◌++◌, Option, Some, None, Result, Ok, Err, IsTrue, IfSome, is_some}
use Rattle.std.specs.List.{list_all}
use Rattle.cs_base.specs.declared.tokens.Kind.{Kind}
use Rattle.cs_base.specs.Token.{Token, token, has_origins}
use Rattle.lexer.specs.OneToken.{one_token_of}

-- Why two tokens are not pasted: together they are not one token.
pub data PasteFault : Type 0 where
  NotOneToken : PasteFault

-- the token of this kind that two tokens make: each character keeps its origin, and white space,
-- position and line are those of the left one
abbrev pub joined : Token → Token → Kind → Token
joined x y kind = token kind (x.text ++ y.text) (x.origins ++ y.origins) x.gap x.at x.line x.direct

-- what a text of this kind, or of none, makes of two tokens
abbrev pub pasted_as : Token → Token → Option Kind → Result Token PasteFault
pasted_as x y (Some kind) = Ok (joined x y kind)
pasted_as x y None = Err NotOneToken

-- what two tokens are pasted to (6.10.3.3 paragraph 3): the one token that their spellings make
-- together, or the fault
unfoldable pub glue_of : Token → Token → Result Token PasteFault
glue_of x y = pasted_as x y (one_token_of (x.text ++ y.text))

-- each character of a token has an origin
abbrev pub IsWhollyTraced : Token → Type 0
IsWhollyTraced t = IsTrue (list_all is_some t.origins)

-- where two tokens make an identifier or a pp-number, each of their characters has an origin
abbrev pub AreTraced : Token → Token → Type 0
AreTraced x y = IfSome (one_token_of (x.text ++ y.text)) (λ kind. IsTrue (has_origins kind) → IsWhollyTraced x × IsWhollyTraced y)
