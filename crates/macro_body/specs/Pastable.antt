-- Tokens that `##` may make one token of.
use Rattle.std.specs.Prelude.{Bool, false, not, ◌&&◌, ◌||◌, ◌++◌, Option, Some, None, is_some}
use Rattle.std.specs.List.{list_all}
use Rattle.cs_base.specs.declared.tokens.Kind.{Kind}
use Rattle.cs_base.specs.Token.{Token, has_origins}
use Rattle.lexer.specs.OneToken.{one_token_of}

-- each character of a token has an origin
abbrev pub is_wholly_traced : Token → Bool
is_wholly_traced t = list_all is_some t.origins

-- each character of a token of this kind, if of any, must have an origin
abbrev pub must_be_traced : Option Kind → Bool
must_be_traced (Some kind) = has_origins kind
must_be_traced None = false

-- each character of both tokens has an origin, or what they make together needs none
abbrev pub is_pastable : Token → Token → Bool
is_pastable x y = (is_wholly_traced x && is_wholly_traced y) || not (must_be_traced (one_token_of (x.text ++ y.text)))
