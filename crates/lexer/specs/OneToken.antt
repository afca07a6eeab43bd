-- Texts that are one token.
use Rattle.std.specs.Prelude.{ℕ, List, [], ◌∷◌, Option, Some, None}
use Rattle.cs_base.specs.declared.tokens.Kind.{Kind}
use Rattle.cs_base.specs.declared.tokens.Kind.TheVariants.{Other, Header}
use Rattle.lexer.specs.declared.pieces.Piece.{Piece}
use Rattle.lexer.specs.declared.pieces.Piece.TheVariants.{Blank, LineEnd, OpenComment, Token as Spelled}
use Rattle.lexer.specs.declared.single.Held.{Held}
use Rattle.lexer.specs.declared.single.Held.TheVariants.{Nothing, One, More}
use Rattle.lexer.specs.Tokens.{Found, FoundToken, FoundOpen, found_of}

-- the kind of a token that can be one by itself wherever it stands: none other than a header name and
-- a single character that is no token of another kind
abbrev pub free_kind : Kind → Option Kind
free_kind Header = None
free_kind Other = None
free_kind kind = Some kind

-- the kind of what is found, if that is one such token
abbrev pub only_token : List Found → Option Kind
only_token [] = None
only_token (FoundToken t first ∷ []) = free_kind t.kind
only_token (FoundToken t first ∷ f ∷ found) = None
only_token (FoundOpen at ∷ found) = None

-- The kind of a text that is one token other than a header name and a single character of no other kind,
-- with white space and comments before it and behind it at most.
unfoldable pub one_token_of : List ℕ → Option Kind
one_token_of text = only_token (found_of 0 text)

-- what is held once this piece is read
abbrev pub held_after : Held → Piece → Held
held_after held (Blank n) = held
held_after held LineEnd = held
held_after held OpenComment = More
held_after Nothing (Spelled kind n) = One kind
held_after (One first) (Spelled kind n) = More
held_after More (Spelled kind n) = More

-- the kind of what is held, if that is one such token
abbrev pub held_kind : Held → Option Kind
held_kind Nothing = None
held_kind (One kind) = free_kind kind
held_kind More = None
