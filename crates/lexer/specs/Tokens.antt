-- The preprocessing tokens of a source file (ISO/IEC 9899:1999, 5.1.1.2 phase 3, 6.4, 6.4.9): the pieces
-- of its logical text, each a token by the longest match, white space or a comment.
use Rattle.std.specs.Prelude.{ℕ, zero, suc, ◌+◌, ◌-◌, ◌&&◌, ◌==◌, ◌||◌, Bool, true, false, if◌then◌else◌, List, [], ◌∷◌, ◌++◌, length, take, drop, Option, Some, None, is_some, unwrap_or, codes}
use Rattle.std.specs.List.{prefix_len}
use Rattle.std.specs.Str.{bytes_eq}
use Rattle.cs_base.specs.declared.tokens.Kind.{Kind}
use Rattle.cs_base.specs.declared.tokens.Kind.TheVariants.{Other}
use Rattle.cs_base.specs.Token.{Token, token}
use Rattle.lexer.specs.declared.pieces.Piece.{Piece}
use Rattle.lexer.specs.declared.pieces.Piece.TheVariants.{Blank, LineEnd, OpenComment, Token as Spelled}
use Rattle.lexer.specs.declared.pieces.LineFront.{LineFront}
use Rattle.lexer.specs.declared.pieces.LineFront.TheVariants.{Nothing, Hash, Include, Tokens}
use Rattle.lexer.specs.Characters.{line_feed, slash, star, is_white, is_on_line, begins}
use Rattle.lexer.specs.Spelling.{kind_in}
use Rattle.lexer.specs.Logical.{Character, logical_of, spelling, line_at}
use Rattle.lexer.specs.Places.{pos, origins_from}

-- Longest match (6.4 paragraph 4): the length of the longest front of at most n characters that is a
-- token, and 1 where none is, since then the first character is a token by itself.
abbrev pub longest : Bool → ℕ → List ℕ → ℕ
longest header zero text = 1
longest header (suc n) text = if is_some (kind_in header (take (suc n) text)) then suc n else longest header n text

-- how many characters the first token of a text has that begins with one
unfoldable pub front_length : Bool → List ℕ → ℕ
front_length header text = longest header (length text) text

-- the kind of a spelling: `Other` for a character that is a token by itself
abbrev pub kind_or_other : Bool → List ℕ → Kind
kind_or_other header text = unwrap_or (kind_in header text) Other

-- one character more
abbrev pub one_more : Option ℕ → Option ℕ
one_more None = None
one_more (Some n) = Some (n + 1)

-- how many characters stand to the end of the first `*/`
abbrev pub comment_end : List ℕ → Option ℕ
comment_end [] = None
comment_end (c ∷ cs) = if c == star && begins slash cs then Some 2 else one_more (comment_end cs)

-- the piece whose characters behind `/*` end here
abbrev pub comment_or_open : Option ℕ → Piece
comment_or_open None = OpenComment
comment_or_open (Some n) = Blank (n + 2)

-- the token that begins a text
unfoldable pub token_piece : Bool → List ℕ → Piece
token_piece header text =
    Spelled (kind_or_other header (take (front_length header text) text)) (front_length header text)

-- The first piece of a text (6.4 paragraph 3, 6.4.9). `header` says whether a header name may stand.
unfoldable pub piece_of : Bool → ℕ → List ℕ → Piece
piece_of header c cs =
    if c == line_feed then LineEnd else
    if is_white c then Blank 1 else
    if c == slash && begins slash cs then Blank (prefix_len is_on_line cs + 1) else
    if c == slash && begins star cs then comment_or_open (comment_end (drop 1 cs)) else
    token_piece header (c ∷ cs)

-- how many characters a piece has; a comment without end has all that are left
abbrev pub piece_length : ℕ → Piece → ℕ
piece_length left (Blank n) = n
piece_length left LineEnd = 1
piece_length left OpenComment = left
piece_length left (Spelled kind n) = n

-- whether a gap stands behind a piece: it is white space
abbrev pub leaves_gap : Piece → Bool
leaves_gap (Spelled kind n) = false
leaves_gap _ = true

-- how a directive line begins (6.10): `#`, or the digraph for it (6.4.6)
abbrev pub is_hash_text : List ℕ → Bool
is_hash_text text = bytes_eq text (codes "#") || bytes_eq text (codes "%:")

-- what stands on a line once it has one more token
abbrev pub with_token : List ℕ → LineFront → LineFront
with_token text Nothing = if is_hash_text text then Hash else Tokens
with_token text Hash = if bytes_eq text (codes "include") then Include else Tokens
with_token text Include = Tokens
with_token text Tokens = Tokens

-- what stands on the line once this piece of the text is read
abbrev pub line_front_after : List ℕ → LineFront → Piece → LineFront
line_front_after text front (Blank n) = front
line_front_after text front LineEnd = Nothing
line_front_after text front OpenComment = front
line_front_after text front (Spelled kind n) = with_token (take n text) front

-- a header name may stand next (6.4 paragraph 4): the word `include` of a directive stands before
abbrev pub expects_header : LineFront → Bool
expects_header Include = true
expects_header _ = false

-- no token stands on the line
abbrev pub is_line_start : LineFront → Bool
is_line_start Nothing = true
is_line_start _ = false

-- What is found in a text beside white space and comments: a token, and whether it is the first of its
-- line, or character `at` at which a comment begins that has no end.
pub data Found : Type 0 where
  FoundToken : Token → Bool → Found
  FoundOpen : ℕ → Found

-- the token of a file with this spelling, whose first character is `at` and stands on this line
abbrev pub file_token : ℕ → ℕ → Bool → ℕ → Kind → List ℕ → Token
file_token file line gap at kind text =
    token kind text (origins_from file at (length text)) gap (pos file at) line true

-- what a piece adds that begins at this character
abbrev pub found_in : ℕ → ℕ → Bool → LineFront → ℕ → List ℕ → Piece → List Found
found_in file line gap front at text (Blank n) = []
found_in file line gap front at text LineEnd = []
found_in file line gap front at text OpenComment = FoundOpen at ∷ []
found_in file line gap front at text (Spelled kind n) =
    FoundToken (file_token file line gap at kind (take n text)) (is_line_start front) ∷ []

-- the first piece of a logical text, whose first character is c
abbrev pub piece_at : LineFront → Character → List Character → Piece
piece_at front c cs = piece_of (expects_header front) c.byte (spelling cs)

-- What is found in the characters from `at` on, of which the first `skip` belong to the piece before.
-- `gap` says whether white space or the file's start stands before them, `front` what stands on the line.
unfoldable pub found_from : ℕ → List ℕ → ℕ → Bool → LineFront → ℕ → List Character → List Found
found_from file bytes skip gap front at [] = []
found_from file bytes (suc skip) gap front at (c ∷ cs) = found_from file bytes skip gap front (at + 1) cs
found_from file bytes zero gap front at (c ∷ cs) =
    found_in file (line_at bytes c.offset) gap front at (spelling (c ∷ cs)) (piece_at front c cs)
    ++ found_from file bytes (piece_length (length (c ∷ cs)) (piece_at front c cs) - 1) (leaves_gap (piece_at front c cs))
    (line_front_after (spelling (c ∷ cs)) front (piece_at front c cs)) (at + 1) cs

-- what is found in a file, given by its number and its bytes
unfoldable pub found_of : ℕ → List ℕ → List Found
found_of file bytes = found_from file bytes 0 true Nothing 0 (logical_of bytes)

-- the tokens among what is found
abbrev pub tokens_in : List Found → List Token
tokens_in [] = []
tokens_in (FoundToken t first ∷ found) = t ∷ tokens_in found
tokens_in (FoundOpen at ∷ found) = tokens_in found

-- for each of these tokens, whether it is the first of its line
abbrev pub firsts_in : List Found → List Bool
firsts_in [] = []
firsts_in (FoundToken t first ∷ found) = first ∷ firsts_in found
firsts_in (FoundOpen at ∷ found) = firsts_in found

-- the character at which a comment begins that has no end
abbrev pub open_in : List Found → Option ℕ
open_in [] = None
open_in (FoundToken t first ∷ found) = open_in found
open_in (FoundOpen at ∷ found) = Some at

-- the tokens of a file
unfoldable pub tokens_of : ℕ → List ℕ → List Token
tokens_of file bytes = tokens_in (found_of file bytes)

-- for each token of a file, whether it is the first of its line
unfoldable pub firsts_of : List ℕ → List Bool
firsts_of bytes = firsts_in (found_of 0 bytes)

-- the character of a file at which a comment begins that has no end
unfoldable pub open_comment_of : List ℕ → Option ℕ
open_comment_of bytes = open_in (found_of 0 bytes)
