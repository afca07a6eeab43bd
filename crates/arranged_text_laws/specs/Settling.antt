-- Texts behind which other ones may stand (ISO/IEC 9899:1999, 6.4 paragraph 4): what is found in them stays.
use Rattle.std.specs.Prelude.{ℕ, zero, suc, ◌+◌, ◌-◌, ◌&&◌, ◌||◌, ◌==◌, nat_le, not, Bool, true, false, List, [], ◌∷◌, ◌++◌, length, drop, is_some}
use Rattle.std.specs.List.{list_any}
use Rattle.cs_base.specs.declared.tokens.Kind.{Kind}
use Rattle.cs_base.specs.declared.tokens.Kind.TheVariants.{Ident, Other}
use Rattle.lexer.specs.Characters.{line_feed, slash, star, capital_l, is_white, is_quote, begins}
use Rattle.lexer.specs.Front.{front_of}
use Rattle.lexer.specs.Logical.{Character, spelling, line_at}
use Rattle.lexer.specs.Tokens.{Found, comment_end, with_token, piece_of, piece_length, leaves_gap, line_front_after, expects_header, found_in}

-- ---- what stands on a line before a piece, and pieces: as the functions of the crate `lexer` have them

abbrev pub result_of : {A B : Type 0} → (A → B) → Type 0
result_of {A} {B} f = B

abbrev pub Front : Type 0
Front = result_of (with_token [])

abbrev pub Piece : Type 0
Piece = result_of (piece_of false 0)

-- ---- characters

-- white space, a parenthesis or a comma: one character that is a piece, whatever stands behind it
abbrev pub is_lone : ℕ → Bool
is_lone c = is_white c || (c == 40 || (c == 41 || c == 44))

-- it, or the first character of a comment, ends a token that it does not begin
abbrev pub is_stop : ℕ → Bool
is_stop c = is_lone c || c == slash

-- the first character of a text is one
abbrev pub begins_stop : List ℕ → Bool
begins_stop [] = false
begins_stop (c ∷ cs) = is_stop c

abbrev pub has_line_feed : List ℕ → Bool
has_line_feed cs = list_any (λ c. c == line_feed) cs

abbrev pub begins_quote : List ℕ → Bool
begins_quote [] = false
begins_quote (c ∷ cs) = is_quote c

-- ---- pieces

-- a token asks for nothing behind its text on the line: it is neither a lone quote, nor an `L` before one
abbrev pub asks_nothing : ℕ → List ℕ → Kind → Bool
asks_nothing c xs Other = false
asks_nothing c xs Ident = not (c == capital_l && begins_quote xs)
asks_nothing c xs _ = true

-- the same of the piece that begins with c, with xs and ys behind it: a line feed stands in xs, or nothing on the line is asked for
abbrev pub keeps_line : Bool → ℕ → List ℕ → List ℕ → Bool
keeps_line header c xs ys =
    has_line_feed xs
    || (not (c == slash && begins slash (xs ++ ys))
    && ((c == slash && begins star (xs ++ ys)) || (not header && asks_nothing c xs (front_of header c (xs ++ ys)).0)))

-- it is no comment without end
abbrev pub is_closed : ℕ → List ℕ → Bool
is_closed c cs = not (c == slash && begins star cs) || is_some (comment_end (drop 1 cs))

-- a stop stands behind c, where `stop` says whether one stands behind xs; and c is no `/` before it
abbrev pub halts : Bool → ℕ → List ℕ → Bool
halts stop c [] = stop && not (c == slash)
halts stop c (x ∷ xs) = stop || (is_stop x || list_any is_stop xs)

-- it ends in xs, or with it
abbrev pub lies_within : Bool → ℕ → List ℕ → List ℕ → Bool
lies_within header c xs ys = nat_le (piece_length 0 (piece_of header c (xs ++ ys))) (length xs + 1)

-- it stays whatever stands behind xs, or whatever begins with a stop
abbrev pub is_settled : Bool → Bool → ℕ → List ℕ → List ℕ → Bool
is_settled stop header c xs ys =
    is_closed c (xs ++ ys) && (lies_within header c xs ys && (is_lone c || (halts stop c xs && keeps_line header c xs ys)))

-- ---- texts

-- So it is with each piece of `xs`, with `ys` behind it, of which the first `skip` characters belong to the piece before;
-- `front` stands on the line. And no piece goes on from `xs` to `ys`.
unfoldable pub settles : Bool → ℕ → Front → List ℕ → List ℕ → Bool
settles stop skip front [] ys = skip == 0
settles stop (suc skip) front (c ∷ xs) ys = settles stop skip front xs ys
settles stop zero front (c ∷ xs) ys =
    is_settled stop (expects_header front) c xs ys
    && settles stop (piece_length 0 (piece_of (expects_header front) c (xs ++ ys)) - 1)
    (line_front_after (c ∷ (xs ++ ys)) front (piece_of (expects_header front) c (xs ++ ys))) xs ys

-- what stands behind its pieces: whether white space does, and what stands on the line
unfoldable pub gap_behind : ℕ → Bool → Front → List ℕ → List ℕ → Bool
gap_behind skip gap front [] ys = gap
gap_behind (suc skip) gap front (c ∷ xs) ys = gap_behind skip gap front xs ys
gap_behind zero gap front (c ∷ xs) ys =
    gap_behind (piece_length 0 (piece_of (expects_header front) c (xs ++ ys)) - 1) (leaves_gap (piece_of (expects_header front) c (xs ++ ys)))
    (line_front_after (c ∷ (xs ++ ys)) front (piece_of (expects_header front) c (xs ++ ys))) xs ys

unfoldable pub front_behind : ℕ → Front → List ℕ → List ℕ → Front
front_behind skip front [] ys = front
front_behind (suc skip) front (c ∷ xs) ys = front_behind skip front xs ys
front_behind zero front (c ∷ xs) ys =
    front_behind (piece_length 0 (piece_of (expects_header front) c (xs ++ ys)) - 1)
    (line_front_after (c ∷ (xs ++ ys)) front (piece_of (expects_header front) c (xs ++ ys))) xs ys

-- what is found in these characters of a file, with `ys` behind them
unfoldable pub found_within : ℕ → List ℕ → ℕ → Bool → Front → ℕ → List Character → List ℕ → List Found
found_within file bytes skip gap front at [] ys = []
found_within file bytes (suc skip) gap front at (c ∷ cs) ys = found_within file bytes skip gap front (at + 1) cs ys
found_within file bytes zero gap front at (c ∷ cs) ys =
    found_in file (line_at bytes c.offset) gap front at (c.byte ∷ (spelling cs ++ ys)) (piece_of (expects_header front) c.byte (spelling cs ++ ys))
    ++ found_within file bytes (piece_length 0 (piece_of (expects_header front) c.byte (spelling cs ++ ys)) - 1)
    (leaves_gap (piece_of (expects_header front) c.byte (spelling cs ++ ys)))
    (line_front_after (c.byte ∷ (spelling cs ++ ys)) front (piece_of (expects_header front) c.byte (spelling cs ++ ys))) (at + 1) cs ys
