-- Characters that keep their number and their line wherever they stand, and what each of them brings (ISO/IEC 9899:1999,
-- 5.1.1.2 phase 3).
use Rattle.std.specs.Prelude.{◌≡◌, refl, ℕ, zero, suc, ◌+◌, ◌-◌, Bool, true, false, if◌then◌else◌, List, [], ◌∷◌, length, map, codes}
use Rattle.lexer.specs.Logical.{Character, logical_of, line_at}
use Rattle.lexer.specs.Tokens.{Found, FoundToken, FoundOpen, with_token, piece_of, piece_length, leaves_gap, line_front_after, expects_header, found_in, found_from, found_of}
use Rattle.arranged_text_laws.specs.Settling.{Front}

-- ---- what stands on a line

-- what stands on the line at the begin of a file: no token
unfoldable pub file_front : (front : Front) × ((file : ℕ) (bytes : List ℕ) → found_of file bytes ≡ found_from file bytes 0 true front 0 (logical_of bytes))
unfolding found_of
file_front = (_, λ file bytes. refl)

-- no token
abbrev pub line_start : Front
line_start = file_front.0

-- tokens that begin no directive (6.10)
abbrev pub some_tokens : Front
some_tokens = with_token (codes "a") line_start

-- What stands before a token: whether white space does, and whether no token of its line.
pub record Before : Type 0 where
  pub gap : Bool
  pub first : Bool

abbrev pub before : Bool → Bool → Before
before gap first = record { gap = gap; first = first }

abbrev pub front_at : Before → Front
front_at b = if b.first then line_start else some_tokens

-- what stands behind a token: no white space, and that token
abbrev pub behind_token : Before
behind_token = before false false

-- ---- characters

-- A character of a file: its byte, its number, and its line.
pub record Mark : Type 0 where
  pub byte : ℕ
  pub at : ℕ
  pub line : ℕ

abbrev pub mark : ℕ → ℕ → ℕ → Mark
mark byte at line = record { byte = byte; at = at; line = line }

-- the bytes of characters
abbrev pub text : List Mark → List ℕ
text ms = map (λ m. m.byte) ms

-- the characters of a logical text, the first of which has this number, in a file with these bytes
unfoldable pub marks_from : List ℕ → ℕ → List Character → List Mark
marks_from bytes at [] = []
marks_from bytes at (c ∷ cs) = mark c.byte at (line_at bytes c.offset) ∷ marks_from bytes (at + 1) cs

-- those of a file
abbrev pub marks_of : List ℕ → List Mark
marks_of bytes = marks_from bytes 0 (logical_of bytes)

-- ---- what they bring

-- For each character what is found where it begins a piece, and nothing where it does not; the first `skip` belong to the
-- piece before.
unfoldable pub brought : ℕ → ℕ → Bool → Front → List Mark → List (List Found)
brought file skip gap front [] = []
brought file (suc skip) gap front (m ∷ ms) = [] ∷ brought file skip gap front ms
brought file zero gap front (m ∷ ms) =
    found_in file m.line gap front m.at (m.byte ∷ text ms) (piece_of (expects_header front) m.byte (text ms))
    ∷ brought file (piece_length (suc (length ms)) (piece_of (expects_header front) m.byte (text ms)) - 1)
    (leaves_gap (piece_of (expects_header front) m.byte (text ms)))
    (line_front_after (m.byte ∷ text ms) front (piece_of (expects_header front) m.byte (text ms))) ms

-- what is found, with these labels of what stands before it
abbrev pub with_labels : Bool → Bool → Found → Found
with_labels gap first (FoundToken t was) = FoundToken (record t { gap = gap }) first
with_labels gap first (FoundOpen at) = FoundOpen at
