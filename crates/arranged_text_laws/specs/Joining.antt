-- The tokens of two texts, one behind the other (ISO/IEC 9899:1999, 5.1.1.2 phases 2 and 3).
use Rattle.std.specs.Prelude.{◌≡◌, ℕ, zero, suc, ◌+◌, ◌-◌, ◌&&◌, ◌==◌, Bool, true, false, List, [], ◌∷◌, ◌++◌, length}
use Rattle.lexer.specs.Logical.{Character, gone_length, logical_from, logical_of, spelling}
use Rattle.lexer.specs.Tokens.{expects_header, is_line_start, found_from, found_of}
use Rattle.arranged_text_laws.specs.Settling.{Front, begins_stop, settles, gap_behind, front_behind, found_within}

-- no new-line that goes (5.1.1.2 phase 2) begins in the first text and ends in the second
unfoldable pub is_seam : ℕ → List ℕ → List ℕ → Bool
is_seam skip [] ys = skip == 0
is_seam (suc skip) (c ∷ xs) ys = is_seam skip xs ys
is_seam zero (c ∷ xs) ys = gone_length c (xs ++ ys) == gone_length c xs && is_seam (gone_length c xs - 1) xs ys

-- The law: what is found in a text that settles before another one is found there before any text, or before any that
-- begins with a stop; and then what is found in that one.
abbrev pub TextsJoin : Type 0
TextsJoin = (stop : Bool) (file : ℕ) (bytes : List ℕ) (gap : Bool) (front : Front) (at : ℕ) (cs ds : List Character) (ys : List ℕ)
    → settles stop 0 front (spelling cs) ys ≡ true → (stop ≡ true → begins_stop (spelling ds) ≡ true) → (stop ≡ true → begins_stop ys ≡ true)
    → found_from file bytes 0 gap front at (cs ++ ds)
    ≡ found_within file bytes 0 gap front at cs ys
    ++ found_from file bytes 0 (gap_behind 0 gap front (spelling cs) ys) (front_behind 0 front (spelling cs) ys) (at + length cs) ds

-- The law: the logical text of bytes is that of the first ones and that of the last, where no new-line that goes stands across
-- the seam.
abbrev pub LogicalTextsJoin : Type 0
LogicalTextsJoin = (at : ℕ) (xs ys : List ℕ) → is_seam 0 xs ys ≡ true → logical_from 0 at (xs ++ ys) ≡ logical_from 0 at xs ++ logical_from 0 (at + length xs) ys

-- The law: what is found in a file is found in its logical text from the first character on, with no token on the line.
abbrev pub FilesBegin : Type 0
FilesBegin = (front : Front) × (expects_header front ≡ false) × (is_line_start front ≡ true)
    × ((file : ℕ) (bytes : List ℕ) → found_of file bytes ≡ found_from file bytes 0 true front 0 (logical_of bytes))
