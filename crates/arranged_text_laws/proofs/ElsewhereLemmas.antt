-- Characters with other numbers and lines bring the same, elsewhere.
use Rattle.std.proofs.Common.{◌≡◌, ℕ, Bool, ◌&&◌, ◌==◌, List, drop, map, inl, inr, refl}
use Rattle.std.proofs.lemmas.Bool.{cases_Bool}
use Rattle.lexer.specs.Characters.{line_feed, slash, star, is_white, begins}
use Rattle.lexer.specs.Tokens.{comment_end, piece_of, found_in}
use Rattle.lexer.proofs.LocalLemmas.{option-cases}
use Rattle.lexer.proofs.PieceLocal.{token_piece-is}
use Rattle.arranged_text_laws.specs.Settling.{Front}
use Rattle.arranged_text_laws.specs.Marks.{Mark, mark}
use Rattle.arranged_text_laws.specs.Arranging.{moved_found}

-- a character with another number and another line
abbrev pub elsewhere : (ℕ → ℕ) → (ℕ → ℕ) → Mark → Mark
elsewhere place line m = mark m.byte (place m.at) (line m.at)

pub one_elsewhere : (place line : ℕ → ℕ) (file was : ℕ) (gap : Bool) (front : Front) (at : ℕ) (chars : List ℕ) (header : Bool) (c : ℕ) (cs : List ℕ)
    → found_in file (line at) gap front (place at) chars (piece_of header c cs)
    ≡ map (moved_found place line) (found_in file was gap front at chars (piece_of header c cs))
unfolding piece_of
one_elsewhere place line file was gap front at chars header c cs =
    elim (cases_Bool (c == line_feed)) [
      | inl ends_here ↦ rw ends_here refl
      | inr on ↦ elim (cases_Bool (is_white c)) [
        | inl white ↦ rw (on, white) refl
        | inr dark ↦ elim (cases_Bool (c == slash && begins slash cs)) [
          | inl comment ↦ rw (on, dark, comment) refl
          | inr no_line ↦ elim (cases_Bool (c == slash && begins star cs)) [
            | inl block ↦ elim (option-cases (comment_end (drop 1 cs))) [
              | inl open_still ↦ rw (on, dark, no_line, block, open_still) refl
              | inr closed ↦ rw (on, dark, no_line, block, closed.1) refl
            ]
            | inr no_block ↦ rw (on, dark, no_line, no_block, token_piece-is header c cs) refl
          ]
        ]
      ]
    ]
