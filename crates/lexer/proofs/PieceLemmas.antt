-- Pieces of a text.
use Rattle.std.proofs.Common.{◌≡◌, ℕ, suc, ◌+◌, ◌≤◌, Bool, true, ◌&&◌, ◌==◌, List, [], ◌∷◌, length, drop, Option, Some, None, IfSome, inl, inr, refl, arith}
use Rattle.std.proofs.lemmas.Bool.{cases_Bool, and_parts}
use Rattle.std.proofs.lemmas.List.Sums.{prefix_len-le-length}
use Rattle.std.specs.List.{prefix_len}
use Rattle.cs_base.specs.declared.tokens.Kind.{Kind}
use Rattle.lexer.specs.declared.pieces.Piece.{Piece}
use Rattle.lexer.specs.declared.pieces.Piece.TheVariants.{Blank, Token as Spelled}
use Rattle.lexer.specs.Characters.{line_feed, slash, star, is_white, is_on_line, begins}
use Rattle.lexer.specs.Tokens.{token_piece, piece_of, piece_length, comment_end, comment_or_open}
use Rattle.lexer.specs.Front.{IsFront, front_of}
use Rattle.lexer.proofs.KindLemmas.{front_of-front}
use Rattle.lexer.proofs.FrontLemmas.{one_more-within}

-- the token that begins a text, by its longest front
pub token_piece-front : (header : Bool) (c : ℕ) (cs : List ℕ) (kind : Kind) (n : ℕ) → IsFront header c cs kind n
    → token_piece header (c ∷ cs) ≡ Spelled kind (suc n)
unfolding token_piece
token_piece-front header c cs kind n is = rw (is.longest, is.spelled) refl

-- How many characters a piece has: at least one, and no more than there are.
pub record HasLength (left : ℕ) (piece : Piece) : Type 0 where
  pub some : 1 ≤ piece_length left piece
  pub within : piece_length left piece ≤ left

comment_end-within : (cs : List ℕ) → IfSome (comment_end cs) (λ n. n ≤ length cs)
comment_end-within [] = tt
comment_end-within (c ∷ []) = elim (cases_Bool (c == star)) [ inl is ↦ rw is tt | inr other ↦ rw other tt ]
comment_end-within (c ∷ d ∷ cs) =
    elim (cases_Bool (c == star && d == slash)) [
      | inl ends ↦ rw ends (omega arith)
      | inr on ↦ rw on (one_more-within (comment_end (d ∷ cs)) (suc (length cs)) (comment_end-within (d ∷ cs)))
    ]

within-more : (x : Option ℕ) (m : ℕ) → IfSome x (λ n. n ≤ m) → IfSome x (λ n. n + 2 ≤ suc (suc m))
within-more None m within = tt
within-more (Some n) m within = omega arith

block-length : (x : Option ℕ) (left : ℕ) → 2 ≤ left → IfSome x (λ n. n + 2 ≤ left) → HasLength left (comment_or_open x)
block-length None left two within = record { some = omega arith; within = omega arith }
block-length (Some n) left two within = record { some = omega arith; within = omega arith }

token_piece-length : (header : Bool) (c : ℕ) (cs : List ℕ) → HasLength (suc (length cs)) (token_piece header (c ∷ cs))
token_piece-length header c cs =
    let is = front_of-front header c cs in
    let within = is.within in
    rw (token_piece-front header c cs (front_of header c cs).0 (front_of header c cs).1 is)
    (record { some = omega arith; within = omega arith })

line_comment-length : (cs : List ℕ) → HasLength (suc (length cs)) (Blank (prefix_len is_on_line cs + 1))
line_comment-length cs =
    let few = prefix_len-le-length is_on_line cs in
    record { some = omega arith; within = omega arith }

block_comment-length : (cs : List ℕ) → begins star cs ≡ true
    → HasLength (suc (length cs)) (comment_or_open (comment_end (drop 1 cs)))
block_comment-length [] begins = absurd cc
block_comment-length (d ∷ ds) begins =
    block-length (comment_end ds) (suc (suc (length ds))) (omega arith) (within-more (comment_end ds) (length ds) (comment_end-within ds))

pub piece_of-length : (header : Bool) (c : ℕ) (cs : List ℕ) → HasLength (suc (length cs)) (piece_of header c cs)
unfolding piece_of
piece_of-length header c cs =
    elim (cases_Bool (c == line_feed)) [
      | inl ends ↦ rw ends (record { some = omega arith; within = omega arith })
      | inr on ↦ elim (cases_Bool (is_white c)) [
        | inl white ↦ rw (on, white) (record { some = omega arith; within = omega arith })
        | inr dark ↦ elim (cases_Bool (c == slash && begins slash cs)) [
          | inl line ↦ rw (on, dark, line) (line_comment-length cs)
          | inr no_line ↦ elim (cases_Bool (c == slash && begins star cs)) [
            | inl block ↦
                let parts = and_parts (c == slash) (begins star cs) block in
                rw (on, dark, no_line, block) (block_comment-length cs parts.1)
            | inr no_block ↦ rw (on, dark, no_line, no_block) (token_piece-length header c cs)
          ]
        ]
      ]
    ]
