-- The first piece of a text stays where what follows it is spelled otherwise.
use Rattle.std.proofs.Common.{◌≡◌, ℕ, suc, ◌+◌, Bool, true, false, ◌&&◌, ◌==◌, List, [], ◌∷◌, ◌++◌, length, drop, Some, None, inl, inr, refl, sym, ◌∙◌, arith}
use Rattle.std.specs.List.{prefix_len, list_all}
use Rattle.std.proofs.lemmas.Bool.{cases_Bool}
use Rattle.std.proofs.lemmas.Bool.Decides.{nat_tests}
use Rattle.cs_base.specs.declared.tokens.Kind.TheVariants.{Ident}
use Rattle.lexer.specs.declared.pieces.Piece.TheVariants.{Blank, Token as Spelled}
use Rattle.lexer.specs.Characters.{line_feed, slash, star, is_nondigit, is_word, is_white, is_on_line, begins}
use Rattle.lexer.specs.Tokens.{token_piece, piece_of, piece_length, comment_end, comment_or_open}
use Rattle.lexer.specs.Front.{front_of, wide_front}
use Rattle.lexer.proofs.KindLemmas.{front_of-front}
use Rattle.lexer.proofs.PieceLemmas.{token_piece-front}
use Rattle.lexer.proofs.LocalLemmas.{first_is, FirstAlike, Alike, option-cases, prefix_len-local, comment_end-local, front_of-local, front_of-word}

-- the token that begins a text, as one pass reads it
pub token_piece-is : (header : Bool) (c : ℕ) (cs : List ℕ)
    → token_piece header (c ∷ cs) ≡ Spelled (front_of header c cs).0 (suc (front_of header c cs).1)
token_piece-is header c cs =
    token_piece-front header c cs (front_of header c cs).0 (front_of header c cs).1 (front_of-front header c cs)

token_piece-local : (header : Bool) (c : ℕ) (xs ys zs : List ℕ) → Alike c xs ys zs
    → piece_length 0 (token_piece header (c ∷ (xs ++ ys))) ≡ suc (length xs)
    → token_piece header (c ∷ (xs ++ zs)) ≡ token_piece header (c ∷ (xs ++ ys))
token_piece-local header c xs ys zs like size =
    let long : suc (front_of header c (xs ++ ys)).1 ≡ suc (length xs) = rw (token_piece-is header c (xs ++ ys)) at size in
    rw (token_piece-is header c (xs ++ ys), token_piece-is header c (xs ++ zs), front_of-local header c xs ys zs like (omega arith)) refl

nondigit-slash : (c : ℕ) → is_nondigit c ≡ true → (c == slash) ≡ false
nondigit-slash c h = grind (arith, nat_tests)

nondigit-star : (c : ℕ) → is_nondigit c ≡ true → (c == star) ≡ false
nondigit-star c h = grind (arith, nat_tests)

nondigit-on_line : (c : ℕ) → is_nondigit c ≡ true → is_on_line c ≡ true
nondigit-on_line c h = grind (arith, nat_tests)

pub begins-first : (d : ℕ) (cs : List ℕ) → begins d cs ≡ first_is (λ c. c == d) cs
begins-first d [] = refl
begins-first d (c ∷ cs) = refl

begins-local : (d : ℕ) (xs ys zs : List ℕ) → first_is (λ c. c == d) zs ≡ first_is (λ c. c == d) ys
    → begins d (xs ++ zs) ≡ begins d (xs ++ ys)
begins-local d [] ys zs same = begins-first d zs ∙ same ∙ sym (begins-first d ys)
begins-local d (x ∷ xs) ys zs same = refl

-- a comment to the end of its line
line_comment-local : (xs ys zs : List ℕ) → FirstAlike ys zs → prefix_len is_on_line (xs ++ ys) + 1 ≡ suc (length xs)
    → Blank (prefix_len is_on_line (xs ++ zs) + 1) ≡ Blank (prefix_len is_on_line (xs ++ ys) + 1)
line_comment-local xs ys zs alike size =
    let same = prefix_len-local is_on_line xs ys zs (alike is_on_line true nondigit-on_line) (omega arith) in
    rw same refl

pub open-left : (xs ys : List ℕ) → suc (length (xs ++ ys)) ≡ suc (length xs) → ys ≡ []
open-left [] [] size = refl
open-left [] (y ∷ ys) size = absurd (omega arith)
open-left (x ∷ xs) ys size = open-left xs ys (omega arith)

block-closed : (xs ys zs : List ℕ) (n : ℕ) → comment_end (drop 1 (xs ++ ys)) ≡ Some n → n + 2 ≡ suc (length xs)
    → comment_or_open (comment_end (drop 1 (xs ++ zs))) ≡ comment_or_open (comment_end (drop 1 (xs ++ ys)))
block-closed [] ys zs n closed size = absurd (omega arith)
block-closed (x ∷ xs) ys zs n closed size =
    let again = comment_end-local xs ys zs n closed (omega arith) in
    rw (again, closed) refl

-- any other comment
block_comment-local : (xs ys zs : List ℕ) → (ys ≡ [] → zs ≡ [])
    → piece_length (suc (length (xs ++ ys))) (comment_or_open (comment_end (drop 1 (xs ++ ys)))) ≡ suc (length xs)
    → comment_or_open (comment_end (drop 1 (xs ++ zs))) ≡ comment_or_open (comment_end (drop 1 (xs ++ ys)))
block_comment-local xs ys zs empty size =
    elim (option-cases (comment_end (drop 1 (xs ++ ys)))) [
      | inl open_still ↦
          let long : suc (length (xs ++ ys)) ≡ suc (length xs) = rw open_still at size in
          let none = open-left xs ys long in
          rw (none, empty none) refl
      | inr closed ↦
          let long : closed.0 + 2 ≡ suc (length xs) = rw closed.1 at size in
          block-closed xs ys zs closed.0 closed.1 long
    ]

token-length : (header : Bool) (c : ℕ) (cs : List ℕ) (left n : ℕ) → piece_length left (token_piece header (c ∷ cs)) ≡ n
    → piece_length 0 (token_piece header (c ∷ cs)) ≡ n
token-length header c cs left n size =
    rw (token_piece-is header c cs) (rw (token_piece-is header c cs) at size)

pub piece_of-local : (header : Bool) (c : ℕ) (xs ys zs : List ℕ) → Alike c xs ys zs
    → piece_length (suc (length (xs ++ ys))) (piece_of header c (xs ++ ys)) ≡ suc (length xs)
    → piece_of header c (xs ++ zs) ≡ piece_of header c (xs ++ ys)
unfolding piece_of
piece_of-local header c xs ys zs like size =
    let slashes = begins-local slash xs ys zs (like.first (λ b. b == slash) false nondigit-slash) in
    let stars = begins-local star xs ys zs (like.first (λ b. b == star) false nondigit-star) in
    elim (cases_Bool (c == line_feed)) [
      | inl ends ↦ rw ends refl
      | inr on ↦ elim (cases_Bool (is_white c)) [
        | inl white ↦ rw (on, white) refl
        | inr dark ↦ elim (cases_Bool (c == slash && begins slash (xs ++ ys))) [
          | inl line ↦ rw (on, dark, slashes, line) (line_comment-local xs ys zs like.first (rw (on, dark, line) at size))
          | inr no_line ↦ elim (cases_Bool (c == slash && begins star (xs ++ ys))) [
            | inl block ↦ rw (on, dark, slashes, no_line, stars, block)
                (block_comment-local xs ys zs like.empty (rw (on, dark, no_line, block) at size))
            | inr no_block ↦ rw (on, dark, slashes, no_line, stars, no_block)
                (token_piece-local header c xs ys zs like (token-length header c (xs ++ ys) (suc (length (xs ++ ys))) _ (rw (on, dark, no_line, no_block) at size)))
          ]
        ]
      ]
    ]

nondigit-line : (c : ℕ) → is_nondigit c ≡ true → (c == line_feed) ≡ false
nondigit-line c h = grind (arith, nat_tests)

nondigit-white : (c : ℕ) → is_nondigit c ≡ true → is_white c ≡ false
nondigit-white c h = grind (arith, nat_tests)

-- an identifier that no word follows is the first piece
pub piece_of-word : (header : Bool) (c : ℕ) (ws ys : List ℕ) → is_nondigit c ≡ true → list_all is_word ws ≡ true
    → first_is is_word ys ≡ false → wide_front c (ws ++ ys) ≡ None → piece_of header c (ws ++ ys) ≡ Spelled Ident (suc (length ws))
unfolding piece_of
piece_of-word header c ws ys letter words stops narrow =
    rw (
      nondigit-line c letter,
      nondigit-white c letter,
      nondigit-slash c letter,
      token_piece-is header c (ws ++ ys),
      front_of-word header c ws ys letter words stops narrow,
    ) refl
