-- The first piece of a text, case by case.
use Rattle.std.proofs.Common.{◌≡◌, ℕ, suc, ◌+◌, Bool, true, false, ◌&&◌, ◌==◌, List, [], ◌∷◌, take, drop, Some, inl, inr, refl, sym, subst, arith}
use Rattle.std.specs.List.{prefix_len}
use Rattle.std.proofs.lemmas.Bool.{cases_Bool, and_parts, eqb-true}
use Rattle.std.proofs.lemmas.Bool.Decides.{nat_tests}
use Rattle.lexer.specs.Characters.{line_feed, slash, star, is_white, is_on_line, begins}
use Rattle.lexer.specs.Front.{front_of}
use Rattle.lexer.specs.Tokens.{Found, FoundToken, FoundOpen, file_token, with_token, is_line_start, comment_end, piece_of, piece_length, leaves_gap, line_front_after, found_in}
use Rattle.lexer.proofs.LocalLemmas.{option-cases}
use Rattle.lexer.proofs.PieceLocal.{token_piece-is}
use Rattle.arranged_text_laws.specs.Settling.{Front, is_lone, is_closed}
use Rattle.arranged_text_laws.specs.Marks.{file_front, line_start}

-- what a piece brings, in whatever place
abbrev Brings : Bool → ℕ → List ℕ → (ℕ → ℕ → Bool → Front → ℕ → List ℕ → List Found) → Type 0
Brings header c R fs =
    (file line : ℕ) (gap : Bool) (front : Front) (at : ℕ) (chars : List ℕ) → found_in file line gap front at chars (piece_of header c R) ≡ fs file line gap front at chars

abbrev brings_none : ℕ → ℕ → Bool → Front → ℕ → List ℕ → List Found
brings_none file line gap front at chars = []

-- a line feed
pub record Feeds (header : Bool) (c : ℕ) (R : List ℕ) : Type 0 where
  pub is : (c == line_feed) ≡ true
  pub size : piece_length 0 (piece_of header c R) ≡ 1
  pub gap : leaves_gap (piece_of header c R) ≡ true
  pub front : (chars : List ℕ) (f : Front) → line_front_after chars f (piece_of header c R) ≡ line_start
  pub found : Brings header c R brings_none

-- other white space
pub record Whites (header : Bool) (c : ℕ) (R : List ℕ) : Type 0 where
  pub is : is_white c ≡ true
  pub size : piece_length 0 (piece_of header c R) ≡ 1
  pub gap : leaves_gap (piece_of header c R) ≡ true
  pub front : (chars : List ℕ) (f : Front) → line_front_after chars f (piece_of header c R) ≡ f
  pub found : Brings header c R brings_none

-- a comment up to the end of its line
pub record Lines (header : Bool) (c : ℕ) (R : List ℕ) : Type 0 where
  pub is : (c == slash && begins slash R) ≡ true
  pub size : piece_length 0 (piece_of header c R) ≡ prefix_len is_on_line R + 1
  pub gap : leaves_gap (piece_of header c R) ≡ true
  pub front : (chars : List ℕ) (f : Front) → line_front_after chars f (piece_of header c R) ≡ f
  pub found : Brings header c R brings_none

-- a comment with an end
pub record Blocks (header : Bool) (c : ℕ) (R : List ℕ) : Type 0 where
  pub is : (c == slash && begins star R) ≡ true
  pub no_line : (c == slash && begins slash R) ≡ false
  pub count : ℕ
  pub end : comment_end (drop 1 R) ≡ Some count
  pub size : piece_length 0 (piece_of header c R) ≡ count + 2
  pub gap : leaves_gap (piece_of header c R) ≡ true
  pub front : (chars : List ℕ) (f : Front) → line_front_after chars f (piece_of header c R) ≡ f
  pub found : Brings header c R brings_none

-- a comment without end
pub record Opens (header : Bool) (c : ℕ) (R : List ℕ) : Type 0 where
  pub front : (chars : List ℕ) (f : Front) → line_front_after chars f (piece_of header c R) ≡ f
  pub found : Brings header c R (λ file line gap front at chars. FoundOpen at ∷ [])

-- a token
pub record Spells (header : Bool) (c : ℕ) (R : List ℕ) : Type 0 where
  pub dark : is_white c ≡ false
  pub no_line : (c == slash && begins slash R) ≡ false
  pub no_block : (c == slash && begins star R) ≡ false
  pub size : piece_length 0 (piece_of header c R) ≡ suc (front_of header c R).1
  pub gap : leaves_gap (piece_of header c R) ≡ false
  pub front : (chars : List ℕ) (f : Front) → line_front_after chars f (piece_of header c R) ≡ with_token (take (suc (front_of header c R).1) chars) f
  pub found : Brings header c R (λ file line gap front at chars.
      FoundToken (file_token file line gap at (front_of header c R).0 (take (suc (front_of header c R).1) chars)) (is_line_start front) ∷ [])

pub data View (header : Bool) (c : ℕ) (R : List ℕ) : Type 0 where
  feeds : Feeds header c R → View header c R
  whites : Whites header c R → View header c R
  lines : Lines header c R → View header c R
  blocks : Blocks header c R → View header c R
  opens : Opens header c R → View header c R
  spells : Spells header c R → View header c R

pub view : (header : Bool) (c : ℕ) (R : List ℕ) → View header c R
unfolding piece_of file_front
view header c R =
    elim (cases_Bool (c == line_feed)) [
      | inl ends_here ↦ feeds (record {
        is = ends_here;
        size = rw ends_here refl;
        gap = rw ends_here refl;
        front = λ chars f. rw ends_here refl;
        found = λ file line gap front at chars. rw ends_here refl;
      })
      | inr on ↦ elim (cases_Bool (is_white c)) [
        | inl white ↦ whites (record {
          is = white;
          size = rw (on, white) refl;
          gap = rw (on, white) refl;
          front = λ chars f. rw (on, white) refl;
          found = λ file line gap front at chars. rw (on, white) refl;
        })
        | inr dark ↦ elim (cases_Bool (c == slash && begins slash R)) [
          | inl line ↦ lines (record {
            is = line;
            size = rw (on, dark, line) refl;
            gap = rw (on, dark, line) refl;
            front = λ chars f. rw (on, dark, line) refl;
            found = λ file row gap front at chars. rw (on, dark, line) refl;
          })
          | inr no_line ↦ elim (cases_Bool (c == slash && begins star R)) [
            | inl block ↦ elim (option-cases (comment_end (drop 1 R))) [
              | inl open_still ↦ opens (record {
                front = λ chars f. rw (on, dark, no_line, block, open_still) refl;
                found = λ file line gap front at chars. rw (on, dark, no_line, block, open_still) refl;
              })
              | inr closed ↦ blocks (record {
                is = block;
                no_line = no_line;
                count = closed.0;
                end = closed.1;
                size = rw (on, dark, no_line, block, closed.1) refl;
                gap = rw (on, dark, no_line, block, closed.1) refl;
                front = λ chars f. rw (on, dark, no_line, block, closed.1) refl;
                found = λ file line gap front at chars. rw (on, dark, no_line, block, closed.1) refl;
              })
            ]
            | inr no_block ↦ spells (record {
              dark = dark;
              no_line = no_line;
              no_block = no_block;
              size = rw (on, dark, no_line, no_block, token_piece-is header c R) refl;
              gap = rw (on, dark, no_line, no_block, token_piece-is header c R) refl;
              front = λ chars f. rw (on, dark, no_line, no_block, token_piece-is header c R) refl;
              found = λ file line gap front at chars. rw (on, dark, no_line, no_block, token_piece-is header c R) refl;
            })
          ]
        ]
      ]
    ]

-- ---- what is alone, and what is closed

pub feed_lone : (c : ℕ) → (c == line_feed) ≡ true → is_lone c ≡ true
feed_lone c is = subst (λ d. is_lone d ≡ true) (sym (eqb-true c line_feed is)) refl

white_slash : (c : ℕ) → is_white c ≡ true → (c == slash) ≡ false
white_slash c h = grind (arith, nat_tests)

no_star : (R : List ℕ) → begins slash R ≡ true → begins star R ≡ false
no_star [] h = absurd cc
no_star (d ∷ R) h = subst (λ e. (e == star) ≡ false) (sym (eqb-true d slash h)) refl

pub feeds_closed : (header : Bool) (c : ℕ) (R : List ℕ) → Feeds header c R → is_closed c R ≡ true
feeds_closed header c R f = subst (λ d. is_closed d R ≡ true) (sym (eqb-true c line_feed f.is)) refl

pub whites_closed : (header : Bool) (c : ℕ) (R : List ℕ) → Whites header c R → is_closed c R ≡ true
whites_closed header c R w = rw (white_slash c w.is) refl

pub lines_closed : (header : Bool) (c : ℕ) (R : List ℕ) → Lines header c R → is_closed c R ≡ true
lines_closed header c R l =
    let parts = and_parts (c == slash) (begins slash R) l.is in
    rw (parts.0, no_star R parts.1) refl

pub blocks_closed : (header : Bool) (c : ℕ) (R : List ℕ) → Blocks header c R → is_closed c R ≡ true
blocks_closed header c R b = rw (b.is, b.end) refl

pub spells_closed : (header : Bool) (c : ℕ) (R : List ℕ) → Spells header c R → is_closed c R ≡ true
spells_closed header c R s = rw s.no_block refl
