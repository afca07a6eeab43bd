-- Pieces that an edit keeps.
use Rattle.std.proofs.Common.{◌≡◌, ℕ, zero, suc, ◌+◌, ◌-◌, ◌≤◌, Bool, true, false, not, ◌&&◌, ◌||◌, ◌==◌, List, [], ◌∷◌, ◌++◌, length, take, drop, nat_le, Option, Some, None, unwrap_or, inl, inr, refl, sym, ap, ◌∙◌, arith, add-zero, length-append}
use Rattle.std.specs.List.{list_all, prefix_len}
use Rattle.std.specs.Str.{bytes_eq}
use Rattle.std.specs.Prelude.{codes}
use Rattle.std.proofs.Math.Seq.{take-append_seam}
use Rattle.std.proofs.lemmas.List.{take-append-drop, length-take-le}
use Rattle.std.proofs.lemmas.Bool.{cases_Bool, and_parts, and_from, or_cases, not-true}
use Rattle.cs_base.proofs.FileMapLemmas.{bytes_eq-equal}
use Rattle.cs_base.proofs.ListLemmas.{drop-front as drop_seam}
use Rattle.cs_base.specs.declared.tokens.Kind.{Kind}
use Rattle.cs_base.specs.declared.tokens.Kind.TheVariants.{Ident, Number, Char, Str, Punct, Other, Header}
use Rattle.lexer.specs.declared.pieces.Piece.{Piece}
use Rattle.lexer.specs.declared.pieces.Piece.TheVariants.{Blank, LineEnd, OpenComment, Token as Spelled}
use Rattle.lexer.specs.declared.pieces.LineFront.{LineFront}
use Rattle.lexer.specs.Characters.{line_feed, slash, star, is_nondigit, is_word, is_white, is_quote, begins}
use Rattle.lexer.specs.Spelling.{is_identifier_text, begins_number}
use Rattle.lexer.specs.Tokens.{token_piece, piece_of, piece_length, comment_end, comment_or_open, expects_header, line_front_after}
use Rattle.lexer.specs.Front.{front_of, plain_front, wide_front, quoted, quoted_kind, quoted_front, punctuator_length, punctuator_front, header_length, or_header}
use Rattle.lexer.specs.Respelling.{Put, respell, stays, words_stand, names_stand, keeps_include, keeps_word, keeps_piece, keeps_pieces}
use Rattle.lexer.proofs.PieceLemmas.{piece_of-length}
use Rattle.lexer.proofs.LocalLemmas.{first_is, option-cases, wide-cases}
use Rattle.lexer.proofs.PieceLocal.{token_piece-is}
use Rattle.lexer.proofs.FitLemmas.{kept, named, inner, Fits, Fits-append, stays-fits}

-- Texts cut behind their first piece.

keeps_pieces-skip : (put : Put) (skip : ℕ) (front : LineFront) (at : ℕ) (cs : List ℕ)
    → keeps_pieces put skip front at cs ≡ keeps_pieces put 0 front (at + skip) (drop skip cs)
unfolding keeps_pieces
keeps_pieces-skip put zero front at cs = rw add-zero refl
keeps_pieces-skip put (suc skip) front at [] = refl
keeps_pieces-skip put (suc skip) front at (c ∷ cs) =
    let on : at + suc skip ≡ at + 1 + skip = omega arith in
    rw on (keeps_pieces-skip put skip front (at + 1) cs)

-- the first piece of a text has the character c and the characters xs
abbrev pub IsCut : LineFront → ℕ → List ℕ → List ℕ → Type 0
IsCut front c xs ys =
    piece_length (suc (length (xs ++ ys))) (piece_of (expects_header front) c (xs ++ ys)) ≡ suc (length xs)

pub keeps_pieces-cut : (put : Put) (front : LineFront) (at c : ℕ) (xs ys : List ℕ) → IsCut front c xs ys
    → keeps_pieces put 0 front at (c ∷ (xs ++ ys))
    ≡ (keeps_piece put front at (c ∷ (xs ++ ys)) (piece_of (expects_header front) c (xs ++ ys))
    && keeps_pieces put 0 (line_front_after (c ∷ (xs ++ ys)) front (piece_of (expects_header front) c (xs ++ ys)))
    (at + suc (length xs)) ys)
unfolding keeps_pieces
keeps_pieces-cut put front at c xs ys size =
    let left : suc (length xs) - 1 ≡ length xs = omega arith in
    let on : at + suc (length xs) ≡ at + 1 + length xs = omega arith in
    let to = line_front_after (c ∷ (xs ++ ys)) front (piece_of (expects_header front) c (xs ++ ys)) in
    rw (size, left, on, keeps_pieces-skip put (length xs) to (at + 1) (xs ++ ys), drop_seam xs ys) refl

-- What is kept: the piece stays, or an identifier is another.
pub data IsKept (put : Put) (front : LineFront) (at c : ℕ) (xs : List ℕ) (piece : Piece) : Type 0 where
  same : stays put at (c ∷ xs) ≡ true → IsKept put front at c xs piece
  word : piece ≡ Spelled Ident (suc (length xs)) → names_stand put at (c ∷ xs) ≡ true
      → bytes_eq (respell put at (c ∷ xs)) (codes "L") ≡ false
      → keeps_include front (c ∷ xs) (respell put at (c ∷ xs)) ≡ true → IsKept put front at c xs piece

kept-same : (put : Put) (front : LineFront) (at c : ℕ) (xs ys : List ℕ) (piece : Piece) (n : ℕ) → n ≡ suc (length xs)
    → stays put at (take n (c ∷ (xs ++ ys))) ≡ true → IsKept put front at c xs piece
kept-same put front at c xs ys piece n size stay =
    same (rw (size, take-append_seam xs ys) at stay)

kept-word : (put : Put) (front : LineFront) (at c : ℕ) (xs : List ℕ) → keeps_word put front at (c ∷ xs) ≡ true
    → IsKept put front at c xs (Spelled Ident (suc (length xs)))
kept-word put front at c xs keeps =
    let now = respell put at (c ∷ xs) in
    let parts = and_parts (names_stand put at (c ∷ xs)) (stays put at (c ∷ xs) || (not (bytes_eq now (codes "L")) && keeps_include front (c ∷ xs) now)) keeps in
    elim (or_cases (stays put at (c ∷ xs)) (not (bytes_eq now (codes "L")) && keeps_include front (c ∷ xs) now) parts.1) [
      | inl stay ↦ same stay
      | inr other ↦
          let both = and_parts (not (bytes_eq now (codes "L"))) (keeps_include front (c ∷ xs) now) other in
          word refl parts.0 (not-true (bytes_eq now (codes "L")) both.0) both.1
    ]

kept-piece : (put : Put) (front : LineFront) (at c : ℕ) (xs ys : List ℕ) (piece : Piece)
    → piece_length (suc (length (xs ++ ys))) piece ≡ suc (length xs) → keeps_piece put front at (c ∷ (xs ++ ys)) piece ≡ true
    → IsKept put front at c xs piece
kept-piece put front at c xs ys (Blank n) size keeps = kept-same put front at c xs ys (Blank n) n size keeps
kept-piece put front at c xs ys LineEnd size keeps = kept-same put front at c xs ys LineEnd 1 size keeps
kept-piece put front at c xs ys OpenComment size keeps =
    kept-same put front at c xs ys OpenComment (suc (length (xs ++ ys))) size keeps
kept-piece put front at c xs ys (Spelled Ident n) size keeps =
    rw size (kept-word put front at c xs (rw (size, take-append_seam xs ys) at keeps))
kept-piece put front at c xs ys (Spelled Number n) size keeps = kept-same put front at c xs ys (Spelled Number n) n size keeps
kept-piece put front at c xs ys (Spelled Char n) size keeps = kept-same put front at c xs ys (Spelled Char n) n size keeps
kept-piece put front at c xs ys (Spelled Str n) size keeps = kept-same put front at c xs ys (Spelled Str n) n size keeps
kept-piece put front at c xs ys (Spelled Punct n) size keeps = kept-same put front at c xs ys (Spelled Punct n) n size keeps
kept-piece put front at c xs ys (Spelled Other n) size keeps = kept-same put front at c xs ys (Spelled Other n) n size keeps
kept-piece put front at c xs ys (Spelled Header n) size keeps = kept-same put front at c xs ys (Spelled Header n) n size keeps

-- Identifiers.

-- What is true of an identifier that a text begins with: a nondigit begins it, and no quoted text.
pub record IsWord (c : ℕ) (cs : List ℕ) (n : ℕ) : Type 0 where
  pub letter : is_nondigit c ≡ true
  pub words : prefix_len is_word cs ≡ n
  pub narrow : wide_front c cs ≡ None

pub quoted_kind-other : (q : ℕ) → quoted_kind q ≡ Ident → ⊥
quoted_kind-other q is =
    elim (cases_Bool (q == 39)) [
      | inl single ↦ let contra = rw single at is in cc
      | inr other ↦ let contra = rw other at is in cc
    ]

sign-other : (n : ℕ) → (punctuator_front n).0 ≡ Ident → ⊥
sign-other zero is = cc
sign-other (suc n) is = cc

quoted-other : (q : ℕ) (cs : List ℕ) → (unwrap_or {T = Kind × ℕ} (quoted_front q cs) (Other, 0)).0 ≡ Ident → ⊥
quoted-other q cs is =
    elim (option-cases (quoted q cs)) [
      | inl none ↦ let contra = rw none at is in cc
      | inr closed ↦ quoted_kind-other q (rw closed.1 at is)
    ]

plain-word : (c : ℕ) (cs : List ℕ) → (plain_front c cs).0 ≡ Ident → IsWord c cs (plain_front c cs).1
unfolding plain_front
plain-word c cs is =
    elim (cases_Bool (is_nondigit c)) [
      | inl letter ↦ elim (wide-cases c cs) [
        | inl narrow ↦ rw (letter, narrow) (record { letter = letter; words = refl; narrow = narrow })
        | inr w ↦
            let here : wide_front c cs ≡ Some (quoted_kind w.0, w.2 + 1) = rw (w.3, w.4, w.5) refl in
            absurd (quoted_kind-other w.0 (rw (letter, here) at is))
      ]
      | inr other ↦ elim (cases_Bool (begins_number c cs)) [
        | inl begins ↦ let contra = rw (other, begins) at is in absurd cc
        | inr no_number ↦ elim (cases_Bool (is_quote c)) [
          | inl quote ↦ absurd (quoted-other c cs (rw (other, no_number, quote) at is))
          | inr no_quote ↦ absurd (sign-other (punctuator_length (c ∷ cs)) (rw (other, no_number, no_quote) at is))
        ]
      ]
    ]

or_header-word : (x : Option ℕ) (front : Kind × ℕ) → (or_header x front).0 ≡ Ident → or_header x front ≡ front
or_header-word None front is = refl
or_header-word (Some n) front is =
    elim (cases_Bool (nat_le front.1 n)) [
      | inl reached ↦ let contra = rw reached at is in absurd cc
      | inr longer ↦ rw longer refl
    ]

front-word : (header : Bool) (c : ℕ) (cs : List ℕ) → (front_of header c cs).0 ≡ Ident → IsWord c cs (front_of header c cs).1
unfolding front_of
front-word true c cs is =
    let same = or_header-word (header_length c cs) (plain_front c cs) is in
    rw same (plain-word c cs (rw same at is))
front-word false c cs is = plain-word c cs is

spelled-word : (header : Bool) (c : ℕ) (cs : List ℕ) (n : ℕ) → token_piece header (c ∷ cs) ≡ Spelled Ident (suc n) → IsWord c cs n
spelled-word header c cs n is =
    let given : Spelled (front_of header c cs).0 (suc (front_of header c cs).1) ≡ Spelled Ident (suc n) = rw (token_piece-is header c cs) at is in
    let kind : (front_of header c cs).0 ≡ Ident = cc in
    let size : (front_of header c cs).1 ≡ n = cc in
    rw (← size) (front-word header c cs kind)

block-other : (x : Option ℕ) (n : ℕ) → comment_or_open x ≡ Spelled Ident n → ⊥
block-other None n is = cc
block-other (Some m) n is = cc

pub piece-word : (header : Bool) (c : ℕ) (cs : List ℕ) (n : ℕ) → piece_of header c cs ≡ Spelled Ident (suc n) → IsWord c cs n
unfolding piece_of
piece-word header c cs n is =
    elim (cases_Bool (c == line_feed)) [
      | inl ends ↦ let contra = rw ends at is in absurd cc
      | inr on ↦ elim (cases_Bool (is_white c)) [
        | inl white ↦ let contra = rw (on, white) at is in absurd cc
        | inr dark ↦ elim (cases_Bool (c == slash && begins slash cs)) [
          | inl line ↦ let contra = rw (on, dark, line) at is in absurd cc
          | inr no_line ↦ elim (cases_Bool (c == slash && begins star cs)) [
            | inl block ↦ absurd (block-other (comment_end (drop 1 cs)) (suc n) (rw (on, dark, no_line, block) at is))
            | inr no_block ↦ spelled-word header c cs n (rw (on, dark, no_line, no_block) at is)
          ]
        ]
      ]
    ]

first_stops : (ys : List ℕ) → prefix_len is_word ys ≡ 0 → first_is is_word ys ≡ false
first_stops [] size = refl
first_stops (y ∷ ys) size =
    elim (cases_Bool (is_word y)) [
      | inl passes ↦ let some = rw passes at size in absurd (omega arith)
      | inr fails ↦ fails
    ]

pub words-front : (xs ys : List ℕ) → prefix_len is_word (xs ++ ys) ≡ length xs → (list_all is_word xs ≡ true) × (first_is is_word ys ≡ false)
words-front [] ys size = (refl, first_stops ys size)
words-front (x ∷ xs) ys size =
    elim (cases_Bool (is_word x)) [
      | inl passes ↦
          let more : 1 + prefix_len is_word (xs ++ ys) ≡ suc (length xs) = rw passes at size in
          let rest = words-front xs ys (omega arith) in
          (and_from (is_word x) (list_all is_word xs) passes rest.0, rest.1)
      | inr fails ↦ let none = rw fails at size in absurd (omega arith)
    ]

-- The first piece of a text, cut off.
pub record Cut (front : LineFront) (c : ℕ) (cs : List ℕ) : Type 0 where
  pub xs : List ℕ
  pub ys : List ℕ
  pub whole : xs ++ ys ≡ cs
  pub size : IsCut front c xs ys

pub cut : (front : LineFront) (c : ℕ) (cs : List ℕ) → Cut front c cs
cut front c cs =
    let bounds = piece_of-length (expects_header front) c cs in
    let n = piece_length (suc (length cs)) (piece_of (expects_header front) c cs) in
    let some = bounds.some in
    let within = bounds.within in
    let whole = take-append-drop (n - 1) cs in
    let kept_length : suc (length (take (n - 1) cs)) ≡ n = omega (arith, length-take-le (n - 1) cs (omega arith)) in
    record {
      xs = take (n - 1) cs;
      ys = drop (n - 1) cs;
      whole = whole;
      size = rw whole (sym kept_length);
    }

-- what an edit keeps of a text that is cut behind its first piece
pub record Keeps (put : Put) (front : LineFront) (at c : ℕ) (xs ys : List ℕ) : Type 0 where
  pub piece : IsKept put front at c xs (piece_of (expects_header front) c (xs ++ ys))
  pub later : keeps_pieces put 0 (line_front_after (c ∷ (xs ++ ys)) front (piece_of (expects_header front) c (xs ++ ys)))
      (at + suc (length xs)) ys ≡ true

pub keeps-cut : (put : Put) (front : LineFront) (at c : ℕ) (xs ys : List ℕ) → IsCut front c xs ys
    → keeps_pieces put 0 front at (c ∷ (xs ++ ys)) ≡ true → Keeps put front at c xs ys
keeps-cut put front at c xs ys size keeps =
    let piece = piece_of (expects_header front) c (xs ++ ys) in
    let both = and_parts (keeps_piece put front at (c ∷ (xs ++ ys)) piece)
    (keeps_pieces put 0 (line_front_after (c ∷ (xs ++ ys)) front piece) (at + suc (length xs)) ys)
    (sym (keeps_pieces-cut put front at c xs ys size) ∙ keeps) in
    record {
      piece = kept-piece put front at c xs ys piece size both.0;
      later = both.1;
    }

-- A text whose pieces are kept is one in which words stand for words.

words-fit : (put : Put) (at : ℕ) (xs : List ℕ) → list_all is_word xs ≡ true → words_stand put at xs ≡ true → Fits put true at xs
words-fit put at [] words stand = tt
words-fit put at (x ∷ xs) words stand =
    let parts = and_parts (is_word x) (list_all is_word xs) words in
    let both = and_parts (list_all is_word (put at x)) (words_stand put (at + 1) xs) stand in
    (inner refl parts.0 both.0, rw parts.0 (words-fit put (at + 1) xs parts.1 both.1))

word-fits : (put : Put) (before : Bool) (at c : ℕ) (xs : List ℕ) → is_nondigit c ≡ true → list_all is_word xs ≡ true
    → names_stand put at (c ∷ xs) ≡ true → Fits put before at (c ∷ xs)
word-fits put before at c xs letter words stand =
    let both = and_parts (bytes_eq (put at c) (c ∷ []) || is_identifier_text (put at c)) (words_stand put (at + 1) xs) stand in
    let word_first : is_word c ≡ true = rw letter refl in
    let rest : Fits put (is_word c) (at + 1) xs = rw word_first (words-fit put (at + 1) xs words both.1) in
    elim (or_cases (bytes_eq (put at c) (c ∷ [])) (is_identifier_text (put at c)) both.0) [
      | inl stay ↦ (kept (bytes_eq-equal (put at c) (c ∷ []) stay), rest)
      | inr ident ↦ (named letter ident, rest)
    ]

kept-fits : (put : Put) (front : LineFront) (at c : ℕ) (xs ys : List ℕ) (piece : Piece)
    → piece_of (expects_header front) c (xs ++ ys) ≡ piece → IsKept put front at c xs piece → Fits put false at (c ∷ xs)
kept-fits put front at c xs ys piece is (same stay) = stays-fits put false at (c ∷ xs) stay
kept-fits put front at c xs ys piece is (word ident stand other include) =
    let w = piece-word (expects_header front) c (xs ++ ys) (length xs) (is ∙ ident) in
    let parts = words-front xs ys w.words in
    word-fits put false at c xs w.letter parts.0 stand

keeps-fits-within : (m : ℕ) (put : Put) (front : LineFront) (at : ℕ) (cs : List ℕ) → length cs ≤ m
    → keeps_pieces put 0 front at cs ≡ true → Fits put false at cs
keeps-fits-within m put front at [] small keeps = tt
keeps-fits-within zero put front at (c ∷ cs) small keeps = absurd (omega arith)
keeps-fits-within (suc m) put front at (c ∷ cs) small keeps =
    let part = cut front c cs in
    let whole = part.whole in
    let sized : keeps_pieces put 0 front at (c ∷ (part.xs ++ part.ys)) ≡ true = rw whole keeps in
    let held = keeps-cut put front at c part.xs part.ys part.size sized in
    let few : length part.ys ≤ m = omega (arith, ap length whole, length-append part.xs part.ys) in
    let to = line_front_after (c ∷ (part.xs ++ part.ys)) front (piece_of (expects_header front) c (part.xs ++ part.ys)) in
    let later = keeps-fits-within m put to (at + suc (length part.xs)) part.ys few held.later in
    let first = kept-fits put front at c part.xs part.ys _ refl held.piece in
    let all : Fits put false at (c ∷ (part.xs ++ part.ys)) = Fits-append put false at (c ∷ part.xs) part.ys first later in
    rw (← whole) all

pub keeps-fits : (put : Put) (front : LineFront) (at : ℕ) (cs : List ℕ) → keeps_pieces put 0 front at cs ≡ true → Fits put false at cs
keeps-fits put front at cs keeps = keeps-fits-within (length cs) put front at cs (omega arith) keeps

-- Kinds of spellings.
