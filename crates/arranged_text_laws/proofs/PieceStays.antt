-- The first piece of a text stays, whatever stands behind it.
use Rattle.std.proofs.Common.{◌≡◌, ℕ, suc, ◌+◌, ◌≤◌, Bool, true, false, not, ◌&&◌, ◌||◌, ◌==◌, nat_le, List, [], ◌∷◌, ◌++◌, length, take, drop, is_some, unwrap_or, inl, inr, refl, sym, ap, subst, ◌∙◌, arith}
use Rattle.std.specs.List.{prefix_len, list_any}
use Rattle.std.specs.Option.{option_map}
use Rattle.std.proofs.lemmas.Bool.{cases_Bool, and_parts, or_cases, eqb-true, leb-true}
use Rattle.std.proofs.lemmas.Bool.Decides.{nat_tests}
use Rattle.cs_base.specs.declared.tokens.Kind.{Kind}
use Rattle.cs_base.specs.declared.tokens.Kind.TheVariants.{Ident, Punct, Other}
use Rattle.lexer.specs.Characters.{line_feed, slash, star, capital_l, is_nondigit, is_digit, is_word, is_quote, is_on_line, is_white, begins}
use Rattle.lexer.specs.Tokens.{token_piece, piece_of, piece_length, comment_end, comment_or_open, line_front_after, found_in}
use Rattle.lexer.specs.Front.{quoted, quoted_kind, quoted_front, punctuator_length, plain_front, front_of}
use Rattle.lexer.proofs.LocalLemmas.{option-cases, comment_end-local}
use Rattle.lexer.proofs.PieceLocal.{token_piece-is}
use Rattle.lexer.proofs.KindLemmas.{quote-nondigit}
use Rattle.arranged_text_laws.specs.Settling.{Front, is_lone, is_stop, begins_stop, begins_quote, has_line_feed, asks_nothing, keeps_line, is_closed, halts, lies_within, is_settled}
use Rattle.arranged_text_laws.proofs.StopLemmas.{ends, on_line_alone, quoted_stays, Quotes, plain_same, front_line}

-- ---- signs that stand alone

sign_front : (header : Bool) (cs : List ℕ) → (front_of header 40 cs ≡ (Punct, 0)) × (front_of header 41 cs ≡ (Punct, 0)) × (front_of header 44 cs ≡ (Punct, 0))
unfolding front_of plain_front punctuator_length
sign_front true cs = (refl, refl, refl)
sign_front false cs = (refl, refl, refl)

token_same : (header : Bool) (c : ℕ) (cs ds : List ℕ) → front_of header c cs ≡ front_of header c ds → token_piece header (c ∷ cs) ≡ token_piece header (c ∷ ds)
token_same header c cs ds same = rw (token_piece-is header c cs, token_piece-is header c ds, same) refl

open_piece : (header : Bool) (cs ds : List ℕ) → piece_of header 40 cs ≡ piece_of header 40 ds
unfolding piece_of
open_piece header cs ds = token_same header 40 cs ds ((sign_front header cs).0 ∙ sym (sign_front header ds).0)

close_piece : (header : Bool) (cs ds : List ℕ) → piece_of header 41 cs ≡ piece_of header 41 ds
unfolding piece_of
close_piece header cs ds = token_same header 41 cs ds ((sign_front header cs).1 ∙ sym (sign_front header ds).1)

comma_piece : (header : Bool) (cs ds : List ℕ) → piece_of header 44 cs ≡ piece_of header 44 ds
unfolding piece_of
comma_piece header cs ds = token_same header 44 cs ds ((sign_front header cs).2 ∙ sym (sign_front header ds).2)

white_piece : (header : Bool) (c : ℕ) (xs ys : List ℕ) → is_white c ≡ true → piece_of header c xs ≡ piece_of header c ys
unfolding piece_of
white_piece header c xs ys white =
    elim (cases_Bool (c == line_feed)) [ inl ends_here ↦ rw ends_here refl | inr on ↦ rw (on, white) refl ]

lone_piece : (header : Bool) (c : ℕ) (xs ys : List ℕ) → is_lone c ≡ true → piece_of header c xs ≡ piece_of header c ys
lone_piece header c xs ys lone =
    elim (or_cases (is_white c) (c == 40 || (c == 41 || c == 44)) lone) [
      | inl white ↦ white_piece header c xs ys white
      | inr sign ↦ elim (or_cases (c == 40) (c == 41 || c == 44) sign) [
        | inl opens ↦ subst (λ d. piece_of header d xs ≡ piece_of header d ys) (sym (eqb-true c 40 opens)) (open_piece header xs ys)
        | inr other ↦ elim (or_cases (c == 41) (c == 44) other) [
          | inl closes ↦ subst (λ d. piece_of header d xs ≡ piece_of header d ys) (sym (eqb-true c 41 closes)) (close_piece header xs ys)
          | inr comma ↦ subst (λ d. piece_of header d xs ≡ piece_of header d ys) (sym (eqb-true c 44 comma)) (comma_piece header xs ys)
        ]
      ]
    ]

-- ---- stops behind a piece

ends-later : (xs ys : List ℕ) → begins_stop ys ≡ true → ends xs ys ≡ true
ends-later [] ys h = h
ends-later (x ∷ xs) ys h =
    elim (cases_Bool (is_stop x)) [ inl st ↦ rw st refl | inr nost ↦ rw nost (ends-later xs ys h) ]

ends-inside : (xs ys : List ℕ) → list_any is_stop xs ≡ true → ends xs ys ≡ true
ends-inside [] ys h = absurd cc
ends-inside (x ∷ xs) ys h =
    elim (cases_Bool (is_stop x)) [ inl st ↦ rw st refl | inr nost ↦ rw nost (ends-inside xs ys (rw nost at h)) ]

pub halts-ends : (stop : Bool) (c : ℕ) (xs ys : List ℕ) → halts stop c xs ≡ true → (stop ≡ true → begins_stop ys ≡ true) → ends xs ys ≡ true
halts-ends stop c [] ys h k = let parts = and_parts stop (not (c == slash)) h in k parts.0
halts-ends stop c (x ∷ xs) ys h k =
    elim (or_cases stop (is_stop x || list_any is_stop xs) h) [
      | inl is ↦ ends-later (x ∷ xs) ys (k is)
      | inr inside ↦ ends-inside (x ∷ xs) ys inside
    ]

-- behind a `/` the same characters stand
slash_same : (stop : Bool) (d c : ℕ) (xs ys zs : List ℕ) → halts stop c xs ≡ true → (c == slash && begins d (xs ++ zs)) ≡ (c == slash && begins d (xs ++ ys))
slash_same stop d c [] ys zs h =
    let parts = and_parts stop (not (c == slash)) h in
    elim (cases_Bool (c == slash)) [ inl is ↦ let nost = rw is at parts.1 in absurd cc | inr other ↦ rw other refl ]
slash_same stop d c (x ∷ xs) ys zs h = refl

-- a line comment, which a line feed ends
line_stays : (header stop : Bool) (c : ℕ) (xs ys zs : List ℕ) → (c == slash && begins slash (xs ++ ys)) ≡ true
    → keeps_line header c xs ys ≡ true → prefix_len is_on_line (xs ++ zs) ≡ prefix_len is_on_line (xs ++ ys)
line_stays header stop c xs ys zs line keeps =
    let feed : has_line_feed xs ≡ true = or_left (has_line_feed xs) ((c == slash && begins star (xs ++ ys)) || (not header && asks_nothing c xs (front_of header c (xs ++ ys)).0)) (rw line at keeps) in
    on_line_alone xs zs feed ∙ sym (on_line_alone xs ys feed)
  where
    or_left : (b r : Bool) → (b || (not true && r)) ≡ true → b ≡ true
    or_left true r h = refl
    or_left false r h = absurd cc

-- a comment that is closed
block_stays : (stop : Bool) (c : ℕ) (xs ys zs : List ℕ) → halts stop c xs ≡ true → (c == slash && begins star (xs ++ ys)) ≡ true
    → is_some (comment_end (drop 1 (xs ++ ys))) ≡ true → nat_le (piece_length 0 (comment_or_open (comment_end (drop 1 (xs ++ ys))))) (length xs + 1) ≡ true
    → comment_or_open (comment_end (drop 1 (xs ++ zs))) ≡ comment_or_open (comment_end (drop 1 (xs ++ ys)))
block_stays stop c [] ys zs h block shut within =
    let parts = and_parts (c == slash) (begins star ys) block in
    let no_slash = and_parts stop (not (c == slash)) h in
    let nost = rw parts.0 at no_slash.1 in
    absurd cc
block_stays stop c (x ∷ xs) ys zs h block shut within =
    elim (option-cases (comment_end (xs ++ ys))) [
      | inl open_still ↦ let nost = rw open_still at shut in absurd cc
      | inr closed ↦
          let few : nat_le (closed.0 + 2) (length (x ∷ xs) + 1) ≡ true = rw closed.1 at within in
          let order = leb-true (closed.0 + 2) (length (x ∷ xs) + 1) few in
          rw (comment_end-local xs ys zs closed.0 closed.1 (omega arith), closed.1) refl
    ]

-- ---- tokens

quote-digit : (c : ℕ) → is_quote c ≡ true → is_digit c ≡ false
quote-digit c h = grind (arith, nat_tests)

quote-point : (c : ℕ) → is_quote c ≡ true → (c == 46) ≡ false
quote-point c h = grind (arith, nat_tests)

l-nondigit : (c : ℕ) → (c == capital_l) ≡ true → is_nondigit c ≡ true
l-nondigit c h = grind (arith, nat_tests)

pub plain-quote : (c : ℕ) (cs : List ℕ) → is_quote c ≡ true → plain_front c cs ≡ unwrap_or {T = Kind × ℕ} (quoted_front c cs) (Other, 0)
unfolding plain_front
plain-quote c cs h = rw (quote-nondigit c h, quote-digit c h, quote-point c h, h) refl

pub plain-wide : (c q : ℕ) (ds : List ℕ) → (c == capital_l && is_quote q) ≡ true
    → plain_front c (q ∷ ds) ≡ unwrap_or {T = Kind × ℕ} (option_map (λ n. (quoted_kind q, n + 1)) (quoted q ds)) (Ident, prefix_len is_word (q ∷ ds))
unfolding plain_front
plain-wide c q ds wide =
    let parts = and_parts (c == capital_l) (is_quote q) wide in
    rw (l-nondigit c parts.0, wide) refl

-- quotes close within a token that asks for nothing behind it
quotes_within : (c : ℕ) (xs ys zs : List ℕ) → (plain_front c (xs ++ ys)).1 ≤ length xs → asks_nothing c xs (plain_front c (xs ++ ys)).0 ≡ true → Quotes c xs ys zs
quotes_within c xs ys zs within asks = record {
  own = λ quote. quoted_stays c xs ys zs
      (λ j is. let here : plain_front c (xs ++ ys) ≡ (quoted_kind c, j) = plain-quote c (xs ++ ys) quote ∙ rw is refl in
      let long : j ≡ (plain_front c (xs ++ ys)).1 = ap (λ (f : Kind × ℕ). f.1) (sym here) in omega arith)
      (λ none. let here : plain_front c (xs ++ ys) ≡ (Other, 0) = plain-quote c (xs ++ ys) quote ∙ rw none refl in
      let nost : asks_nothing c xs Other ≡ true = ap (λ (f : Kind × ℕ). asks_nothing c xs f.0) (sym here) ∙ asks in absurd cc);
  wide = λ q ds is wide.
      let text : xs ++ ys ≡ q ∷ (ds ++ ys) = ap (λ (l : List ℕ). l ++ ys) is in
      let long : length xs ≡ suc (length ds) = ap length is in
      let front : plain_front c (xs ++ ys) ≡ unwrap_or {T = Kind × ℕ} (option_map (λ n. (quoted_kind q, n + 1)) (quoted q (ds ++ ys))) (Ident, prefix_len is_word (q ∷ (ds ++ ys))) =
      ap (plain_front c) text ∙ plain-wide c q (ds ++ ys) wide in
      quoted_stays q ds ys zs
      (λ j closed. let here : plain_front c (xs ++ ys) ≡ (quoted_kind q, j + 1) = front ∙ rw closed refl in
      let size : j + 1 ≡ (plain_front c (xs ++ ys)).1 = ap (λ (f : Kind × ℕ). f.1) (sym here) in omega arith)
      (λ none. let here : plain_front c (xs ++ ys) ≡ (Ident, prefix_len is_word (q ∷ (ds ++ ys))) = front ∙ rw none refl in
      let nost : asks_nothing c xs Ident ≡ true = ap (λ (f : Kind × ℕ). asks_nothing c xs f.0) (sym here) ∙ asks in
      let no2 : not (c == capital_l && is_quote q) ≡ true = ap (λ (l : List ℕ). not (c == capital_l && begins_quote l)) (sym is) ∙ nost in
      let no3 : not true ≡ true = ap not (sym wide) ∙ no2 in absurd cc);
}

front_stays : (header : Bool) (c : ℕ) (xs ys zs : List ℕ) → ends xs ys ≡ true → ends xs zs ≡ true → (front_of header c (xs ++ ys)).1 ≤ length xs
    → (has_line_feed xs || (not header && asks_nothing c xs (front_of header c (xs ++ ys)).0)) ≡ true → front_of header c (xs ++ zs) ≡ front_of header c (xs ++ ys)
unfolding front_of
front_stays true c xs ys zs h k within told =
    elim (or_cases (has_line_feed xs) false told) [ inl line ↦ front_line true c xs ys zs h k line | inr nost ↦ absurd cc ]
front_stays false c xs ys zs h k within told =
    elim (or_cases (has_line_feed xs) (asks_nothing c xs (plain_front c (xs ++ ys)).0) told) [
      | inl line ↦ front_line false c xs ys zs h k line
      | inr asks ↦ plain_same c xs ys zs h k (quotes_within c xs ys zs within asks)
    ]

token_stays : (header : Bool) (c : ℕ) (xs ys zs : List ℕ) → ends xs ys ≡ true → ends xs zs ≡ true
    → nat_le (piece_length 0 (token_piece header (c ∷ (xs ++ ys)))) (length xs + 1) ≡ true
    → (has_line_feed xs || (not header && asks_nothing c xs (front_of header c (xs ++ ys)).0)) ≡ true
    → token_piece header (c ∷ (xs ++ zs)) ≡ token_piece header (c ∷ (xs ++ ys))
token_stays header c xs ys zs h k within told =
    let small : nat_le (suc (front_of header c (xs ++ ys)).1) (length xs + 1) ≡ true = rw (token_piece-is header c (xs ++ ys)) at within in
    let order = leb-true (suc (front_of header c (xs ++ ys)).1) (length xs + 1) small in
    token_same header c (xs ++ zs) (xs ++ ys) (front_stays header c xs ys zs h k (omega arith) told)

-- ---- the law of one piece

other_stays : (stop header : Bool) (c : ℕ) (xs ys zs : List ℕ) → halts stop c xs ≡ true → ends xs ys ≡ true → ends xs zs ≡ true
    → is_closed c (xs ++ ys) ≡ true → lies_within header c xs ys ≡ true → keeps_line header c xs ys ≡ true
    → piece_of header c (xs ++ zs) ≡ piece_of header c (xs ++ ys)
unfolding piece_of
other_stays stop header c xs ys zs h e e2 shut within keeps =
    let slashes = slash_same stop slash c xs ys zs h in
    let stars = slash_same stop star c xs ys zs h in
    elim (cases_Bool (c == line_feed)) [
      | inl ends_here ↦ rw ends_here refl
      | inr on ↦ elim (cases_Bool (is_white c)) [
        | inl white ↦ rw (on, white) refl
        | inr dark ↦ elim (cases_Bool (c == slash && begins slash (xs ++ ys))) [
          | inl line ↦
              let same = line_stays header stop c xs ys zs line keeps in
              rw (on, dark, slashes, line, same) refl
          | inr no_line ↦ elim (cases_Bool (c == slash && begins star (xs ++ ys))) [
            | inl block ↦ rw (on, dark, slashes, no_line, stars, block)
                (block_stays stop c xs ys zs h block (rw block at shut) (rw (on, dark, no_line, block) at within))
            | inr no_block ↦ rw (on, dark, slashes, no_line, stars, no_block)
                (token_stays header c xs ys zs e e2 (rw (on, dark, no_line, no_block) at within) (rw (no_line, no_block) at keeps))
          ]
        ]
      ]
    ]

pub piece_stays : (stop header : Bool) (c : ℕ) (xs ys zs : List ℕ) → is_settled stop header c xs ys ≡ true
    → (stop ≡ true → begins_stop ys ≡ true) → (stop ≡ true → begins_stop zs ≡ true) → piece_of header c (xs ++ zs) ≡ piece_of header c (xs ++ ys)
piece_stays stop header c xs ys zs settled old new =
    let parts = and_parts (is_closed c (xs ++ ys)) (lies_within header c xs ys && (is_lone c || (halts stop c xs && keeps_line header c xs ys))) settled in
    let more = and_parts (lies_within header c xs ys) (is_lone c || (halts stop c xs && keeps_line header c xs ys)) parts.1 in
    elim (or_cases (is_lone c) (halts stop c xs && keeps_line header c xs ys) more.1) [
      | inl lone ↦ lone_piece header c (xs ++ zs) (xs ++ ys) lone
      | inr both ↦
          let two = and_parts (halts stop c xs) (keeps_line header c xs ys) both in
          other_stays stop header c xs ys zs two.0 (halts-ends stop c xs ys two.0 old) (halts-ends stop c xs zs two.0 new) parts.0 more.0 two.1
    ]

-- ---- what a piece gives, whatever text it is taken from

-- its length is that of a piece that ends
pub size_same : (header : Bool) (c : ℕ) (cs : List ℕ) (left : ℕ) → is_closed c cs ≡ true → piece_length left (piece_of header c cs) ≡ piece_length 0 (piece_of header c cs)
unfolding piece_of
size_same header c cs left shut =
    elim (cases_Bool (c == line_feed)) [
      | inl ends_here ↦ rw ends_here refl
      | inr on ↦ elim (cases_Bool (is_white c)) [
        | inl white ↦ rw (on, white) refl
        | inr dark ↦ elim (cases_Bool (c == slash && begins slash cs)) [
          | inl line ↦ rw (on, dark, line) refl
          | inr no_line ↦ elim (cases_Bool (c == slash && begins star cs)) [
            | inl block ↦ elim (option-cases (comment_end (drop 1 cs))) [
              | inl open_still ↦ let nost = rw (block, open_still) at shut in absurd cc
              | inr closed ↦ rw (on, dark, no_line, block, closed.1) refl
            ]
            | inr no_block ↦ rw (on, dark, no_line, no_block, token_piece-is header c cs) refl
          ]
        ]
      ]
    ]

-- what is found is the same in texts that begin alike
pub found_same : (file line : ℕ) (gap : Bool) (front : Front) (at : ℕ) (header : Bool) (c : ℕ) (cs ts us : List ℕ) (m : ℕ) → is_closed c cs ≡ true
    → nat_le (piece_length 0 (piece_of header c cs)) m ≡ true → ((n : ℕ) → n ≤ m → take n ts ≡ take n us)
    → found_in file line gap front at ts (piece_of header c cs) ≡ found_in file line gap front at us (piece_of header c cs)
unfolding piece_of
found_same file line gap front at header c cs ts us m shut within same =
    elim (cases_Bool (c == line_feed)) [
      | inl ends_here ↦ rw ends_here refl
      | inr on ↦ elim (cases_Bool (is_white c)) [
        | inl white ↦ rw (on, white) refl
        | inr dark ↦ elim (cases_Bool (c == slash && begins slash cs)) [
          | inl comment ↦ rw (on, dark, comment) refl
          | inr no_line ↦ elim (cases_Bool (c == slash && begins star cs)) [
            | inl block ↦ elim (option-cases (comment_end (drop 1 cs))) [
              | inl open_still ↦ let nost = rw (block, open_still) at shut in absurd cc
              | inr closed ↦ rw (on, dark, no_line, block, closed.1) refl
            ]
            | inr no_block ↦
                let small : nat_le (suc (front_of header c cs).1) m ≡ true = rw (on, dark, no_line, no_block, token_piece-is header c cs) at within in
                rw (on, dark, no_line, no_block, token_piece-is header c cs, same (suc (front_of header c cs).1) (leb-true (suc (front_of header c cs).1) m small)) refl
          ]
        ]
      ]
    ]

-- and so is what stands on the line behind it
pub front_same : (front : Front) (header : Bool) (c : ℕ) (cs ts us : List ℕ) (m : ℕ) → is_closed c cs ≡ true
    → nat_le (piece_length 0 (piece_of header c cs)) m ≡ true → ((n : ℕ) → n ≤ m → take n ts ≡ take n us)
    → line_front_after ts front (piece_of header c cs) ≡ line_front_after us front (piece_of header c cs)
unfolding piece_of
front_same front header c cs ts us m shut within same =
    elim (cases_Bool (c == line_feed)) [
      | inl ends_here ↦ rw ends_here refl
      | inr on ↦ elim (cases_Bool (is_white c)) [
        | inl white ↦ rw (on, white) refl
        | inr dark ↦ elim (cases_Bool (c == slash && begins slash cs)) [
          | inl comment ↦ rw (on, dark, comment) refl
          | inr no_line ↦ elim (cases_Bool (c == slash && begins star cs)) [
            | inl block ↦ elim (option-cases (comment_end (drop 1 cs))) [
              | inl open_still ↦ let nost = rw (block, open_still) at shut in absurd cc
              | inr closed ↦ rw (on, dark, no_line, block, closed.1) refl
            ]
            | inr no_block ↦
                let small : nat_le (suc (front_of header c cs).1) m ≡ true = rw (on, dark, no_line, no_block, token_piece-is header c cs) at within in
                rw (on, dark, no_line, no_block, token_piece-is header c cs, same (suc (front_of header c cs).1) (leb-true (suc (front_of header c cs).1) m small)) refl
          ]
        ]
      ]
    ]
