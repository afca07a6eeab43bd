-- A text that ends in a parenthesis or a comma settles before whatever stands behind it.
use Rattle.std.proofs.Common.{◌≡◌, ℕ, zero, suc, ◌+◌, ◌-◌, ◌≤◌, Bool, true, false, not, ◌&&◌, ◌||◌, ◌==◌, cond, List, [], ◌∷◌, ◌++◌, length, take, drop, Some, codes, inl, inr, refl, sym, ap, subst, ◌∙◌, arith}
use Rattle.std.specs.Prelude.{◌⊎◌}
use Rattle.std.specs.List.{list_all, list_any, prefix_len}
use Rattle.std.specs.Str.{bytes_eq}
use Rattle.std.proofs.lemmas.Bool.{cases_Bool, and_parts, and_from, eqb-true}
use Rattle.cs_base.specs.declared.tokens.Kind.{Kind}
use Rattle.cs_base.specs.declared.tokens.Kind.TheVariants.{Ident}
use Rattle.cs_base.proofs.BoolLemmas.{and_false as and_none, or_right}
use Rattle.lexer.specs.Characters.{line_feed, slash, star, capital_l, is_quote, is_on_line, begins}
use Rattle.lexer.specs.Front.{plain_front, front_of}
use Rattle.lexer.specs.Tokens.{Found, FoundToken, FoundOpen, file_token, is_hash_text, with_token, is_line_start, expects_header, comment_end, piece_of, piece_length, leaves_gap, line_front_after, found_in}
use Rattle.lexer.proofs.LocalLemmas.{comment_end-some as end_two}
use Rattle.arranged_text_laws.specs.Settling.{Front, is_lone, is_stop, begins_quote, has_line_feed, asks_nothing, keeps_line, halts, is_settled, settles}
use Rattle.arranged_text_laws.specs.Places.{found_plain}
use Rattle.arranged_text_laws.specs.Marks.{file_front, line_start, some_tokens, Before, front_at}
use Rattle.arranged_text_laws.specs.Calm.{is_odd, is_even, is_quiet, is_shut, is_plain_at_end, is_sign, ends_in_sign, begins_on_line, skip_behind, LeadsSettle}
use Rattle.arranged_text_laws.proofs.StopLemmas.{one_more-some}
use Rattle.arranged_text_laws.proofs.ViewLemmas.{Spells, feeds, whites, lines, blocks, opens, spells, view, feed_lone, feeds_closed, whites_closed, lines_closed, blocks_closed, spells_closed}
use Rattle.arranged_text_laws.proofs.CalmLemmas.{IsPlain, plain_at, no_header, token_plain, all_append, skip_within, asks_of, lone_quote, plain_is, even_quote, settled_from, line_keeps, block_keeps, token_keeps}

-- ---- what stands on the line: one of four

abbrev pub hash_front : Front
hash_front = with_token (codes "#") line_start

abbrev pub include_front : Front
include_front = with_token (codes "include") hash_front

abbrev pub IsKnown : Front → Type 0
IsKnown front = (front ≡ line_start) ⊎ ((front ≡ some_tokens) ⊎ ((front ≡ hash_front) ⊎ (front ≡ include_front)))

known_at : (st : Before) → IsKnown (front_at st)
known_at st = elim (cases_Bool st.first) [ inl first ↦ inl (rw first refl) | inr later ↦ inr (inl (rw later refl)) ]

pub start_known : IsKnown line_start
start_known = inl refl

at_start : (chars : List ℕ) → IsKnown (with_token chars line_start) × (is_line_start (with_token chars line_start) ≡ false)
unfolding file_front
at_start chars = elim (cases_Bool (is_hash_text chars)) [
  | inl hash ↦ (inr (inr (inl (rw hash refl))), rw hash refl)
  | inr other ↦ (inr (inl (rw other refl)), rw other refl)
]

at_hash : (chars : List ℕ) → IsKnown (with_token chars hash_front) × (is_line_start (with_token chars hash_front) ≡ false)
unfolding file_front
at_hash chars = elim (cases_Bool (bytes_eq chars (codes "include"))) [
  | inl word ↦ (inr (inr (inr (rw word refl))), rw word refl)
  | inr other ↦ (inr (inl (rw other refl)), rw other refl)
]

pub word_known : (front : Front) (chars : List ℕ) → IsKnown front → IsKnown (with_token chars front) × (is_line_start (with_token chars front) ≡ false)
unfolding file_front
word_known front chars k =
    elim k [
      | inl is ↦ subst (λ (f : Front). IsKnown (with_token chars f) × (is_line_start (with_token chars f) ≡ false)) (sym is) (at_start chars)
      | inr more ↦ elim more [
        | inl is ↦ subst (λ (f : Front). IsKnown (with_token chars f) × (is_line_start (with_token chars f) ≡ false)) (sym is) (inr (inl refl), refl)
        | inr rest ↦ elim rest [
          | inl is ↦ subst (λ (f : Front). IsKnown (with_token chars f) × (is_line_start (with_token chars f) ≡ false)) (sym is) (at_hash chars)
          | inr is ↦ subst (λ (f : Front). IsKnown (with_token chars f) × (is_line_start (with_token chars f) ≡ false)) (sym is) (inr (inl refl), refl)
        ]
      ]
    ]

-- the line is plain, where that is told
abbrev PlainIf : Bool → Front → Type 0
PlainIf plain front = plain ≡ true → IsPlain front

pub start_is : (front : Front) → IsKnown front → is_line_start front ≡ true → front ≡ line_start
unfolding file_front
start_is front k h =
    elim k [
      | inl is ↦ is
      | inr more ↦ elim more [
        | inl is ↦ let nost : false ≡ true = ap is_line_start (sym is) ∙ h in absurd cc
        | inr rest ↦ elim rest [
          | inl is ↦ let nost : false ≡ true = ap is_line_start (sym is) ∙ h in absurd cc
          | inr is ↦ let nost : false ≡ true = ap is_line_start (sym is) ∙ h in absurd cc
        ]
      ]
    ]

plain_header_of : (front : Front) → IsKnown front → is_line_start front ≡ true → expects_header front ≡ false
unfolding file_front
plain_header_of front k h = ap expects_header (start_is front k h)

-- an `L` is no word of a directive
l_header : (front : Front) (c : ℕ) → IsKnown front → (c == capital_l) ≡ true → expects_header (with_token (c ∷ []) front) ≡ false
unfolding file_front
l_header front c k is_l =
    subst (λ (d : ℕ). expects_header (with_token (d ∷ []) front) ≡ false) (sym (eqb-true c capital_l is_l))
    (elim k [
      | inl is ↦ ap (λ (f : Front). expects_header (with_token (76 ∷ []) f)) is
      | inr more ↦ elim more [
        | inl is ↦ ap (λ (f : Front). expects_header (with_token (76 ∷ []) f)) is
        | inr rest ↦ elim rest [
          | inl is ↦ ap (λ (f : Front). expects_header (with_token (76 ∷ []) f)) is
          | inr is ↦ ap (λ (f : Front). expects_header (with_token (76 ∷ []) f)) is
        ]
      ]
    ])

-- what stands on the line behind a piece is known
pub known_after : (header : Bool) (c : ℕ) (R chars : List ℕ) (front : Front) → IsKnown front → IsKnown (line_front_after chars front (piece_of header c R))
known_after header c R chars front k =
    elim (view header c R) [
      | feeds f ↦ inl (f.front chars front)
      | whites w ↦ subst IsKnown (sym (w.front chars front)) k
      | lines l ↦ subst IsKnown (sym (l.front chars front)) k
      | blocks b ↦ subst IsKnown (sym (b.front chars front)) k
      | opens o ↦ subst IsKnown (sym (o.front chars front)) k
      | spells s ↦ subst IsKnown (sym (s.front chars front)) (word_known front (take (suc (front_of header c R).1) chars) k).0
    ]

-- ---- what stands behind a piece

-- a line begins in these characters, where the last line on which a token is the first begins in them
line_inside : (skip : ℕ) (gap : Bool) (front : Front) (at : ℕ) (xs ys : List ℕ) → IsKnown front → is_line_start front ≡ false
    → is_plain_at_end false (found_plain skip gap front at xs ys) ≡ true → has_line_feed xs ≡ true
unfolding found_plain
line_inside zero gap front at [] ys k no_start h = absurd cc
line_inside (suc skip) gap front at [] ys k no_start h = absurd cc
line_inside (suc skip) gap front at (c ∷ xs) ys k no_start h =
    or_right (c == line_feed) (has_line_feed xs) (line_inside skip gap front (at + 1) xs ys k no_start h)
line_inside zero gap front at (c ∷ xs) ys k no_start h =
    let header = expects_header front in
    let R = xs ++ ys in
    let chars = c ∷ R in
    let P = piece_of header c R in
    let later = line_front_after chars front P in
    let size = piece_length 0 P - 1 in
    let rest = found_plain size (leaves_gap P) later (at + 1) xs ys in
    let known = known_after header c R chars front k in
    elim (view header c R) [
      | feeds f ↦ rw f.is refl
      | whites w ↦
          let told = subst (λ (fs : List Found). is_plain_at_end false (fs ++ rest) ≡ true) (w.found 0 0 gap front at chars) h in
          or_right (c == line_feed) (has_line_feed xs) (line_inside size (leaves_gap P) later (at + 1) xs ys known (ap is_line_start (w.front chars front) ∙ no_start) told)
      | lines l ↦
          let told = subst (λ (fs : List Found). is_plain_at_end false (fs ++ rest) ≡ true) (l.found 0 0 gap front at chars) h in
          or_right (c == line_feed) (has_line_feed xs) (line_inside size (leaves_gap P) later (at + 1) xs ys known (ap is_line_start (l.front chars front) ∙ no_start) told)
      | blocks b ↦
          let told = subst (λ (fs : List Found). is_plain_at_end false (fs ++ rest) ≡ true) (b.found 0 0 gap front at chars) h in
          or_right (c == line_feed) (has_line_feed xs) (line_inside size (leaves_gap P) later (at + 1) xs ys known (ap is_line_start (b.front chars front) ∙ no_start) told)
      | opens o ↦
          let told = subst (λ (fs : List Found). is_plain_at_end false (fs ++ rest) ≡ true) (o.found 0 0 gap front at chars) h in
          or_right (c == line_feed) (has_line_feed xs) (line_inside size (leaves_gap P) later (at + 1) xs ys known (ap is_line_start (o.front chars front) ∙ no_start) told)
      | spells s ↦
          let word = take (suc (front_of header c R).1) chars in
          let told = subst (λ (fs : List Found). is_plain_at_end false (fs ++ rest) ≡ true) (s.found 0 0 gap front at chars) h in
          let told2 = subst (λ (b : Bool). is_plain_at_end (cond b (not (is_hash_text word)) false) rest ≡ true) no_start told in
          or_right (c == line_feed) (has_line_feed xs)
          (line_inside size (leaves_gap P) later (at + 1) xs ys known (ap is_line_start (s.front chars front) ∙ (word_known front word k).1) told2)
    ]

abbrev is_some_found : List Found → Bool
is_some_found [] = false
is_some_found (f ∷ fs) = true

sign_step : (f : Found) (fs : List Found) → ends_in_sign (f ∷ fs) ≡ true → (ends_in_sign fs ≡ true) × ((is_sign f ≡ true) ⊎ (is_some_found fs ≡ true))
sign_step f [] h = (refl, inl h)
sign_step f (g ∷ fs) h = (h, inr refl)

signs_behind : (fs gs : List Found) → ends_in_sign (fs ++ gs) ≡ true → ends_in_sign gs ≡ true
signs_behind [] gs h = h
signs_behind (f ∷ fs) gs h = signs_behind fs gs (sign_step f (fs ++ gs) h).0

-- a parenthesis or a comma is a stop
sign_inside : (skip : ℕ) (gap : Bool) (front : Front) (at : ℕ) (xs ys : List ℕ) → ends_in_sign (found_plain skip gap front at xs ys) ≡ true
    → is_some_found (found_plain skip gap front at xs ys) ≡ true → list_any is_stop xs ≡ true
unfolding found_plain
sign_inside zero gap front at [] ys h some = absurd cc
sign_inside (suc skip) gap front at [] ys h some = absurd cc
sign_inside (suc skip) gap front at (c ∷ xs) ys h some = or_right (is_stop c) (list_any is_stop xs) (sign_inside skip gap front (at + 1) xs ys h some)
sign_inside zero gap front at (c ∷ xs) ys h some =
    let header = expects_header front in
    let R = xs ++ ys in
    let chars = c ∷ R in
    let P = piece_of header c R in
    let later = line_front_after chars front P in
    let size = piece_length 0 P - 1 in
    let rest = found_plain size (leaves_gap P) later (at + 1) xs ys in
    elim (view header c R) [
      | feeds f ↦ or_right (is_stop c) (list_any is_stop xs) (sign_inside size (leaves_gap P) later (at + 1) xs ys
          (subst (λ (fs : List Found). ends_in_sign (fs ++ rest) ≡ true) (f.found 0 0 gap front at chars) h)
          (subst (λ (fs : List Found). is_some_found (fs ++ rest) ≡ true) (f.found 0 0 gap front at chars) some))
      | whites w ↦ or_right (is_stop c) (list_any is_stop xs) (sign_inside size (leaves_gap P) later (at + 1) xs ys
          (subst (λ (fs : List Found). ends_in_sign (fs ++ rest) ≡ true) (w.found 0 0 gap front at chars) h)
          (subst (λ (fs : List Found). is_some_found (fs ++ rest) ≡ true) (w.found 0 0 gap front at chars) some))
      | lines l ↦ or_right (is_stop c) (list_any is_stop xs) (sign_inside size (leaves_gap P) later (at + 1) xs ys
          (subst (λ (fs : List Found). ends_in_sign (fs ++ rest) ≡ true) (l.found 0 0 gap front at chars) h)
          (subst (λ (fs : List Found). is_some_found (fs ++ rest) ≡ true) (l.found 0 0 gap front at chars) some))
      | blocks b ↦ or_right (is_stop c) (list_any is_stop xs) (sign_inside size (leaves_gap P) later (at + 1) xs ys
          (subst (λ (fs : List Found). ends_in_sign (fs ++ rest) ≡ true) (b.found 0 0 gap front at chars) h)
          (subst (λ (fs : List Found). is_some_found (fs ++ rest) ≡ true) (b.found 0 0 gap front at chars) some))
      | opens o ↦
          let step = sign_step (FoundOpen at) rest (subst (λ (fs : List Found). ends_in_sign (fs ++ rest) ≡ true) (o.found 0 0 gap front at chars) h) in
          elim step.1 [
            | inl sign ↦ absurd cc
            | inr more ↦ or_right (is_stop c) (list_any is_stop xs) (sign_inside size (leaves_gap P) later (at + 1) xs ys step.0 more)
          ]
      | spells s ↦
          let t = FoundToken (file_token 0 0 gap at (front_of header c R).0 (take (suc (front_of header c R).1) chars)) (is_line_start front) in
          let step = sign_step t rest (subst (λ (fs : List Found). ends_in_sign (fs ++ rest) ≡ true) (s.found 0 0 gap front at chars) h) in
          elim step.1 [
            | inl sign ↦ let lone : is_lone c ≡ true = sign in rw lone refl
            | inr more ↦ or_right (is_stop c) (list_any is_stop xs) (sign_inside size (leaves_gap P) later (at + 1) xs ys step.0 more)
          ]
    ]

feed_stop : (xs : List ℕ) → has_line_feed xs ≡ true → list_any is_stop xs ≡ true
feed_stop [] h = absurd cc
feed_stop (x ∷ xs) h =
    elim (cases_Bool (x == line_feed)) [
      | inl ends ↦ let lone = feed_lone x ends in rw lone refl
      | inr on ↦ or_right (is_stop x) (list_any is_stop xs) (feed_stop xs (rw on at h))
    ]

end_inside : (zs ys : List ℕ) (k : ℕ) → comment_end (zs ++ ys) ≡ Some k → k ≤ length zs → list_any is_stop zs ≡ true
end_inside [] ys k is within = let two = end_two ys k is in absurd (omega (arith, two, within))
end_inside (z ∷ zs) ys k is within =
    elim (cases_Bool (z == star && begins slash (zs ++ ys))) [
      | inl here ↦
          let two : Some 2 ≡ Some k = rw here at is in
          let same : 2 ≡ k = cc in
          let parts = and_parts (z == star) (begins slash (zs ++ ys)) here in
          or_right (is_stop z) (list_any is_stop zs) (slash_first zs ys parts.1 (omega (arith, same, within)))
      | inr more ↦
          let i = one_more-some (comment_end (zs ++ ys)) k (rw more at is) in
          or_right (is_stop z) (list_any is_stop zs) (end_inside zs ys i.0 i.1 (omega (arith, i.2, within)))
    ]
  where
    slash_first : (zs ys : List ℕ) → begins slash (zs ++ ys) ≡ true → 1 ≤ length zs → list_any is_stop zs ≡ true
    slash_first [] ys h some = absurd (omega (arith, some))
    slash_first (w ∷ zs) ys h some =
        let stop : is_stop w ≡ true = or_right (is_lone w) (w == slash) h in
        rw stop refl

block_inside : (xs ys : List ℕ) (k : ℕ) → comment_end (drop 1 (xs ++ ys)) ≡ Some k → k + 1 ≤ length xs → list_any is_stop xs ≡ true
block_inside [] ys k is within = absurd (omega (arith, within))
block_inside (x ∷ zs) ys k is within = or_right (is_stop x) (list_any is_stop zs) (end_inside zs ys k is (omega (arith, within)))

halts_of : (c : ℕ) (xs : List ℕ) → list_any is_stop xs ≡ true → halts false c xs ≡ true
halts_of c [] h = absurd cc
halts_of c (x ∷ xs) h = h

on_all : (xs ys : List ℕ) → has_line_feed xs ≡ false → begins_on_line ys ≡ true → length xs + 1 ≤ prefix_len is_on_line (xs ++ ys)
on_all [] [] h dark = absurd cc
on_all [] (y ∷ ys) h dark = rw dark (omega arith)
on_all (x ∷ xs) ys h dark =
    elim (cases_Bool (x == line_feed)) [
      | inl ends ↦ let nost : true ≡ false = rw ends at h in absurd cc
      | inr on ↦ let rest = on_all xs ys (rw on at h) dark in rw on (omega (arith, rest))
    ]

-- ---- the law of one piece

token_keeps_at : (header : Bool) (c : ℕ) (xs ys : List ℕ) → header ≡ false → (c == slash && begins slash (xs ++ ys)) ≡ false
    → asks_nothing c xs (front_of header c (xs ++ ys)).0 ≡ true → keeps_line header c xs ys ≡ true
token_keeps_at true c xs ys none no_line asks = absurd cc
token_keeps_at false c xs ys none no_line asks = token_keeps c xs ys no_line asks

narrow_lead : (header : Bool) (front : Front) (gap : Bool) (c : ℕ) (xs ys : List ℕ) → header ≡ false → IsKnown front → Spells header c (xs ++ ys)
    → has_line_feed xs ≡ false
    → is_quiet (piece_length 0 (piece_of header c (xs ++ ys)) - 1) gap (line_front_after (c ∷ (xs ++ ys)) front (piece_of header c (xs ++ ys))) xs ys ≡ true
    → (front_of header c (xs ++ ys)).0 ≡ Ident → (c == capital_l && begins_quote xs) ≡ false
unfolding is_quiet
narrow_lead true front gap c xs ys none k s no_feed quiet named = absurd cc
narrow_lead false front gap c [] ys none k s no_feed quiet named = and_none (c == capital_l)
narrow_lead false front gap c (q ∷ ds) ys none k s no_feed quiet named =
    let R = q ∷ (ds ++ ys) in
    let chars = c ∷ R in
    let P = piece_of false c R in
    let later = line_front_after chars front P in
    elim (cases_Bool (c == capital_l && is_quote q)) [
      | inl wide ↦
          let parts = and_parts (c == capital_l) (is_quote q) wide in
          let named2 : (plain_front c R).0 ≡ Ident = ap (λ (f : Kind × ℕ). f.0) (sym (plain_is c R)) ∙ named in
          let lone = lone_quote c q (ds ++ ys) wide named2 in
          let short : (front_of false c R).1 ≡ 0 = ap (λ (f : Kind × ℕ). f.1) (plain_is c R) ∙ lone.0 in
          let size = s.size in
          let one : piece_length 0 P - 1 ≡ 0 = omega (arith, size, short) in
          let here = subst (λ (n : ℕ). is_quiet n gap later (q ∷ ds) ys ≡ true) one quiet in
          let first = and_parts (has_line_feed ds || list_all is_even (found_in 0 0 gap later 0 R (piece_of (expects_header later) q (ds ++ ys)))) _ here in
          let no_feed2 : has_line_feed ds ≡ false = or_false (q == line_feed) (has_line_feed ds) no_feed in
          let even : list_all is_even (found_in 0 0 gap later 0 R (piece_of (expects_header later) q (ds ++ ys))) ≡ true = rw no_feed2 at first.0 in
          let word : later ≡ with_token (c ∷ []) front = s.front chars front ∙ ap (λ (n : ℕ). with_token (take (suc n) chars) front) short in
          let header : expects_header later ≡ false = ap expects_header word ∙ l_header front c k parts.0 in
          absurd (even_quote later gap 0 q (ds ++ ys) R header parts.1 lone.1 even)
      | inr narrow ↦ narrow
    ]
  where
    or_false : (b c : Bool) → (b || c) ≡ false → c ≡ false
    or_false true c h = absurd cc
    or_false false c h = h

lead_piece : (header : Bool) (front : Front) (gap : Bool) (at c : ℕ) (xs ys : List ℕ) (plain : Bool) → expects_header front ≡ header → IsKnown front → PlainIf plain front
    → list_all is_shut (found_in 0 0 gap front at (c ∷ (xs ++ ys)) (piece_of header c (xs ++ ys))) ≡ true
    → (has_line_feed xs || list_all is_even (found_in 0 0 gap front 0 (c ∷ (xs ++ ys)) (piece_of header c (xs ++ ys)))) ≡ true
    → is_quiet (piece_length 0 (piece_of header c (xs ++ ys)) - 1) (leaves_gap (piece_of header c (xs ++ ys)))
    (line_front_after (c ∷ (xs ++ ys)) front (piece_of header c (xs ++ ys))) xs ys ≡ true
    → is_plain_at_end plain (found_in 0 0 gap front at (c ∷ (xs ++ ys)) (piece_of header c (xs ++ ys))
    ++ found_plain (piece_length 0 (piece_of header c (xs ++ ys)) - 1) (leaves_gap (piece_of header c (xs ++ ys)))
    (line_front_after (c ∷ (xs ++ ys)) front (piece_of header c (xs ++ ys))) (at + 1) xs ys) ≡ true
    → ends_in_sign (found_in 0 0 gap front at (c ∷ (xs ++ ys)) (piece_of header c (xs ++ ys))
    ++ found_plain (piece_length 0 (piece_of header c (xs ++ ys)) - 1) (leaves_gap (piece_of header c (xs ++ ys)))
    (line_front_after (c ∷ (xs ++ ys)) front (piece_of header c (xs ++ ys))) (at + 1) xs ys) ≡ true
    → skip_behind (piece_length 0 (piece_of header c (xs ++ ys)) - 1) (line_front_after (c ∷ (xs ++ ys)) front (piece_of header c (xs ++ ys))) xs ys ≡ 0
    → begins_on_line ys ≡ true → is_settled false header c xs ys ≡ true
lead_piece header front gap at c xs ys plain own k plain_if shut quiet next at_end signs ends dark =
    let R = xs ++ ys in
    let P = piece_of header c R in
    let chars = c ∷ R in
    let later = line_front_after chars front P in
    let size = piece_length 0 P - 1 in
    let rest = found_plain size (leaves_gap P) later (at + 1) xs ys in
    let near = skip_within size later xs ys ends in
    let few : piece_length 0 P ≤ length xs + 1 = omega (arith, near) in
    let lone_or = λ (stop : list_any is_stop xs ≡ true) (keeps : keeps_line header c xs ys ≡ true).
    or_right (is_lone c) (halts false c xs && keeps_line header c xs ys) (and_from (halts false c xs) (keeps_line header c xs ys) (halts_of c xs stop) keeps) in
    elim (view header c R) [
      | feeds f ↦ settled_from false header c xs ys (feeds_closed header c R f) few (rw (feed_lone c f.is) refl)
      | whites w ↦ settled_from false header c xs ys (whites_closed header c R w) few (rw w.is refl)
      | lines l ↦
          let feed : has_line_feed xs ≡ true = elim (cases_Bool (has_line_feed xs)) [
            | inl there ↦ there
            | inr none ↦ let all = on_all xs ys none dark in let long = l.size in absurd (omega (arith, all, long, few))
          ] in
          settled_from false header c xs ys (lines_closed header c R l) few (lone_or (feed_stop xs feed) (line_keeps header c xs ys feed))
      | blocks b ↦
          let long = b.size in
          settled_from false header c xs ys (blocks_closed header c R b) few
          (lone_or (block_inside xs ys b.count b.end (omega (arith, long, few))) (block_keeps header c xs ys b.no_line b.is))
      | opens o ↦ let nost = rw (o.found 0 0 gap front at chars) at shut in absurd cc
      | spells s ↦
          let word = take (suc (front_of header c R).1) chars in
          let t = FoundToken (file_token 0 0 gap at (front_of header c R).0 word) (is_line_start front) in
          settled_from false header c xs ys (spells_closed header c R s) few
          (elim (cases_Bool (is_lone c)) [
            | inl lone ↦ rw lone refl
            | inr more ↦
                let step = sign_step t rest (subst (λ (fs : List Found). ends_in_sign (fs ++ rest) ≡ true) (s.found 0 0 gap front at chars) signs) in
                let stop : list_any is_stop xs ≡ true = elim step.1 [
                  | inl sign ↦ let lone : is_lone c ≡ true = sign in let nost : true ≡ false = sym lone ∙ more in absurd cc
                  | inr some ↦ sign_inside size (leaves_gap P) later (at + 1) xs ys step.0 some
                ] in
                let keeps : keeps_line header c xs ys ≡ true = elim (cases_Bool (has_line_feed xs)) [
                  | inl feed ↦ line_keeps header c xs ys feed
                  | inr none ↦
                      let told = subst (λ (fs : List Found). is_plain_at_end plain (fs ++ rest) ≡ true) (s.found 0 0 gap front at chars) at_end in
                      let no_name : header ≡ false = sym own ∙ header_none front plain (later) size (leaves_gap P) (at + 1) xs ys word k plain_if none
                      (ap is_line_start (s.front chars front) ∙ (word_known front word k).1) (known_after header c R chars front k) told in
                      let even = rw (none, s.found 0 0 gap front 0 chars) at quiet in
                      let odd : is_odd (front_of header c R).0 ≡ false = not-true (is_odd (front_of header c R).0) (and_parts (not (is_odd (front_of header c R).0)) true even).0 in
                      token_keeps_at header c xs ys no_name s.no_line
                      (asks_of c xs (front_of header c R).0 odd (narrow_lead header front (leaves_gap P) c xs ys no_name k s none next))
                ] in
                lone_or stop keeps
          ])
    ]
  where
    not-true : (b : Bool) → not b ≡ true → b ≡ false
    not-true true h = absurd cc
    not-true false h = refl

    -- on the last line no header name is expected
    header_none : (front : Front) (plain : Bool) (later : Front) (size : ℕ) (gap : Bool) (at : ℕ) (xs ys word : List ℕ) → IsKnown front → PlainIf plain front
        → has_line_feed xs ≡ false → is_line_start later ≡ false → IsKnown later
        → is_plain_at_end (cond (is_line_start front) (not (is_hash_text word)) plain) (found_plain size gap later at xs ys) ≡ true → expects_header front ≡ false
    header_none front plain later size gap at xs ys word k plain_if none no_start known told =
        elim (cases_Bool (is_line_start front)) [
          | inl start ↦ plain_header_of front k start
          | inr on ↦ elim (cases_Bool plain) [
            | inl is ↦ no_header front (plain_if is)
            | inr not_plain ↦
                let here : is_plain_at_end false (found_plain size gap later at xs ys) ≡ true = rw (on, not_plain) at told in
                let feed = line_inside size gap later at xs ys known no_start here in
                let nost : true ≡ false = sym feed ∙ none in
                absurd cc
          ]
        ]

-- ---- the walk

-- what is known of the line behind a piece
record Next (plain : Bool) (later : Front) (rest : List Found) : Type 0 where
  still : Bool
  told : PlainIf still later
  at_end : is_plain_at_end still rest ≡ true

next_plain : (header : Bool) (front : Front) (gap : Bool) (at c : ℕ) (R : List ℕ) (plain : Bool) (rest : List Found) → IsKnown front → PlainIf plain front
    → is_plain_at_end plain (found_in 0 0 gap front at (c ∷ R) (piece_of header c R) ++ rest) ≡ true
    → Next plain (line_front_after (c ∷ R) front (piece_of header c R)) rest
next_plain header front gap at c R plain rest k plain_if h =
    let P = piece_of header c R in
    let chars = c ∷ R in
    elim (view header c R) [
      | feeds f ↦ record {
        still = plain;
        told = λ is. inl (f.front chars front);
        at_end = subst (λ (fs : List Found). is_plain_at_end plain (fs ++ rest) ≡ true) (f.found 0 0 gap front at chars) h;
      }
      | whites w ↦ record {
        still = plain;
        told = λ is. subst IsPlain (sym (w.front chars front)) (plain_if is);
        at_end = subst (λ (fs : List Found). is_plain_at_end plain (fs ++ rest) ≡ true) (w.found 0 0 gap front at chars) h;
      }
      | lines l ↦ record {
        still = plain;
        told = λ is. subst IsPlain (sym (l.front chars front)) (plain_if is);
        at_end = subst (λ (fs : List Found). is_plain_at_end plain (fs ++ rest) ≡ true) (l.found 0 0 gap front at chars) h;
      }
      | blocks b ↦ record {
        still = plain;
        told = λ is. subst IsPlain (sym (b.front chars front)) (plain_if is);
        at_end = subst (λ (fs : List Found). is_plain_at_end plain (fs ++ rest) ≡ true) (b.found 0 0 gap front at chars) h;
      }
      | opens o ↦ record {
        still = plain;
        told = λ is. subst IsPlain (sym (o.front chars front)) (plain_if is);
        at_end = subst (λ (fs : List Found). is_plain_at_end plain (fs ++ rest) ≡ true) (o.found 0 0 gap front at chars) h;
      }
      | spells s ↦
          let word = take (suc (front_of header c R).1) chars in
          record {
            still = cond (is_line_start front) (not (is_hash_text word)) plain;
            told = λ is. subst IsPlain (sym (s.front chars front)) (word_plain front plain word k plain_if is);
            at_end = subst (λ (fs : List Found). is_plain_at_end plain (fs ++ rest) ≡ true) (s.found 0 0 gap front at chars) h;
          }
    ]
  where
    no_hash : (b c : Bool) → not c ≡ true → (b && c) ≡ false
    no_hash true true h = absurd cc
    no_hash false true h = absurd cc
    no_hash true false h = refl
    no_hash false false h = refl

    word_plain : (front : Front) (plain : Bool) (word : List ℕ) → IsKnown front → PlainIf plain front → cond (is_line_start front) (not (is_hash_text word)) plain ≡ true
        → IsPlain (with_token word front)
    word_plain front plain word k plain_if is =
        elim (cases_Bool (is_line_start front)) [
          | inl start ↦
              let none : not (is_hash_text word) ≡ true = rw start at is in
              token_plain front word (inl (start_is front k start)) (no_hash (is_line_start front) (is_hash_text word) none)
          | inr on ↦
              let told : plain ≡ true = rw on at is in
              token_plain front word (plain_if told) (rw on refl)
        ]

lead_settles : (skip : ℕ) (gap : Bool) (front : Front) (at : ℕ) (xs ys : List ℕ) (plain : Bool) → IsKnown front → PlainIf plain front
    → list_all is_shut (found_plain skip gap front at xs ys) ≡ true → is_quiet skip gap front xs ys ≡ true
    → is_plain_at_end plain (found_plain skip gap front at xs ys) ≡ true → ends_in_sign (found_plain skip gap front at xs ys) ≡ true
    → skip_behind skip front xs ys ≡ 0 → begins_on_line ys ≡ true → settles false skip front xs ys ≡ true
unfolding found_plain is_quiet skip_behind settles
lead_settles zero gap front at [] ys plain k plain_if shut quiet at_end signs ends dark = refl
lead_settles (suc skip) gap front at [] ys plain k plain_if shut quiet at_end signs ends dark = absurd (omega (arith, ends))
lead_settles (suc skip) gap front at (c ∷ xs) ys plain k plain_if shut quiet at_end signs ends dark =
    lead_settles skip gap front (at + 1) xs ys plain k plain_if shut quiet at_end signs ends dark
lead_settles zero gap front at (c ∷ xs) ys plain k plain_if shut quiet at_end signs ends dark =
    let header = expects_header front in
    let R = xs ++ ys in
    let P = piece_of header c R in
    let chars = c ∷ R in
    let later = line_front_after chars front P in
    let size = piece_length 0 P - 1 in
    let rest = found_plain size (leaves_gap P) later (at + 1) xs ys in
    let shuts = all_append is_shut (found_in 0 0 gap front at chars P) rest shut in
    let quiets = and_parts (has_line_feed xs || list_all is_even (found_in 0 0 gap front 0 chars P)) (is_quiet size (leaves_gap P) later xs ys) quiet in
    let here = lead_piece header front gap at c xs ys plain refl k plain_if shuts.0 quiets.0 quiets.1 at_end signs ends dark in
    let next = next_plain header front gap at c R plain rest k plain_if at_end in
    let more = lead_settles size (leaves_gap P) later (at + 1) xs ys next.still (known_after header c R chars front k) next.told shuts.1 quiets.1 next.at_end
    (signs_behind (found_in 0 0 gap front at chars P) rest signs) ends dark in
    and_from (is_settled false header c xs ys) (settles false size later xs ys) here more

pub leads_settle : LeadsSettle
leads_settle = λ st xs ys shut quiet at_end signs ends dark.
    lead_settles 0 st.gap (front_at st) 0 xs ys true (known_at st) (λ is. plain_at st) shut quiet at_end signs ends dark
