-- A text in which all that is found is calm settles.
use Rattle.std.proofs.Common.{◌≡◌, ℕ, zero, suc, ◌+◌, ◌-◌, ◌<◌, ◌≤◌, Bool, true, false, not, ◌&&◌, ◌||◌, ◌==◌, nat_le, List, [], ◌∷◌, ◌++◌, length, take, inl, inr, refl, sym, ap, subst, ◌∙◌, arith}
use Rattle.std.specs.Prelude.{◌⊎◌}
use Rattle.std.specs.List.{list_all, prefix_len}
use Rattle.std.proofs.lemmas.Bool.{cases_Bool, and_parts, and_from, eqb-true, leb-true, leb-false, le-leb}
use Rattle.std.proofs.lemmas.Bool.Decides.{nat_tests}
use Rattle.cs_base.specs.declared.tokens.Kind.{Kind}
use Rattle.cs_base.specs.declared.tokens.Kind.TheVariants.{Ident, Number, Char, Str, Punct, Other, Header}
use Rattle.cs_base.proofs.BoolLemmas.{and_false as and_none, not_true as not-true, or_right}
use Rattle.lexer.specs.Characters.{line_feed, slash, star, capital_l, is_white, is_quote, is_word, is_on_line, begins}
use Rattle.lexer.specs.Front.{quoted, quoted_kind, plain_front, front_of}
use Rattle.lexer.specs.Tokens.{Found, FoundToken, FoundOpen, file_token, is_hash_text, with_token, is_line_start, expects_header, piece_of, piece_length, leaves_gap, line_front_after, found_in}
use Rattle.lexer.proofs.LocalLemmas.{option-cases}
use Rattle.lexer.proofs.KeptLemmas.{quoted_kind-other as quoted_no_name}
use Rattle.arranged_text_laws.specs.Settling.{Front, is_lone, begins_quote, has_line_feed, asks_nothing, keeps_line, is_closed, halts, lies_within, is_settled, settles, gap_behind}
use Rattle.arranged_text_laws.specs.Places.{found_plain}
use Rattle.arranged_text_laws.specs.Marks.{file_front, line_start, some_tokens, Before, front_at}
use Rattle.arranged_text_laws.specs.Calm.{is_odd, is_calm, is_even, skip_behind, ends_slash, CalmTextsSettle}
use Rattle.arranged_text_laws.proofs.PieceStays.{plain-quote, plain-wide}
use Rattle.arranged_text_laws.proofs.ViewLemmas.{Spells, feeds, whites, lines, blocks, opens, spells, view, feed_lone, feeds_closed, whites_closed, lines_closed, blocks_closed, spells_closed}

-- ---- what stands on the line

abbrev pub IsPlain : Front → Type 0
IsPlain front = (front ≡ line_start) ⊎ (front ≡ some_tokens)

pub plain_at : (st : Before) → IsPlain (front_at st)
plain_at st = elim (cases_Bool st.first) [ inl first ↦ inl (rw first refl) | inr later ↦ inr (rw later refl) ]

pub no_header : (front : Front) → IsPlain front → expects_header front ≡ false
unfolding file_front
no_header front p = elim p [ inl is ↦ rw is refl | inr is ↦ rw is refl ]

-- a token that begins no directive leaves a plain line
pub token_plain : (front : Front) (chars : List ℕ) → IsPlain front → (is_line_start front && is_hash_text chars) ≡ false → IsPlain (with_token chars front)
unfolding file_front
token_plain front chars p h =
    elim p [
      | inl is ↦
          let none : is_hash_text chars ≡ false = ap (λ (f : Front). is_line_start f && is_hash_text chars) (sym is) ∙ h in
          inr (ap (with_token chars) is ∙ rw none refl)
      | inr is ↦ inr (ap (with_token chars) is)
    ]

-- ---- lists

pub all_append : (p : Found → Bool) (xs ys : List Found) → list_all p (xs ++ ys) ≡ true → (list_all p xs ≡ true) × (list_all p ys ≡ true)
all_append p [] ys h = (refl, h)
all_append p (x ∷ xs) ys h =
    let parts = and_parts (p x) (list_all p (xs ++ ys)) h in
    let rest = all_append p xs ys parts.1 in
    (and_from (p x) (list_all p xs) parts.0 rest.0, rest.1)

pub feed_inside : (xs ys : List ℕ) → prefix_len is_on_line (xs ++ ys) < length xs → has_line_feed xs ≡ true
feed_inside [] ys h = absurd (omega (arith, h))
feed_inside (x ∷ xs) ys h =
    elim (cases_Bool (x == line_feed)) [
      | inl ends ↦ rw ends refl
      | inr on ↦
          let more : 1 + prefix_len is_on_line (xs ++ ys) < length (x ∷ xs) = rw on at h in
          rw on (feed_inside xs ys (omega (arith, more)))
    ]

slash_on : (c : ℕ) (xs : List ℕ) → ends_slash (c ∷ xs) ≡ false → ends_slash xs ≡ false
slash_on c [] h = refl
slash_on c (x ∷ xs) h = h

-- ---- how far pieces go

pub skip_within : (skip : ℕ) (front : Front) (xs ys : List ℕ) → skip_behind skip front xs ys ≡ 0 → skip ≤ length xs
unfolding skip_behind
skip_within skip front [] ys h = omega (arith, h)
skip_within zero front (c ∷ xs) ys h = omega arith
skip_within (suc skip) front (c ∷ xs) ys h = let rest = skip_within skip front xs ys h in omega (arith, rest)

gap_short : (skip : ℕ) (gap : Bool) (front : Front) (xs ys : List ℕ) → length xs ≤ skip → gap_behind skip gap front xs ys ≡ gap
unfolding gap_behind
gap_short skip gap front [] ys h = refl
gap_short zero gap front (c ∷ xs) ys h = absurd (omega (arith, h))
gap_short (suc skip) gap front (c ∷ xs) ys h = gap_short skip gap front xs ys (omega (arith, h))

-- ---- tokens

pub asks_of : (c : ℕ) (xs : List ℕ) (k : Kind) → is_odd k ≡ false → (k ≡ Ident → (c == capital_l && begins_quote xs) ≡ false) → asks_nothing c xs k ≡ true
asks_of c xs Ident odd narrow = rw (narrow refl) refl
asks_of c xs Number odd narrow = refl
asks_of c xs Char odd narrow = refl
asks_of c xs Str odd narrow = refl
asks_of c xs Punct odd narrow = refl
asks_of c xs Other odd narrow = absurd cc
asks_of c xs Header odd narrow = refl

-- an `L` before a quote that does not close is a name of one character, and the quote an odd token
pub lone_quote : (c q : ℕ) (ds : List ℕ) → (c == capital_l && is_quote q) ≡ true → (plain_front c (q ∷ ds)).0 ≡ Ident
    → ((plain_front c (q ∷ ds)).1 ≡ 0) × (is_odd (plain_front q ds).0 ≡ true)
lone_quote c q ds wide named =
    let parts = and_parts (c == capital_l) (is_quote q) wide in
    let front = plain-wide c q ds wide in
    elim (option-cases (quoted q ds)) [
      | inl none ↦
          let here : plain_front c (q ∷ ds) ≡ (Ident, prefix_len is_word (q ∷ ds)) = front ∙ rw none refl in
          let short : prefix_len is_word (q ∷ ds) ≡ 0 = quote_ends q ds parts.1 in
          let odd : plain_front q ds ≡ (Other, 0) = plain-quote q ds parts.1 ∙ rw none refl in
          (ap (λ (f : Kind × ℕ). f.1) here ∙ short, ap (λ (f : Kind × ℕ). is_odd f.0) odd)
      | inr closed ↦
          let here : plain_front c (q ∷ ds) ≡ (quoted_kind q, closed.0 + 1) = front ∙ rw closed.1 refl in
          absurd (quoted_no_name q (sym (ap (λ (f : Kind × ℕ). f.0) here) ∙ named))
    ]
  where
    quote_word : (q : ℕ) → is_quote q ≡ true → is_word q ≡ false
    quote_word q h = grind (arith, nat_tests)

    quote_ends : (q : ℕ) (ds : List ℕ) → is_quote q ≡ true → prefix_len is_word (q ∷ ds) ≡ 0
    quote_ends q ds h = rw (quote_word q h) refl

pub plain_is : (c : ℕ) (R : List ℕ) → front_of false c R ≡ plain_front c R
unfolding front_of
plain_is c R = refl

quote_dark : (q : ℕ) → is_quote q ≡ true → (is_white q ≡ false) × ((q == slash) ≡ false)
quote_dark q h = (dark q h, other q h)
  where
    dark : (q : ℕ) → is_quote q ≡ true → is_white q ≡ false
    dark q h = grind (arith, nat_tests)

    other : (q : ℕ) → is_quote q ≡ true → (q == slash) ≡ false
    other q h = grind (arith, nat_tests)

-- a quote that does not close is an odd token
pub even_quote : (front : Front) (gap : Bool) (at q : ℕ) (ds chars : List ℕ) → expects_header front ≡ false → is_quote q ≡ true → is_odd (plain_front q ds).0 ≡ true
    → list_all is_even (found_in 0 0 gap front at chars (piece_of (expects_header front) q ds)) ≡ true → ⊥
even_quote front gap at q ds chars header quote odd even =
    let d = quote_dark q quote in
    let even2 : list_all is_even (found_in 0 0 gap front at chars (piece_of false q ds)) ≡ true =
    ap (λ (b : Bool). list_all is_even (found_in 0 0 gap front at chars (piece_of b q ds))) (sym header) ∙ even in
    elim (view false q ds) [
      | feeds f ↦ let nost : true ≡ false = sym (feed_white q f.is) ∙ d.0 in absurd cc
      | whites w ↦ let nost : true ≡ false = sym w.is ∙ d.0 in absurd cc
      | lines l ↦ let p = and_parts (q == slash) (begins slash ds) l.is in let nost : true ≡ false = sym p.0 ∙ d.1 in absurd cc
      | blocks b ↦ let p = and_parts (q == slash) (begins star ds) b.is in let nost : true ≡ false = sym p.0 ∙ d.1 in absurd cc
      | opens o ↦ let nost = rw (o.found 0 0 gap front at chars) at even2 in absurd cc
      | spells s ↦
          let odd2 : is_odd (front_of false q ds).0 ≡ true = ap (λ (f : Kind × ℕ). is_odd f.0) (plain_is q ds) ∙ odd in
          let nost = rw (s.found 0 0 gap front at chars, odd2) at even2 in absurd cc
    ]
  where
    feed_white : (q : ℕ) → (q == line_feed) ≡ true → is_white q ≡ true
    feed_white q h = subst (λ d. is_white d ≡ true) (sym (eqb-true q line_feed h)) refl

calm_even : (fs : List Found) → list_all is_calm fs ≡ true → list_all is_even fs ≡ true
calm_even [] h = refl
calm_even (FoundToken t first ∷ fs) h =
    let p = and_parts (not (is_odd t.kind) && not (first && is_hash_text t.text)) (list_all is_calm fs) h in
    let q = and_parts (not (is_odd t.kind)) (not (first && is_hash_text t.text)) p.0 in
    and_from (not (is_odd t.kind)) (list_all is_even fs) q.0 (calm_even fs p.1)
calm_even (FoundOpen at ∷ fs) h = absurd cc

-- What a calm token says.
record CalmToken (front : Front) (k : Kind) (chars : List ℕ) : Type 0 where
  even : is_odd k ≡ false
  on : (is_line_start front && is_hash_text chars) ≡ false

calm_token : (front : Front) (gap : Bool) (at : ℕ) (k : Kind) (chars : List ℕ)
    → list_all is_calm (FoundToken (file_token 0 0 gap at k chars) (is_line_start front) ∷ []) ≡ true → CalmToken front k chars
calm_token front gap at k chars h =
    let p = and_parts (not (is_odd k) && not (is_line_start front && is_hash_text chars)) true h in
    let q = and_parts (not (is_odd k)) (not (is_line_start front && is_hash_text chars)) p.0 in
    record { even = not-true (is_odd k) q.0; on = not-true (is_line_start front && is_hash_text chars) q.1 }

-- ---- pieces

halts_here : (c : ℕ) (xs : List ℕ) → ends_slash (c ∷ xs) ≡ false → halts true c xs ≡ true
halts_here c [] h = rw h refl
halts_here c (x ∷ xs) h = refl

pub settled_from : (stop header : Bool) (c : ℕ) (xs ys : List ℕ) → is_closed c (xs ++ ys) ≡ true → piece_length 0 (piece_of header c (xs ++ ys)) ≤ length xs + 1
    → (is_lone c || (halts stop c xs && keeps_line header c xs ys)) ≡ true → is_settled stop header c xs ys ≡ true
settled_from stop header c xs ys shut few rest =
    and_from (is_closed c (xs ++ ys)) (lies_within header c xs ys && (is_lone c || (halts stop c xs && keeps_line header c xs ys))) shut
    (and_from (lies_within header c xs ys) (is_lone c || (halts stop c xs && keeps_line header c xs ys))
    (le-leb (piece_length 0 (piece_of header c (xs ++ ys))) (length xs + 1) few) rest)

-- a line feed stands behind
pub line_keeps : (header : Bool) (c : ℕ) (xs ys : List ℕ) → has_line_feed xs ≡ true → keeps_line header c xs ys ≡ true
line_keeps header c xs ys feed = rw feed refl

pub block_keeps : (header : Bool) (c : ℕ) (xs ys : List ℕ) → (c == slash && begins slash (xs ++ ys)) ≡ false → (c == slash && begins star (xs ++ ys)) ≡ true
    → keeps_line header c xs ys ≡ true
block_keeps header c xs ys no_line block =
    or_right (has_line_feed xs)
    (not (c == slash && begins slash (xs ++ ys)) && ((c == slash && begins star (xs ++ ys)) || (not header && asks_nothing c xs (front_of header c (xs ++ ys)).0)))
    (rw (no_line, block) refl)

pub token_keeps : (c : ℕ) (xs ys : List ℕ) → (c == slash && begins slash (xs ++ ys)) ≡ false → asks_nothing c xs (front_of false c (xs ++ ys)).0 ≡ true
    → keeps_line false c xs ys ≡ true
token_keeps c xs ys no_line asks =
    or_right (has_line_feed xs)
    (not (c == slash && begins slash (xs ++ ys)) && ((c == slash && begins star (xs ++ ys)) || asks_nothing c xs (front_of false c (xs ++ ys)).0))
    (rw no_line (or_right (c == slash && begins star (xs ++ ys)) (asks_nothing c xs (front_of false c (xs ++ ys)).0) asks))

-- no lone quote stands behind an `L`
narrow_of : (front : Front) (at c : ℕ) (xs ys : List ℕ) → Spells false c (xs ++ ys)
    → IsPlain (line_front_after (c ∷ (xs ++ ys)) front (piece_of false c (xs ++ ys)))
    → list_all is_calm (found_plain (piece_length 0 (piece_of false c (xs ++ ys)) - 1) (leaves_gap (piece_of false c (xs ++ ys)))
    (line_front_after (c ∷ (xs ++ ys)) front (piece_of false c (xs ++ ys))) at xs ys) ≡ true
    → (front_of false c (xs ++ ys)).0 ≡ Ident → (c == capital_l && begins_quote xs) ≡ false
unfolding found_plain
narrow_of front at c [] ys s plain calm named = and_none (c == capital_l)
narrow_of front at c (q ∷ ds) ys s plain calm named =
    let R = q ∷ (ds ++ ys) in
    let P = piece_of false c R in
    let later = line_front_after (c ∷ R) front P in
    elim (cases_Bool (c == capital_l && is_quote q)) [
      | inl wide ↦
          let named2 : (plain_front c R).0 ≡ Ident = ap (λ (f : Kind × ℕ). f.0) (sym (plain_is c R)) ∙ named in
          let lone = lone_quote c q (ds ++ ys) wide named2 in
          let short : (front_of false c R).1 ≡ 0 = ap (λ (f : Kind × ℕ). f.1) (plain_is c R) ∙ lone.0 in
          let size = s.size in
          let none : piece_length 0 P - 1 ≡ 0 = omega (arith, size, short) in
          let here = subst (λ (k : ℕ). list_all is_calm (found_plain k (leaves_gap P) later at (q ∷ ds) ys) ≡ true) none calm in
          let first = all_append is_calm (found_in 0 0 (leaves_gap P) later at R (piece_of (expects_header later) q (ds ++ ys))) _ here in
          let quote = and_parts (c == capital_l) (is_quote q) wide in
          absurd (even_quote later (leaves_gap P) at q (ds ++ ys) R (no_header later plain) quote.1 lone.1
          (calm_even (found_in 0 0 (leaves_gap P) later at R (piece_of (expects_header later) q (ds ++ ys))) first.0))
      | inr narrow ↦ narrow
    ]

-- one piece
calm_piece : (front : Front) (gap : Bool) (at c : ℕ) (xs ys : List ℕ) → IsPlain front
    → list_all is_calm (found_in 0 0 gap front at (c ∷ (xs ++ ys)) (piece_of false c (xs ++ ys))) ≡ true
    → list_all is_calm (found_plain (piece_length 0 (piece_of false c (xs ++ ys)) - 1) (leaves_gap (piece_of false c (xs ++ ys)))
    (line_front_after (c ∷ (xs ++ ys)) front (piece_of false c (xs ++ ys))) (at + 1) xs ys) ≡ true
    → skip_behind (piece_length 0 (piece_of false c (xs ++ ys)) - 1) (line_front_after (c ∷ (xs ++ ys)) front (piece_of false c (xs ++ ys))) xs ys ≡ 0
    → gap_behind (piece_length 0 (piece_of false c (xs ++ ys)) - 1) (leaves_gap (piece_of false c (xs ++ ys)))
    (line_front_after (c ∷ (xs ++ ys)) front (piece_of false c (xs ++ ys))) xs ys ≡ false
    → ends_slash (c ∷ xs) ≡ false
    → (is_settled true false c xs ys ≡ true) × IsPlain (line_front_after (c ∷ (xs ++ ys)) front (piece_of false c (xs ++ ys)))
calm_piece front gap at c xs ys plain calm next ends closed no_slash =
    let R = xs ++ ys in
    let P = piece_of false c R in
    let chars = c ∷ R in
    let later = line_front_after chars front P in
    let near = skip_within (piece_length 0 P - 1) later xs ys ends in
    let few : piece_length 0 P ≤ length xs + 1 = omega (arith, near) in
    let halted = halts_here c xs no_slash in
    elim (view false c R) [
      | feeds f ↦ (settled_from true false c xs ys (feeds_closed false c R f) few (rw (feed_lone c f.is) refl), inl (f.front chars front))
      | whites w ↦ (settled_from true false c xs ys (whites_closed false c R w) few (rw w.is refl), subst IsPlain (sym (w.front chars front)) plain)
      | lines l ↦
          let size = l.size in
          let feed : has_line_feed xs ≡ true = elim (cases_Bool (nat_le (length xs) (piece_length 0 P - 1))) [
            | inl short ↦
                let all = gap_short (piece_length 0 P - 1) (leaves_gap P) later xs ys (leb-true (length xs) (piece_length 0 P - 1) short) in
                let nost : true ≡ false = sym l.gap ∙ sym all ∙ closed in
                absurd cc
            | inr long ↦
                let below = leb-false (length xs) (piece_length 0 P - 1) long in
                feed_inside xs ys (omega (arith, below, size))
          ] in (
            settled_from true false c xs ys (lines_closed false c R l) few
                (or_right (is_lone c) (halts true c xs && keeps_line false c xs ys) (and_from (halts true c xs) (keeps_line false c xs ys) halted (line_keeps false c xs ys feed))),
            subst IsPlain (sym (l.front chars front)) plain,
          )
      | blocks b ↦ (
        settled_from true false c xs ys (blocks_closed false c R b) few
            (or_right (is_lone c) (halts true c xs && keeps_line false c xs ys) (and_from (halts true c xs) (keeps_line false c xs ys) halted (block_keeps false c xs ys b.no_line b.is))),
        subst IsPlain (sym (b.front chars front)) plain,
      )
      | opens o ↦ let nost = rw (o.found 0 0 gap front at chars) at calm in absurd cc
      | spells s ↦
          let word = take (suc (front_of false c R).1) chars in
          let told = calm_token front gap at (front_of false c R).0 word (rw (s.found 0 0 gap front at chars) at calm) in
          let after : IsPlain later = subst IsPlain (sym (s.front chars front)) (token_plain front word plain told.on) in
          let asks = asks_of c xs (front_of false c R).0 told.even (narrow_of front (at + 1) c xs ys s after next) in (
            settled_from true false c xs ys (spells_closed false c R s) few
                (or_right (is_lone c) (halts true c xs && keeps_line false c xs ys) (and_from (halts true c xs) (keeps_line false c xs ys) halted (token_keeps c xs ys s.no_line asks))),
            after,
          )
    ]

-- the same where a header name is not expected
calm_at : (header : Bool) (front : Front) (gap : Bool) (at c : ℕ) (xs ys : List ℕ) → header ≡ false → IsPlain front
    → list_all is_calm (found_in 0 0 gap front at (c ∷ (xs ++ ys)) (piece_of header c (xs ++ ys))) ≡ true
    → list_all is_calm (found_plain (piece_length 0 (piece_of header c (xs ++ ys)) - 1) (leaves_gap (piece_of header c (xs ++ ys)))
    (line_front_after (c ∷ (xs ++ ys)) front (piece_of header c (xs ++ ys))) (at + 1) xs ys) ≡ true
    → skip_behind (piece_length 0 (piece_of header c (xs ++ ys)) - 1) (line_front_after (c ∷ (xs ++ ys)) front (piece_of header c (xs ++ ys))) xs ys ≡ 0
    → gap_behind (piece_length 0 (piece_of header c (xs ++ ys)) - 1) (leaves_gap (piece_of header c (xs ++ ys)))
    (line_front_after (c ∷ (xs ++ ys)) front (piece_of header c (xs ++ ys))) xs ys ≡ false
    → ends_slash (c ∷ xs) ≡ false
    → (is_settled true header c xs ys ≡ true) × IsPlain (line_front_after (c ∷ (xs ++ ys)) front (piece_of header c (xs ++ ys)))
calm_at true front gap at c xs ys none plain calm next ends closed no_slash = absurd cc
calm_at false front gap at c xs ys none plain calm next ends closed no_slash = calm_piece front gap at c xs ys plain calm next ends closed no_slash

calm_settles : (skip : ℕ) (gap : Bool) (front : Front) (at : ℕ) (xs ys : List ℕ) → IsPlain front → list_all is_calm (found_plain skip gap front at xs ys) ≡ true
    → skip_behind skip front xs ys ≡ 0 → gap_behind skip gap front xs ys ≡ false → ends_slash xs ≡ false → settles true skip front xs ys ≡ true
unfolding found_plain skip_behind gap_behind settles
calm_settles zero gap front at [] ys plain calm ends closed no_slash = refl
calm_settles (suc skip) gap front at [] ys plain calm ends closed no_slash = absurd (omega (arith, ends))
calm_settles (suc skip) gap front at (c ∷ xs) ys plain calm ends closed no_slash =
    calm_settles skip gap front (at + 1) xs ys plain calm ends closed (slash_on c xs no_slash)
calm_settles zero gap front at (c ∷ xs) ys plain calm ends closed no_slash =
    let header = expects_header front in
    let P = piece_of header c (xs ++ ys) in
    let later = line_front_after (c ∷ (xs ++ ys)) front P in
    let parts = all_append is_calm (found_in 0 0 gap front at (c ∷ (xs ++ ys)) P) (found_plain (piece_length 0 P - 1) (leaves_gap P) later (at + 1) xs ys) calm in
    let here = calm_at header front gap at c xs ys (no_header front plain) plain parts.0 parts.1 ends closed no_slash in
    let rest = calm_settles (piece_length 0 P - 1) (leaves_gap P) later (at + 1) xs ys here.1 parts.1 ends closed (slash_on c xs no_slash) in
    and_from (is_settled true header c xs ys) (settles true (piece_length 0 P - 1) later xs ys) here.0 rest

pub calm_texts_settle : CalmTextsSettle
calm_texts_settle = λ st xs ys calm ends closed no_slash. calm_settles 0 st.gap (front_at st) 0 xs ys (plain_at st) calm ends closed no_slash
