-- What characters bring in a new order: each part that settles brings the same wherever it stands.
use Rattle.std.proofs.Common.{◌≡◌, ℕ, zero, suc, ◌+◌, ◌-◌, ◌<◌, Bool, true, false, ◌&&◌, ◌||◌, ◌==◌, List, [], ◌∷◌, ◌++◌, length, take, drop, map, inl, inr, refl, sym, ap, ◌∙◌, arith, append_assoc, take-append-drop}
use Rattle.std.proofs.lemmas.Bool.{cases_Bool, and_parts, eqb-true}
use Rattle.std.proofs.lemmas.List.{map-append}
use Rattle.lexer.specs.Characters.{line_feed, slash, star, is_white, begins}
use Rattle.lexer.specs.Tokens.{Found, comment_end, piece_of, piece_length, leaves_gap, line_front_after, expects_header, is_line_start, found_in}
use Rattle.lexer.proofs.LocalLemmas.{option-cases}
use Rattle.lexer.proofs.PieceLocal.{token_piece-is}
use Rattle.list_cuts.specs.Cuts.{Cut, done, keep, list, Items, ended, item, span_of}
use Rattle.arranged_text_laws.specs.Labels.{head_with, starts, IsLed}
use Rattle.arranged_text_laws.specs.Settling.{Front, Piece, is_stop, is_lone, begins_stop, is_closed, halts, keeps_line, lies_within, is_settled, settles, gap_behind, front_behind}
use Rattle.arranged_text_laws.specs.Marks.{file_front, line_start, some_tokens, Before, front_at, behind_token, Mark, mark, text, brought, with_labels}
use Rattle.arranged_text_laws.specs.Along.{is_none, Leaves, BeginsToken, HasStop, GapSettles, SettlesAlong, ItemsSettle}
use Rattle.arranged_text_laws.proofs.PieceStays.{piece_stays, size_same, found_same, front_same}
use Rattle.arranged_text_laws.proofs.JoinLemmas.{take_same}
use Rattle.arranged_text_laws.proofs.Flows.{Flow, Goes, Relabels, BringsOne, Loose, HasEnd, GapFlows, Flows, ItemsFlow}

-- ---- parts of a text

-- what these bring, with `ys` behind them
brought_in : ℕ → ℕ → Bool → Front → List Mark → List ℕ → List (List Found)
brought_in file skip gap front [] ys = []
brought_in file (suc skip) gap front (m ∷ ms) ys = [] ∷ brought_in file skip gap front ms ys
brought_in file zero gap front (m ∷ ms) ys =
    found_in file m.line gap front m.at (m.byte ∷ (text ms ++ ys)) (piece_of (expects_header front) m.byte (text ms ++ ys))
    ∷ brought_in file (piece_length 0 (piece_of (expects_header front) m.byte (text ms ++ ys)) - 1)
    (leaves_gap (piece_of (expects_header front) m.byte (text ms ++ ys)))
    (line_front_after (m.byte ∷ (text ms ++ ys)) front (piece_of (expects_header front) m.byte (text ms ++ ys))) ms ys

length-brought_in : (file skip : ℕ) (gap : Bool) (front : Front) (ms : List Mark) (ys : List ℕ) → length (brought_in file skip gap front ms ys) ≡ length ms
unfolding brought_in
length-brought_in file skip gap front [] ys = refl
length-brought_in file (suc skip) gap front (m ∷ ms) ys = ap (λ (n : ℕ). suc n) (length-brought_in file skip gap front ms ys)
length-brought_in file zero gap front (m ∷ ms) ys =
    ap (λ (n : ℕ). suc n) (length-brought_in file (piece_length 0 (piece_of (expects_header front) m.byte (text ms ++ ys)) - 1)
    (leaves_gap (piece_of (expects_header front) m.byte (text ms ++ ys)))
    (line_front_after (m.byte ∷ (text ms ++ ys)) front (piece_of (expects_header front) m.byte (text ms ++ ys))) ms ys)

abbrev from_mark : ℕ → Bool → Front → Mark → List ℕ → Piece → ℕ → List Mark → List (List Found)
from_mark file gap front m chars piece size ms =
    found_in file m.line gap front m.at chars piece ∷ brought file (size - 1) (leaves_gap piece) (line_front_after chars front piece) ms

joined : (stop : Bool) (file : ℕ) (ns : List Mark) (ys : List ℕ) → (stop ≡ true → begins_stop (text ns) ≡ true) → (stop ≡ true → begins_stop ys ≡ true)
    → (skip : ℕ) (gap : Bool) (front : Front) (ms : List Mark) → settles stop skip front (text ms) ys ≡ true
    → brought file skip gap front (ms ++ ns)
    ≡ brought_in file skip gap front ms ys ++ brought file 0 (gap_behind skip gap front (text ms) ys) (front_behind skip front (text ms) ys) ns
unfolding brought brought_in settles gap_behind front_behind
joined stop file ns ys new old zero gap front [] h = refl
joined stop file ns ys new old (suc skip) gap front [] h = let e = eqb-true (suc skip) 0 h in absurd (omega (arith, e))
joined stop file ns ys new old (suc skip) gap front (m ∷ ms) h = ap (λ (l : List (List Found)). [] ∷ l) (joined stop file ns ys new old skip gap front ms h)
joined stop file ns ys new old zero gap front (m ∷ ms) h =
    let S = text ms in
    let D = text ns in
    let header = expects_header front in
    let piece = piece_of header m.byte (S ++ ys) in
    let parts = and_parts (is_settled stop header m.byte S ys) (settles stop (piece_length 0 piece - 1) (line_front_after (m.byte ∷ (S ++ ys)) front piece) S ys) h in
    let shut = and_parts (is_closed m.byte (S ++ ys)) (lies_within header m.byte S ys && (is_lone m.byte || (halts stop m.byte S && keeps_line header m.byte S ys))) parts.0 in
    let small = and_parts (lies_within header m.byte S ys) (is_lone m.byte || (halts stop m.byte S && keeps_line header m.byte S ys)) shut.1 in
    let chars : text (ms ++ ns) ≡ S ++ D = map-append (λ (d : Mark). d.byte) ms ns in
    let same : piece_of header m.byte (S ++ D) ≡ piece = piece_stays stop header m.byte S ys D parts.0 old new in
    let n = suc (length (ms ++ ns)) in
    let found = found_in file m.line gap front m.at (m.byte ∷ (S ++ ys)) piece in
    let later = joined stop file ns ys new old (piece_length 0 piece - 1) (leaves_gap piece) (line_front_after (m.byte ∷ (S ++ ys)) front piece) ms parts.1 in
    ap (λ (t : List ℕ). from_mark file gap front m (m.byte ∷ t) (piece_of header m.byte t) (piece_length n (piece_of header m.byte t)) (ms ++ ns)) chars
    ∙ ap (λ (p : Piece). from_mark file gap front m (m.byte ∷ (S ++ D)) p (piece_length n p) (ms ++ ns)) same
    ∙ ap (λ (k : ℕ). from_mark file gap front m (m.byte ∷ (S ++ D)) piece k (ms ++ ns)) (size_same header m.byte (S ++ ys) n shut.0)
    ∙ ap (λ (f : List Found). f ∷ brought file (piece_length 0 piece - 1) (leaves_gap piece) (line_front_after (m.byte ∷ (S ++ D)) front piece) (ms ++ ns))
    (found_same file m.line gap front m.at header m.byte (S ++ ys) (m.byte ∷ (S ++ D)) (m.byte ∷ (S ++ ys)) (length S + 1) shut.0 small.0 (take_same m.byte S ys D))
    ∙ ap (λ (g : Front). found ∷ brought file (piece_length 0 piece - 1) (leaves_gap piece) g (ms ++ ns))
    (front_same front header m.byte (S ++ ys) (m.byte ∷ (S ++ D)) (m.byte ∷ (S ++ ys)) (length S + 1) shut.0 small.0 (take_same m.byte S ys D))
    ∙ ap (λ (l : List (List Found)). found ∷ l) later

-- ---- labels

pub plain_header : (st : Before) → expects_header (front_at st) ≡ false
unfolding file_front
plain_header st = elim (cases_Bool st.first) [ inl first ↦ rw first refl | inr later ↦ rw later refl ]

plain_start : (st : Before) → is_line_start (front_at st) ≡ st.first
unfolding file_front
plain_start st = elim (cases_Bool st.first) [ inl first ↦ rw first refl | inr later ↦ rw later refl ]

labels_in : (file line : ℕ) (gap : Bool) (front front2 : Front) (at : ℕ) (chars : List ℕ) (header : Bool) (c : ℕ) (cs : List ℕ)
    → found_in file line gap front at chars (piece_of header c cs)
    ≡ map (with_labels gap (is_line_start front)) (found_in file line false front2 at chars (piece_of header c cs))
unfolding piece_of
labels_in file line gap front front2 at chars header c cs =
    elim (cases_Bool (c == line_feed)) [
      | inl ends_here ↦ rw ends_here refl
      | inr on ↦ elim (cases_Bool (is_white c)) [
        | inl white ↦ rw (on, white) refl
        | inr dark ↦ elim (cases_Bool (c == slash && begins slash cs)) [
          | inl comment ↦ rw (on, dark, comment) refl
          | inr no_line ↦ elim (cases_Bool (c == slash && begins star cs)) [
            | inl block ↦ elim (option-cases (comment_end (drop 1 cs))) [
              | inl open_still ↦ rw (on, dark, no_line, block, open_still) refl
              | inr closed ↦ rw (on, dark, no_line, block, closed.1) refl
            ]
            | inr no_block ↦ rw (on, dark, no_line, no_block, token_piece-is header c cs) refl
          ]
        ]
      ]
    ]

-- the flow of characters to what is found
abbrev pub token_flow : ℕ → Flow Mark (List Found) Before
token_flow file = record {
  run = λ st ms. brought file 0 st.gap (front_at st) ms;
  rest = behind_token;
  label = λ st. map (with_labels st.gap st.first);
  behind_item = λ m. is_stop m.byte;
  begins_item = λ m. true;
  one = λ fs. length fs == 1;
}

-- where a token stands first, a state says no more than its labels
relabelled : (file : ℕ) (st : Before) (m : Mark) (ms : List Mark)
    → line_front_after (m.byte ∷ text ms) line_start (piece_of false m.byte (text ms)) ≡ some_tokens
    → line_front_after (m.byte ∷ text ms) some_tokens (piece_of false m.byte (text ms)) ≡ some_tokens
    → brought file 0 st.gap (front_at st) (m ∷ ms) ≡ head_with (map (with_labels st.gap st.first)) (brought file 0 false some_tokens (m ∷ ms))
unfolding brought
relabelled file st m ms at_start later =
    let chars = m.byte ∷ text ms in
    let piece = piece_of false m.byte (text ms) in
    let front : line_front_after chars (front_at st) piece ≡ some_tokens =
    elim (cases_Bool st.first) [ inl first ↦ rw first at_start | inr not_first ↦ rw not_first later ] in
    let size = piece_length (suc (length ms)) piece in
    ap (λ (h : Bool). from_mark file st.gap (front_at st) m chars (piece_of h m.byte (text ms)) (piece_length (suc (length ms)) (piece_of h m.byte (text ms))) ms) (plain_header st)
    ∙ ap (λ (g : Front). found_in file m.line st.gap (front_at st) m.at chars piece ∷ brought file (size - 1) (leaves_gap piece) g ms) front
    ∙ ap (λ (fs : List Found). fs ∷ brought file (size - 1) (leaves_gap piece) some_tokens ms)
    (labels_in file m.line st.gap (front_at st) some_tokens m.at chars false m.byte (text ms)
    ∙ ap (λ b. map (with_labels st.gap b) (found_in file m.line false some_tokens m.at chars piece)) (plain_start st))
    ∙ ap (λ (g : Front). map (with_labels st.gap st.first) (found_in file m.line false some_tokens m.at chars piece) ∷ brought file (size - 1) (leaves_gap piece) g ms) (sym later)
    ∙ ap (λ (h : Bool). head_with (map (with_labels st.gap st.first))
    (from_mark file false some_tokens m chars (piece_of h m.byte (text ms)) (piece_length (suc (length ms)) (piece_of h m.byte (text ms))) ms)) (sym (plain_header behind_token))

-- the first piece of a text that settles, before another text
first_stays : (stop : Bool) (m : Mark) (ms ns : List Mark) (ys : List ℕ) → settles stop 0 some_tokens (text (m ∷ ms)) ys ≡ true
    → (stop ≡ true → begins_stop (text ns) ≡ true) → (stop ≡ true → begins_stop ys ≡ true)
    → (leaves_gap (piece_of false m.byte (text (ms ++ ns))) ≡ leaves_gap (piece_of false m.byte (text ms ++ ys)))
    × ((front : Front) → line_front_after (m.byte ∷ text (ms ++ ns)) front (piece_of false m.byte (text (ms ++ ns)))
    ≡ line_front_after (m.byte ∷ (text ms ++ ys)) front (piece_of false m.byte (text ms ++ ys)))
unfolding settles
first_stays stop m ms ns ys h new old =
    let S = text ms in
    let D = text ns in
    let told = ap (λ (b : Bool). is_settled stop b m.byte S ys) (sym (plain_header behind_token)) in
    let parts = and_parts (is_settled stop (expects_header some_tokens) m.byte S ys)
    (settles stop (piece_length 0 (piece_of (expects_header some_tokens) m.byte (S ++ ys)) - 1) (line_front_after (m.byte ∷ (S ++ ys)) some_tokens (piece_of (expects_header some_tokens) m.byte (S ++ ys))) S ys) h in
    let settled : is_settled stop false m.byte S ys ≡ true = told ∙ parts.0 in
    let shut = and_parts (is_closed m.byte (S ++ ys)) (lies_within false m.byte S ys && (is_lone m.byte || (halts stop m.byte S && keeps_line false m.byte S ys))) settled in
    let small = and_parts (lies_within false m.byte S ys) (is_lone m.byte || (halts stop m.byte S && keeps_line false m.byte S ys)) shut.1 in
    let chars : text (ms ++ ns) ≡ S ++ D = map-append (λ (d : Mark). d.byte) ms ns in
    let same : piece_of false m.byte (S ++ D) ≡ piece_of false m.byte (S ++ ys) = piece_stays stop false m.byte S ys D settled old new in (
      ap (λ (t : List ℕ). leaves_gap (piece_of false m.byte t)) chars ∙ ap leaves_gap same,
      λ front. ap (λ (t : List ℕ). line_front_after (m.byte ∷ t) front (piece_of false m.byte t)) chars
          ∙ ap (λ (p : Piece). line_front_after (m.byte ∷ (S ++ D)) front p) same
          ∙ front_same front false m.byte (S ++ ys) (m.byte ∷ (S ++ D)) (m.byte ∷ (S ++ ys)) (length S + 1) shut.0 small.0 (take_same m.byte S ys D),
    )

one_token : (file line : ℕ) (gap : Bool) (front : Front) (at : ℕ) (chars : List ℕ) (header : Bool) (c : ℕ) (cs : List ℕ)
    → leaves_gap (piece_of header c cs) ≡ false → (length (found_in file line gap front at chars (piece_of header c cs)) == 1) ≡ true
unfolding piece_of
one_token file line gap front at chars header c cs token =
    elim (cases_Bool (c == line_feed)) [
      | inl ends_here ↦ let nost = rw ends_here at token in absurd cc
      | inr on ↦ elim (cases_Bool (is_white c)) [
        | inl white ↦ let nost = rw (on, white) at token in absurd cc
        | inr dark ↦ elim (cases_Bool (c == slash && begins slash cs)) [
          | inl comment ↦ let nost = rw (on, dark, comment) at token in absurd cc
          | inr no_line ↦ elim (cases_Bool (c == slash && begins star cs)) [
            | inl block ↦ elim (option-cases (comment_end (drop 1 cs))) [
              | inl open_still ↦ let nost = rw (on, dark, no_line, block, open_still) at token in absurd cc
              | inr closed ↦ let nost = rw (on, dark, no_line, block, closed.1) at token in absurd cc
            ]
            | inr no_block ↦ rw (on, dark, no_line, no_block, token_piece-is header c cs) refl
          ]
        ]
      ]
    ]

-- such a text brings one token first
brings_one : (file : ℕ) (stop : Bool) (p : Mark → Bool) (ms : List Mark) (ys : List ℕ) → settles stop 0 some_tokens (text ms) ys ≡ true
    → ((ns : List Mark) → starts p ns ≡ true → stop ≡ true → begins_stop (text ns) ≡ true) → (stop ≡ true → begins_stop ys ≡ true) → BeginsToken ms ys
    → BringsOne (token_flow file) p ms
unfolding brought
brings_one file stop p [] ys h new old token = absurd token
brings_one file stop p (m ∷ ms) ys h new old token = λ ns is.
    let stays = first_stays stop m ms ns ys h (new ns is) old in
    let header = plain_header behind_token in
    let gap : leaves_gap (piece_of (expects_header some_tokens) m.byte (text (ms ++ ns))) ≡ false =
    ap (λ (b : Bool). leaves_gap (piece_of b m.byte (text (ms ++ ns)))) header ∙ stays.0 ∙ token.0 in
    one_token file m.line false some_tokens m.at (m.byte ∷ text (ms ++ ns)) (expects_header some_tokens) m.byte (text (ms ++ ns)) gap

relabels : (file : ℕ) (stop : Bool) (p : Mark → Bool) (ms : List Mark) (ys : List ℕ) → settles stop 0 some_tokens (text ms) ys ≡ true
    → ((ns : List Mark) → starts p ns ≡ true → stop ≡ true → begins_stop (text ns) ≡ true) → (stop ≡ true → begins_stop ys ≡ true) → BeginsToken ms ys
    → Relabels (token_flow file) p ms
relabels file stop p [] ys h new old token = absurd token
relabels file stop p (m ∷ ms) ys h new old token = λ st ns is.
    let stays = first_stays stop m ms ns ys h (new ns is) old in
    relabelled file st m (ms ++ ns) (stays.1 line_start ∙ token.1) (stays.1 some_tokens ∙ token.2)

-- ---- along a cut

stop_behind : (ns : List Mark) → starts (λ (m : Mark). is_stop m.byte) ns ≡ true → begins_stop (text ns) ≡ true
stop_behind [] h = absurd cc
stop_behind (n ∷ ns) h = h

pub behind_stop : (ns : List Mark) → begins_stop (text ns) ≡ true → starts (λ (m : Mark). is_stop m.byte) ns ≡ true
behind_stop [] h = absurd cc
behind_stop (n ∷ ns) h = h

-- a part that settles goes so wherever it stands
part_goes : (file : ℕ) (stop : Bool) (p : Mark → Bool) (st : Before) (ms : List Mark) (ys : List ℕ) (end : Before) → settles stop 0 (front_at st) (text ms) ys ≡ true
    → Leaves st ms ys end → ((ns : List Mark) → starts p ns ≡ true → stop ≡ true → begins_stop (text ns) ≡ true) → (stop ≡ true → begins_stop ys ≡ true)
    → Goes (token_flow file) p st ms (brought_in file 0 st.gap (front_at st) ms ys) end
part_goes file stop p st ms ys end h leaves new old = record {
  long = length-brought_in file 0 st.gap (front_at st) ms ys;
  goes = λ ns is.
      joined stop file ns ys (new ns is) old 0 st.gap (front_at st) ms h
      ∙ ap (λ (g : Bool). brought_in file 0 st.gap (front_at st) ms ys ++ brought file 0 g (front_behind 0 (front_at st) (text ms) ys) ns) leaves.0
      ∙ ap (λ (g : Front). brought_in file 0 st.gap (front_at st) ms ys ++ brought file 0 end.gap g ns) leaves.1;
}

-- nothing goes so too
none_goes : (file : ℕ) (p : Mark → Bool) (st end : Before) (ys : List ℕ) → Leaves st [] ys end → Goes (token_flow file) p st [] [] end
unfolding gap_behind front_behind
none_goes file p st end ys leaves = record {
  long = refl;
  goes = λ ns is. ap (λ (g : Bool). brought file 0 g (front_at st) ns) leaves.0 ∙ ap (λ (g : Front). brought file 0 end.gap g ns) leaves.1;
}

has_end : (file : ℕ) (c : Cut) (ms : List Mark) → HasStop c ms → HasEnd (token_flow file) c ms
has_end file done [] h = refl
has_end file done (m ∷ ms) h = h
has_end file (keep n c) ms h = behind_stop (take n ms) h
has_end file (list is c) ms h = absurd h

gap_flows : (file gap : ℕ) (more : Items) (ms : List Mark) (ys : List ℕ) → GapSettles gap more ms ys → GapFlows (token_flow file) gap more ms
gap_flows file gap ended ms ys h = h
gap_flows file gap (item n c further more) ms ys h = (
  behind_stop (take gap ms) h.0,
  (
    brought_in file 0 false some_tokens (take gap ms) (text (drop gap ms) ++ ys),
    h.2.0,
    part_goes file false (λ m. true) behind_token (take gap ms) (text (drop gap ms) ++ ys) h.2.0 h.1 h.2.1 (λ ns is stop. absurd cc) (λ stop. absurd cc),
  ),
)

begins_take : (n : ℕ) (ms : List Mark) (ys : List ℕ) → 0 < n → BeginsToken ms ys → BeginsToken (take n ms) (text (drop n ms) ++ ys)
begins_take n [] ys some token = absurd token
begins_take zero (m ∷ ms) ys some token = absurd (omega (arith, some))
begins_take (suc n) (m ∷ ms) ys some token =
    let same : text (take n ms) ++ (text (drop n ms) ++ ys) ≡ text ms ++ ys =
    sym (append_assoc (text (take n ms)) (text (drop n ms)) ys) ∙ ap (λ (l : List ℕ). l ++ ys) (sym (map-append (λ (d : Mark). d.byte) (take n ms) (drop n ms)))
    ∙ ap (λ (l : List Mark). text l ++ ys) (take-append-drop n ms) in
    rw same token

stop_of : (m : Mark) (ms : List Mark) (ys : List ℕ) → (is_none (m ∷ ms) || begins_stop ys) ≡ true → begins_stop ys ≡ true
stop_of m ms ys h = h

loose_of : (file : ℕ) (c : Cut) (ms : List Mark) (ys : List ℕ) → IsLed c → BeginsToken ms ys → SettlesAlong behind_token c ms ys behind_token
    → Loose (token_flow file) c ms
loose_of file c [] ys led token along = absurd token
loose_of file done (m ∷ ms) ys led token along = (
  relabels file true (λ n. is_stop n.byte) (m ∷ ms) ys along.0 (λ ns is stop. stop_behind ns is) (λ stop. stop_of m ms ys along.1) token,
  brings_one file true (λ n. is_stop n.byte) (m ∷ ms) ys along.0 (λ ns is stop. stop_behind ns is) (λ stop. stop_of m ms ys along.1) token,
  (mark 44 0 0 ∷ [], refl),
)
loose_of file (keep n c) (m ∷ ms) ys led token along =
    let first = begins_take n (m ∷ ms) ys led token in (
      relabels file false (λ k. true) (take n (m ∷ ms)) (text (drop n (m ∷ ms)) ++ ys) along.1 (λ ns is stop. absurd cc) (λ stop. absurd cc) first,
      brings_one file false (λ k. true) (take n (m ∷ ms)) (text (drop n (m ∷ ms)) ++ ys) along.1 (λ ns is stop. absurd cc) (λ stop. absurd cc) first,
    )
loose_of file (list is c) (m ∷ ms) ys led token along = absurd led

some_begin : (ms : List Mark) (ys : List ℕ) → BeginsToken ms ys → starts (λ (m : Mark). true) ms ≡ true
some_begin [] ys token = absurd token
some_begin (m ∷ ms) ys token = refl

mutual
  pub along_flows : (file : ℕ) (st : Before) (c : Cut) (ms : List Mark) (ys : List ℕ) (end : Before) → SettlesAlong st c ms ys end → Flows (token_flow file) st c ms end
  along_flows file st done [] ys end h = ([], none_goes file (λ m. is_stop m.byte) st end ys h.2)
  along_flows file st done (m ∷ ms) ys end h = (
    brought_in file 0 st.gap (front_at st) (m ∷ ms) ys,
    part_goes file true (λ n. is_stop n.byte) st (m ∷ ms) ys end h.0 h.2 (λ ns is stop. stop_behind ns is) (λ stop. stop_of m ms ys h.1),
  )
  along_flows file st (keep n c) ms ys end h = (
    h.0,
    (
      brought_in file 0 st.gap (front_at st) (take n ms) (text (drop n ms) ++ ys),
      h.2.0,
      part_goes file false (λ m. true) st (take n ms) (text (drop n ms) ++ ys) h.2.0 h.1 h.2.1 (λ ns is stop. absurd cc) (λ stop. absurd cc),
      along_flows file h.2.0 c (drop n ms) ys end h.2.2,
    ),
  )
  along_flows file st (list is c) ms ys end h =
      (h.0, items_flow file is ms ys h.1, has_end file c (drop (span_of is) ms) h.2, along_flows file behind_token c (drop (span_of is) ms) ys end h.3)

  items_flow : (file : ℕ) (is : Items) (ms : List Mark) (ys : List ℕ) → ItemsSettle is ms ys → ItemsFlow (token_flow file) is ms
  items_flow file ended ms ys h = tt
  items_flow file (item n c gap more) ms ys h = (
    some_begin (take n ms) (text (drop n ms) ++ ys) h.1,
    h.0,
    loose_of file c (take n ms) (text (drop n ms) ++ ys) h.0 h.1 h.3,
    h.2,
    along_flows file behind_token c (take n ms) (text (drop n ms) ++ ys) behind_token h.3,
    gap_flows file gap more (drop n ms) ys h.4,
    items_flow file more (drop (n + gap) ms) ys h.5,
  )
