-- What stands before and behind good tokens of a file, and how they begin and end.
use Rattle.std.proofs.Common.{◌≡◌, ℕ, zero, suc, ◌+◌, ◌<◌, ◌≤◌, Bool, true, false, not, ◌&&◌, ◌||◌, ◌==◌, nat_le, List, [], ◌∷◌, ◌++◌, length, take, drop, map, get_or, Some, None, codes, inl, inr, refl, sym, ap, subst, ◌∙◌, arith, length-drop}
use Rattle.std.specs.Prelude.{slice_get}
use Rattle.std.specs.Str.{bytes_eq}
use Rattle.std.proofs.lemmas.Bool.{cases_Bool, and_parts, or_cases, leb-true, leb-false}
use Rattle.std.proofs.lemmas.Slice.Eq.{bytes_eq-Decides}
use Rattle.std.proofs.lemmas.Option.{slice_get_within}
use Rattle.std.proofs.lemmas.List.{drop-map}
use Rattle.cs_base.specs.Token.{Token}
use Rattle.cs_base.proofs.ListLemmas.{take_at as take_suc}
use Rattle.lexer.specs.Characters.{slash, star, is_white, begins}
use Rattle.lexer.specs.Front.{front_of}
use Rattle.lexer.specs.Tokens.{Found, FoundToken, FoundOpen, is_hash_text, is_line_start, with_token, expects_header, kind_or_other, leaves_gap, line_front_after, piece_of, found_in, tokens_of, open_comment_of}
use Rattle.lexer.proofs.KindLemmas.{front_of-front}
use Rattle.line_shape.specs.Signs.{is_punctuator, is_sign, is_hash, is_open, is_comma, is_close}
use Rattle.arranged_text_laws.specs.Labels.{starts}
use Rattle.arranged_text_laws.specs.Settling.{Front, is_lone, is_stop, begins_stop, gap_behind}
use Rattle.arranged_text_laws.specs.Marks.{file_front, line_start, some_tokens, Before, before, front_at, behind_token}
use Rattle.arranged_text_laws.specs.Calm.{is_odd, is_calm, is_sign as is_sign_found, is_plain_at_end}
use Rattle.arranged_text_laws.specs.Weighed.{together, total}
use Rattle.arranged_text_laws.proofs.CalmLemmas.{IsPlain, no_header}
use Rattle.arranged_text_laws.proofs.LeadLemmas.{start_is}
use Rattle.arranged_text_laws.proofs.ViewLemmas.{Spells, feeds, whites, lines, blocks, opens, spells, view, feed_lone}
use Rattle.arranged_text_laws.specs.Lists.{passes, place_of}
use Rattle.arranged_text_laws.proofs.WeighedCut.{weight, weight_grows, total_both}
use Rattle.arranged_text_laws.proofs.Walk.{entries, bare}
use Rattle.arranged_text_laws.proofs.FileWalk.{chars_of, entries_of, weights_of}
use Rattle.arranged_text_laws.proofs.FileTokens.{TokenAt, token_at}
use Rattle.arranged_text_laws.proofs.Bounds.{end_place, place_at, end_at, begins_weigh, nexts_weigh}
use Rattle.arranged_text_laws.proofs.GoodTokens.{Good, passed}
use Rattle.arranged_text_laws.proofs.Tree.{ends_item, begins_item}
use Rattle.arranged_text_laws.proofs.PartFound.{StateAt, entries_from}
use Rattle.arranged_text_laws.proofs.Fine.{Fine, spelled_fine}

-- ---- a token of a list

plain_last : (fs : List Found) (f : Found) (b : Bool) → is_plain_at_end b (fs ++ f ∷ []) ≡ is_plain_at_end (is_plain_at_end b fs) (f ∷ [])
plain_last [] f b = refl
plain_last (FoundToken t true ∷ fs) f b = plain_last fs f (not (is_hash_text t.text))
plain_last (FoundToken t false ∷ fs) f b = plain_last fs f b
plain_last (FoundOpen at ∷ fs) f b = plain_last fs f b

abbrev first_in : Found → Bool
first_in (FoundToken t first) = first
first_in (FoundOpen at) = false

still_plain : (f : Found) (b : Bool) → first_in f ≡ false → is_plain_at_end b (f ∷ []) ≡ true → b ≡ true
still_plain (FoundToken t true) b h p = absurd cc
still_plain (FoundToken t false) b h p = p
still_plain (FoundOpen at) b h p = p

first_bare : (f : Found) → first_in (bare f) ≡ first_in f
first_bare (FoundToken t first) = refl
first_bare (FoundOpen at) = refl

-- in a text line no directive begins
pub now_plain : (file : ℕ) (bytes : List ℕ) (k : ℕ) (t : Token) (a : TokenAt file bytes k t) → is_plain_at_end true (take (suc k) (together (entries_of bytes))) ≡ true → IsPlain a.spot_of.now
now_plain file bytes k t a h =
    let s = a.spot_of in
    elim (cases_Bool (is_line_start s.now)) [
      | inl first ↦ inl (start_is s.now s.known first)
      | inr later ↦
          let E = together (entries_of bytes) in
          let whole : is_plain_at_end (is_plain_at_end true (take k E)) (a.entry ∷ []) ≡ true =
          sym (plain_last (take k E) a.entry true) ∙ ap (is_plain_at_end true) (sym (take_suc E k a.entry a.in_entries)) ∙ h in
          let not_first : first_in a.entry ≡ false = sym (first_bare a.entry) ∙ ap first_in s.is ∙ later in
          inl_or (still_plain a.entry (is_plain_at_end true (take k E)) not_first whole) s.before
    ]
  where
    inl_or : {p : Bool} {A : Type 0} → p ≡ true → (p ≡ true → A) → A
    inl_or h f = f h

plain_state : (front : Front) (gap : Bool) → IsPlain front → front ≡ front_at (before gap (is_line_start front))
unfolding file_front
plain_state front gap p = elim p [
  | inl start ↦ subst (λ (f : Front). f ≡ front_at (before gap (is_line_start f))) (sym start) refl
  | inr some ↦ subst (λ (f : Front). f ≡ front_at (before gap (is_line_start f))) (sym some) refl
]

calm_bare : (f : Found) → is_calm (bare f) ≡ is_calm f
calm_bare (FoundToken t first) = refl
calm_bare (FoundOpen at) = refl

sign_bare : (f : Found) → is_sign_found (bare f) ≡ is_sign_found f
sign_bare (FoundToken t first) = refl
sign_bare (FoundOpen at) = refl

get_here : {X : Type 0} (xs : List X) (p : ℕ) (c : X) (rest : List X) → drop p xs ≡ c ∷ rest → p < length xs
get_here xs p c rest here = let a = length-drop p xs in let b = ap length here in omega (arith, a, b)

-- What is so of a token where it begins.
pub record Facts (file : ℕ) (bytes : List ℕ) (k : ℕ) : Type 0 where
  pub c : ℕ
  pub rest : List ℕ
  pub word : ℕ
  pub here : drop (place_of (tokens_of file bytes) k) (chars_of bytes) ≡ c ∷ rest
  pub within : place_of (tokens_of file bytes) k < length (chars_of bytes)
  pub ends : end_place (tokens_of file bytes) (suc k) ≡ place_of (tokens_of file bytes) k + suc word
  pub ends_within : end_place (tokens_of file bytes) (suc k) ≤ length (chars_of bytes)
  pub tok : Token
  pub there : slice_get (tokens_of file bytes) k ≡ Some tok
  pub text : tok.text ≡ take (suc word) (c ∷ rest)
  pub dark : is_white c ≡ false
  pub gap : leaves_gap (piece_of false c rest) ≡ false
  pub front : (chars : List ℕ) (f : Front) → line_front_after chars f (piece_of false c rest) ≡ with_token (take (suc word) chars) f
  pub fine : Fine tok.text
  pub kind : tok.kind ≡ kind_or_other false tok.text
  pub spells : Spells false c rest
  pub word_is : word ≡ (front_of false c rest).1
  pub first_hash : is_hash tok ≡ is_hash_text tok.text
  pub state : Before
  pub at : StateAt bytes (place_of (tokens_of file bytes) k) state
  pub behind : StateAt bytes (end_place (tokens_of file bytes) (suc k)) behind_token
  pub entry : Found
  pub in_entries : slice_get (together (entries_of bytes)) k ≡ Some entry
  pub calm : is_calm entry ≡ true
  pub sign : is_sign_found entry ≡ starts is_lone tok.text

pub facts : (file : ℕ) (bytes : List ℕ) → open_comment_of bytes ≡ None → (k : ℕ) → Good file bytes k → Facts file bytes k
facts file bytes none k g =
    let toks = tokens_of file bytes in
    let a = g.at in
    let s = a.spot_of in
    let S = chars_of bytes in
    let plain = now_plain file bytes k g.tok a g.text in
    let header : expects_header s.now ≡ false = no_header s.now plain in
    let place : place_of toks k ≡ s.place = place_at toks k g.tok g.there ∙ a.place in
    let ends : end_place toks (suc k) ≡ s.end = end_at toks k g.tok g.there ∙ a.ends in
    let n = (front_of false s.c s.rest).1 in
    let n_is : (front_of (expects_header s.now) s.c s.rest).1 ≡ n = ap (λ (h : Bool). (front_of h s.c s.rest).1) header in
    let text : g.tok.text ≡ take (suc n) (s.c ∷ s.rest) = a.text ∙ ap (λ (m : ℕ). take (suc m) (s.c ∷ s.rest)) n_is in
    let kind : g.tok.kind ≡ kind_or_other false g.tok.text =
    a.kind ∙ ap (λ (h : Bool). (front_of h s.c s.rest).0) header ∙ sym (front_of-front false s.c s.rest).spelled ∙ ap (kind_or_other false) (sym text) in
    let gap0 = gap_behind 0 true line_start (take s.place S) (drop s.place S) in
    let st = before gap0 (is_line_start s.now) in
    let w = s.word in
    let state : StateAt bytes s.place st = record {
      within = let x = get_here S s.place s.c s.rest s.here in omega (arith, x);
      whole = s.whole;
      gap = refl;
      front = s.now_is ∙ plain_state s.now gap0 plain;
    } in
    let later : StateAt bytes s.end behind_token = record {
      within = s.within;
      whole = s.end_whole;
      gap = s.end_gap;
      front = s.behind g.text ∙ some_front;
    } in
    record {
      c = s.c;
      rest = s.rest;
      word = n;
      here = ap (λ (p : ℕ). drop p S) place ∙ s.here;
      within = rw place (get_here S s.place s.c s.rest s.here);
      ends = ends ∙ s.end_is ∙ ap (λ (m : ℕ). s.place + suc m) n_is ∙ ap (λ (p : ℕ). p + suc n) (sym place);
      ends_within = rw ends s.within;
      tok = g.tok;
      there = g.there;
      text = text;
      dark = w.dark;
      gap = ap (λ (h : Bool). leaves_gap (piece_of h s.c s.rest)) (sym header) ∙ w.gap;
      front = λ chars f. ap (λ (h : Bool). line_front_after chars f (piece_of h s.c s.rest)) (sym header) ∙ w.front chars f
          ∙ ap (λ (m : ℕ). with_token (take (suc m) chars) f) n_is;
      fine = spelled_fine g.tok.text (ap is_odd (sym kind) ∙ g.even);
      word_is = refl;
      kind = kind;
      spells = subst (λ (h : Bool). Spells h s.c s.rest) header w;
      first_hash = a.sign;
      state = st;
      at = subst (λ (p : ℕ). StateAt bytes p st) (sym place) state;
      behind = subst (λ (p : ℕ). StateAt bytes p behind_token) (sym ends) later;
      entry = a.entry;
      in_entries = a.in_entries;
      calm = sym (calm_bare a.entry) ∙ ap is_calm s.is
          ∙ ap (λ k2. not (is_odd k2) && not (is_line_start s.now && is_hash_text (take (suc (front_of (expects_header s.now) s.c s.rest).1) (s.c ∷ s.rest)))) (sym a.kind)
          ∙ ap (λ (l : List ℕ). not (is_odd g.tok.kind) && not (is_line_start s.now && is_hash_text l)) (sym a.text)
          ∙ ap (λ (b : Bool). not (is_odd g.tok.kind) && not (b && is_hash_text g.tok.text)) (sym a.first_is)
          ∙ ap (λ (b : Bool). not b && not (a.first && is_hash_text g.tok.text)) g.even ∙ ap not g.no_directive;
      sign = sym (sign_bare a.entry) ∙ ap is_sign_found s.is ∙ ap (λ (l : List ℕ). starts is_lone l) (sym a.text);
    }
  where
    some_front : some_tokens ≡ front_at behind_token
    some_front = refl

-- ---- signs

pub text_of_sign : (sign : List ℕ) (t : Token) → is_sign sign t ≡ true → t.text ≡ sign
text_of_sign sign t h = (bytes_eq-Decides t.text sign).0 (and_parts (is_punctuator t.kind) (bytes_eq t.text sign) h).1

pub ends_lone : (t : Token) → ends_item t ≡ true → starts is_lone t.text ≡ true
unfolding is_comma is_close
ends_lone t h = elim (or_cases (is_sign (codes ",") t) (is_sign (codes ")") t) h) [
  | inl comma ↦ ap (λ (l : List ℕ). starts is_lone l) (text_of_sign (codes ",") t comma)
  | inr close ↦ ap (λ (l : List ℕ). starts is_lone l) (text_of_sign (codes ")") t close)
]

pub begins_lone : (t : Token) → begins_item t ≡ true → starts is_lone t.text ≡ true
unfolding is_comma is_open
begins_lone t h = elim (or_cases (is_sign (codes "(") t) (is_sign (codes ",") t) h) [
  | inl parenthesis ↦ ap (λ (l : List ℕ). starts is_lone l) (text_of_sign (codes "(") t parenthesis)
  | inr comma ↦ ap (λ (l : List ℕ). starts is_lone l) (text_of_sign (codes ",") t comma)
]

-- ---- what stands before a sign

drop_cons : {X : Type 0} (x : ℕ) (xs : List X) → x < length xs → (c : X) × (R : List X) × (drop x xs ≡ c ∷ R)
drop_cons x [] lt = absurd (omega (arith, lt))
drop_cons zero (c ∷ xs) lt = (c, xs, refl)
drop_cons (suc x) (c ∷ xs) lt = drop_cons x xs (omega (arith, lt))

slash_stop : (c : ℕ) → (c == slash) ≡ true → is_stop c ≡ true
slash_stop c h = or_right (is_lone c) (c == slash) h
  where
    or_right : (a b : Bool) → b ≡ true → (a || b) ≡ true
    or_right true b h = refl
    or_right false b h = h

lone_stop : (c : ℕ) → is_lone c ≡ true → is_stop c ≡ true
lone_stop c h = rw h refl

white_lone : (c : ℕ) → is_white c ≡ true → is_lone c ≡ true
white_lone c h = rw h refl

-- where the next token is a sign, a stop stands first
pub stop_at : (file : ℕ) (bytes : List ℕ) → open_comment_of bytes ≡ None → (x k : ℕ) (st : Before) → StateAt bytes x st → weight (weights_of bytes) x ≡ k
    → passes ends_item (tokens_of file bytes) k ≡ true → begins_stop (drop x (chars_of bytes)) ≡ true
unfolding entries
stop_at file bytes none x k st s index sign =
    let toks = tokens_of file bytes in
    let S = chars_of bytes in
    let W = weights_of bytes in
    let p = passed ends_item toks k sign in
    let short = slice_get_within toks k p.0 p.1 in
    let a = token_at file bytes none k p.0 p.1 in
    let q = a.spot_of in
    let place : place_of toks k ≡ q.place = place_at toks k p.0 p.1 ∙ a.place in
    let begun = begins_weigh file bytes none k short in
    let nexts = nexts_weigh file bytes none k short in
    let inside : q.place < length S = get_here S q.place q.c q.rest q.here in
    let low : x ≤ place_of toks k = elim (cases_Bool (nat_le x (place_of toks k))) [
      | inl good ↦ leb-true x (place_of toks k) good
      | inr bad ↦
          let late = leb-false x (place_of toks k) bad in
          let grows = weight_grows W (suc (place_of toks k)) x (omega (arith, late)) in
          absurd (omega (arith, grows, nexts, index))
    ] in
    let d = drop_cons x S (omega (arith, low, place, inside)) in
    let c = d.0 in
    let R = d.1 in
    let F = front_at st in
    let header = expects_header F in
    let P = piece_of header c R in
    let lone : starts is_lone (take (suc (front_of (expects_header q.now) q.c q.rest).1) (q.c ∷ q.rest)) ≡ true =
    ap (λ (l : List ℕ). starts is_lone l) (sym a.text) ∙ ends_lone p.0 p.2 in
    let width : (n : ℕ) → length (found_in 0 0 st.gap F x (c ∷ R) P) ≡ suc n → weight W (suc x) ≡ suc (k + n) =
    λ n one.
    let from : drop x W ≡ map length (entries 0 st.gap F x (c ∷ R)) =
    drop-map length x (entries_of bytes) ∙ ap (map length) (entries_from bytes x st s ∙ ap (entries 0 st.gap F x) d.2) in
    let both = total_both x 1 W in
    let sum : x + 1 ≡ suc x = omega arith in
    let whole = ap (weight W) sum in
    let first : total (take 1 (drop x W)) ≡ length (found_in 0 0 st.gap F x (c ∷ R) P) + 0 = ap (λ (l : List ℕ). total (take 1 l)) from in
    omega (arith, both, whole, first, one, index) in
    let here : (n : ℕ) → length (found_in 0 0 st.gap F x (c ∷ R) P) ≡ suc n → is_stop c ≡ true =
    λ n one.
    let wide = width n one in
    let same : x ≡ q.place = elim (cases_Bool (nat_le (place_of toks k) x)) [
      | inl good ↦ let le = leb-true (place_of toks k) x good in omega (arith, low, le, place)
      | inr bad ↦
          let early = leb-false (place_of toks k) x bad in
          let grows = weight_grows W (suc x) (place_of toks k) (omega (arith, early)) in
          absurd (omega (arith, grows, begun, wide))
    ] in
    let one_char : (c ∷ R) ≡ (q.c ∷ q.rest) = sym d.2 ∙ ap (λ (n : ℕ). drop n S) same ∙ q.here in
    let is : q.c ≡ c = ap (λ (l : List ℕ). get_or l 0 0) (sym one_char) in
    lone_stop c (ap is_lone (sym is) ∙ lone) in
    ap begins_stop d.2 ∙ elim (view header c R) [
      | feeds v ↦ lone_stop c (feed_lone c v.is)
      | whites v ↦ lone_stop c (white_lone c v.is)
      | lines v ↦ slash_stop c (and_parts (c == slash) (begins slash R) v.is).0
      | blocks v ↦ slash_stop c (and_parts (c == slash) (begins star R) v.is).0
      | opens v ↦ here 0 (ap length (v.found 0 0 st.gap F x (c ∷ R)))
      | spells v ↦ here 0 (ap length (v.found 0 0 st.gap F x (c ∷ R)))
    ]
