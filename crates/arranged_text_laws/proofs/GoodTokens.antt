-- Tokens of lists: none is odd or begins a directive line, all stand in text lines, and a line feed stands behind each odd token before.
use Rattle.std.proofs.Common.{◌≡◌, ℕ, zero, suc, ◌+◌, ◌-◌, ◌<◌, ◌≤◌, Bool, true, false, not, ◌&&◌, ◌||◌, nat_le, List, [], ◌∷◌, length, take, drop, map, Option, Some, None, codes, inl, inr, refl, sym, ap, subst, ◌∙◌, arith}
use Rattle.std.specs.Prelude.{slice_get, unwrap_or}
use Rattle.std.specs.List.{list_all, list_any}
use Rattle.std.specs.Option.{option_map, option_map_or}
use Rattle.std.specs.Str.{bytes_eq}
use Rattle.std.proofs.lemmas.Slice.Eq.{bytes_eq-Decides}
use Rattle.std.proofs.lemmas.Bool.{cases_Bool, and_parts, and_from, leb-true, leb-false, le-leb}
use Rattle.std.proofs.lemmas.List.{take-map}
use Rattle.std.proofs.lemmas.Option.{slice_get_within}
use Rattle.cs_base.specs.Token.{Token}
use Rattle.lexer.specs.Tokens.{Found, FoundToken, FoundOpen, is_hash_text, found_of, tokens_in, tokens_of, firsts_in, firsts_of, open_comment_of}
use Rattle.lexer.proofs.ScanLemmas.{firsts_of-file as firsts_of_file}
use Rattle.line_shape.specs.Signs.{is_punctuator, is_open, is_close}
use Rattle.list_cuts.specs.declared.spans.Span.{Span}
use Rattle.list_cuts.specs.Spans.{end_of}
use Rattle.arranged_text_laws.specs.Calm.{is_odd, is_shut, is_plain_at_end}
use Rattle.arranged_text_laws.specs.Weighed.{together}
use Rattle.arranged_text_laws.specs.Runs.{Placed, begins_directive, in_text, text_behind}
use Rattle.arranged_text_laws.specs.FileItems.{placed}
use Rattle.arranged_text_laws.proofs.TokenLaw.{shut_file}
use Rattle.arranged_text_laws.specs.Lists.{is_line_feed_at, line_begin, is_line_among, passes, place_of, begin_of, close_of, AreItems, ListMoves}
use Rattle.arranged_text_laws.proofs.Widened.{begin_keeps}
use Rattle.arranged_text_laws.proofs.Walk.{bare}
use Rattle.arranged_text_laws.proofs.FileWalk.{entries_of, bare_all}
use Rattle.arranged_text_laws.proofs.FileTokens.{SignAgrees, TokenAt, token_at}
use Rattle.arranged_text_laws.proofs.Bounds.{end_place, place_at, the_token, chars_widen}

-- ---- lines

line_low : (bytes : List ℕ) (k : ℕ) → line_begin bytes k ≤ k
unfolding line_begin
line_low bytes zero = omega arith
line_low bytes (suc k) = elim (cases_Bool (is_line_feed_at bytes k)) [
  | inl feed ↦ rw feed (omega arith)
  | inr on ↦ rw on (let rest = line_low bytes k in omega (arith, rest))
]

line_step : (bytes : List ℕ) (k : ℕ) → line_begin bytes k ≤ line_begin bytes (suc k)
unfolding line_begin
line_step bytes k = elim (cases_Bool (is_line_feed_at bytes k)) [
  | inl feed ↦ rw feed (let low = line_low bytes k in omega (arith, low))
  | inr on ↦ rw on (omega arith)
]

line_grows_by : (bytes : List ℕ) (k n : ℕ) → line_begin bytes k ≤ line_begin bytes (k + n)
line_grows_by bytes k zero = let same : k + 0 ≡ k = omega arith in rw same (omega arith)
line_grows_by bytes k (suc n) =
    let same : k + suc n ≡ suc (k + n) = omega arith in
    let rest = line_grows_by bytes k n in
    let step = line_step bytes (k + n) in
    rw same (omega (arith, rest, step))

pub line_grows : (bytes : List ℕ) (k m : ℕ) → k ≤ m → line_begin bytes k ≤ line_begin bytes m
line_grows bytes k m le =
    let same : k + (m - k) ≡ m = omega (arith, le) in
    subst (λ (j : ℕ). line_begin bytes k ≤ line_begin bytes j) same (line_grows_by bytes k (m - k))

same_line_by : (bytes : List ℕ) (k n : ℕ) → ((r : ℕ) → k ≤ r → r < k + n → is_line_feed_at bytes r ≡ false) → line_begin bytes (k + n) ≡ line_begin bytes k
unfolding line_begin
same_line_by bytes k zero h = let same : k + 0 ≡ k = omega arith in ap (line_begin bytes) same
same_line_by bytes k (suc n) h =
    let same : k + suc n ≡ suc (k + n) = omega arith in
    let none = h (k + n) (omega arith) (omega arith) in
    ap (line_begin bytes) same ∙ rw none (same_line_by bytes k n (λ r low high. h r low (omega (arith, high))))

-- without a line feed a line goes on
pub same_line : (bytes : List ℕ) (k m : ℕ) → k ≤ m → ((r : ℕ) → k ≤ r → r < m → is_line_feed_at bytes r ≡ false) → line_begin bytes m ≡ line_begin bytes k
same_line bytes k m le h =
    let same : k + (m - k) ≡ m = omega (arith, le) in
    ap (line_begin bytes) (sym same) ∙ same_line_by bytes k (m - k) (λ r low high. h r low (omega (arith, high, le)))

-- ---- text lines

-- by their numbers tokens say which are `#`
pub text_found : (fs : List Found) (b : Bool) (n : ℕ) → list_all is_shut fs ≡ true → ((k : ℕ) (t : Token) (first : Bool) → slice_get fs k ≡ Some (FoundToken t first) → SignAgrees t)
    → text_behind b (take n (placed (tokens_in fs) (firsts_in fs))) ≡ is_plain_at_end b (take n fs)
text_found [] b zero shut h = refl
text_found [] b (suc n) shut h = refl
text_found (FoundToken t first ∷ fs) b zero shut h = refl
text_found (FoundToken t true ∷ fs) b (suc n) shut h =
    ap (λ (s : Bool). text_behind (not s) (take n (placed (tokens_in fs) (firsts_in fs)))) (h 0 t true refl)
    ∙ text_found fs (not (is_hash_text t.text)) n shut (λ k u c there. h (suc k) u c there)
text_found (FoundToken t false ∷ fs) b (suc n) shut h = text_found fs b n shut (λ k u c there. h (suc k) u c there)
text_found (FoundOpen at ∷ fs) b n shut h = absurd cc

-- it does not matter where tokens stand
pub plain_bare : (fs : List Found) (b : Bool) → is_plain_at_end b (map bare fs) ≡ is_plain_at_end b fs
plain_bare [] b = refl
plain_bare (FoundToken t true ∷ fs) b = plain_bare fs (not (is_hash_text t.text))
plain_bare (FoundToken t false ∷ fs) b = plain_bare fs b
plain_bare (FoundOpen at ∷ fs) b = plain_bare fs b

-- behind a text line, tokens that begin no directive stand in text lines
or_none : (x y : Bool) → (x || y) ≡ false → (x ≡ false) × (y ≡ false)
or_none true y h = absurd cc
or_none false y h = (refl, h)

stays_text : (p : Placed) (b : Bool) → b ≡ true → begins_directive p ≡ false → in_text b p ≡ true
stays_text p b h none = elim (cases_Bool p.first) [
  | inl first ↦ rw first (let no_hash = rw first at none in rw no_hash refl)
  | inr not_first ↦ rw not_first h
]

no_directive : (ps : List Placed) (b : Bool) → b ≡ true → list_any begins_directive ps ≡ false → text_behind b ps ≡ true
no_directive [] b h none = h
no_directive (p ∷ ps) b h none =
    let parts = or_none (begins_directive p) (list_any begins_directive ps) none in
    no_directive ps (in_text b p) (stays_text p b h parts.0) parts.1

text_none : (b : Bool) (k : ℕ) → text_behind b (take k []) ≡ b
text_none b zero = refl
text_none b (suc k) = refl

still_text : (ps : List Placed) (i n : ℕ) (b : Bool) → text_behind b (take i ps) ≡ true → list_any begins_directive (take n (drop i ps)) ≡ false
    → text_behind b (take (i + n) ps) ≡ true
still_text ps zero n b h none = let same : 0 + n ≡ n = omega arith in rw same (no_directive (take n ps) b h none)
still_text [] (suc i) n b h none = text_none b (suc i + n) ∙ h
still_text (p ∷ ps) (suc i) n b h none =
    let same : suc i + n ≡ suc (i + n) = omega arith in
    rw same (still_text ps i n (in_text b p) h none)

any_less : (p : Placed → Bool) (n m : ℕ) (xs : List Placed) → n ≤ m → list_any p (take m xs) ≡ false → list_any p (take n xs) ≡ false
any_less p zero m xs le h = refl
any_less p (suc n) zero xs le h = absurd (omega (arith, le))
any_less p (suc n) (suc m) [] le h = refl
any_less p (suc n) (suc m) (x ∷ xs) le h =
    let parts = or_none (p x) (list_any p (take m xs)) h in
    rw (parts.0) (any_less p n m xs (omega (arith, le)) parts.1)

any_at : (p : Placed → Bool) (i n k : ℕ) (xs : List Placed) (x : Placed) → list_any p (take n (drop i xs)) ≡ false → i ≤ k → k < i + n → slice_get xs k ≡ Some x → p x ≡ false
any_at p i n k [] x h low high there = absurd cc
any_at p (suc i) n zero (y ∷ xs) x h low high there = absurd (omega (arith, low))
any_at p (suc i) n (suc k) (y ∷ xs) x h low high there = any_at p i n k xs x h (omega (arith, low)) (omega (arith, high)) there
any_at p zero zero k (y ∷ xs) x h low high there = absurd (omega (arith, high))
any_at p zero (suc n) zero (y ∷ xs) x h low high there =
    let parts = or_none (p y) (list_any p (take n xs)) h in
    ap p (sym (ap (λ (o : Option Placed). unwrap_or o x) there)) ∙ parts.0
any_at p zero (suc n) (suc k) (y ∷ xs) x h low high there =
    let parts = or_none (p y) (list_any p (take n xs)) h in
    any_at p zero n k xs x parts.1 (omega arith) (omega (arith, high)) there

-- ---- good tokens

-- Token k may stand in a list.
pub record Good (file : ℕ) (bytes : List ℕ) (k : ℕ) : Type 0 where
  pub tok : Token
  pub there : slice_get (tokens_of file bytes) k ≡ Some tok
  pub at : TokenAt file bytes k tok
  pub even : is_odd tok.kind ≡ false
  pub no_directive : (at.first && is_hash_text tok.text) ≡ false
  pub text : is_plain_at_end true (take (suc k) (together (entries_of bytes))) ≡ true
  pub alone : (j : ℕ) (t : Token) → slice_get (tokens_of file bytes) j ≡ Some t → is_odd t.kind ≡ true → t.at.at < tok.at.at
      → ((r : ℕ) → t.at.at ≤ r → r < tok.at.at → is_line_feed_at bytes r ≡ false) → ⊥

pub passed : (test : Token → Bool) (toks : List Token) (k : ℕ) → passes test toks k ≡ true → (t : Token) × (slice_get toks k ≡ Some t) × (test t ≡ true)
passed test toks k h = of_option (slice_get toks k) refl h
  where
    of_option : (o : Option Token) → slice_get toks k ≡ o → option_map_or test o false ≡ true → (t : Token) × (slice_get toks k ≡ Some t) × (test t ≡ true)
    of_option None e h = absurd cc
    of_option (Some t) e h = (t, e, h)

-- the token behind the last item
pub list_closed : (toks : List Token) (more : List Span) (s : Span) → AreItems toks (s ∷ more) → passes is_close toks (end_of s more) ≡ true
unfolding end_of
list_closed toks [] s h = h.1
list_closed toks (t ∷ more) s h = list_closed toks more t h.3

pub list_long : (toks : List Token) (more : List Span) (s : Span) → AreItems toks (s ∷ more) → s.begin < end_of s more
unfolding end_of
list_long toks [] s h = h.0.some
list_long toks (t ∷ more) s h =
    let later = list_long toks more t h.3 in
    let next = h.2 in
    let first = h.0.some in
    omega (arith, later, next, first)

within_by : (toks : List Token) (k : ℕ) (test : Token → Bool) → passes test toks k ≡ true → k < length toks
within_by toks k test h = let t = passed test toks k h in slice_get_within toks k t.0 t.1

open_no_hash : (t : Token) → is_open t ≡ true → is_hash_text t.text ≡ false
unfolding is_open
open_no_hash t h =
    let parts = and_parts (is_punctuator t.kind) (bytes_eq t.text (codes "(")) h in
    ap is_hash_text ((bytes_eq-Decides t.text (codes "(")).0 parts.1)

-- what is so of the tokens of a list
module _ (file : ℕ) (bytes : List ℕ) (none : open_comment_of bytes ≡ None) where
  pub text_at : (n : ℕ) → text_behind true (take n (placed (tokens_of file bytes) (firsts_of bytes))) ≡ true
      → is_plain_at_end true (take n (together (entries_of bytes))) ≡ true
  unfolding tokens_of
  text_at n h =
      let fs = found_of file bytes in
      let shut = shut_file file bytes none in
      let found : text_behind true (take n (placed (tokens_in fs) (firsts_in fs))) ≡ is_plain_at_end true (take n fs) =
      text_found fs true n shut (λ k t first there. (token_at file bytes none k t (tokens_there fs k t first shut there)).sign) in
      sym (plain_bare (take n (together (entries_of bytes))) true) ∙ ap (is_plain_at_end true) (sym (take-map bare n (together (entries_of bytes))))
      ∙ ap (λ (l : List Found). is_plain_at_end true (take n l)) (sym (bare_all file bytes none)) ∙ ap (is_plain_at_end true) (take-map bare n fs)
      ∙ plain_bare (take n fs) true ∙ sym found
      ∙ ap (λ (l : List Bool). text_behind true (take n (placed (tokens_in fs) l))) (firsts_of_file file bytes) ∙ h
    where
      tokens_there : (fs : List Found) (k : ℕ) (t : Token) (first : Bool) → list_all is_shut fs ≡ true → slice_get fs k ≡ Some (FoundToken t first)
          → slice_get (tokens_in fs) k ≡ Some t
      tokens_there [] k t first shut there = absurd cc
      tokens_there (FoundToken u b ∷ fs) zero t first shut there = ap (option_map (tok_in u)) there
        where
          tok_in : Token → Found → Token
          tok_in d (FoundToken v c) = v
          tok_in d (FoundOpen at) = d
      tokens_there (FoundToken u b ∷ fs) (suc k) t first shut there = tokens_there fs k t first shut there
      tokens_there (FoundOpen at ∷ fs) k t first shut there = absurd cc

  pub good : (l : List Span) → ListMoves file bytes l → (k : ℕ) → begin_of l - 1 ≤ k → k < close_of l → Good file bytes k
  good [] m k low high = absurd (m.items)
  good (s ∷ more) m k low high =
      let toks = tokens_of file bytes in
      let N = length toks in
      let ps = placed toks (firsts_of bytes) in
      let o = s.begin - 1 in
      let z = end_of s more in
      let behind : 0 < s.begin = m.behind in
      let long = list_long toks more s m.items in
      let last = within_by toks z is_close (list_closed toks more s m.items) in
      let t = the_token file bytes none k (omega (arith, high, last)) in
      let tok = t.0 in
      let w = chars_widen file bytes none in
      let place = place_at toks k tok t.1 in
      let low_place : place_of toks o ≤ place_of toks k = begin_keeps (place_of toks) (end_place toks) N w o k low (omega (arith, high, last)) in
      let high_place : place_of toks k ≤ place_of toks z = begin_keeps (place_of toks) (end_place toks) N w k z (omega (arith, high)) last in
      let among : (q : ℕ) → q ≤ place_of toks z → line_begin bytes (place_of toks o) ≤ line_begin bytes q → is_line_among bytes q (place_of toks o) (place_of toks z) ≡ true =
      λ q le lined. and_from (nat_le (line_begin bytes (place_of toks o)) (line_begin bytes q)) (nat_le (line_begin bytes q) (line_begin bytes (place_of toks z)))
      (le-leb (line_begin bytes (place_of toks o)) (line_begin bytes q) lined)
      (le-leb (line_begin bytes q) (line_begin bytes (place_of toks z)) (line_grows bytes q (place_of toks z) le)) in
      record {
        tok = tok;
        there = t.1;
        at = t.2;
        even = elim (cases_Bool (is_odd tok.kind)) [
          | inl odd ↦
              let no_such = m.even k tok t.1 odd in
              let such = among tok.at.at (rw (← place) high_place) (line_grows bytes (place_of toks o) tok.at.at (rw (← place) low_place)) in
              let nost : false ≡ true = sym no_such ∙ such in
              absurd cc
          | inr even ↦ even
        ];
        no_directive = elim (cases_Bool (nat_le s.begin k)) [
          | inl inside ↦
              let none_such = any_at begins_directive s.begin (z - s.begin) k ps (record { tok = tok; first = t.2.first }) m.plain (leb-true s.begin k inside) (omega (arith, high, long)) t.2.in_placed in
              ap (λ (h : Bool). t.2.first && h) (sym t.2.sign) ∙ none_such
          | inr before ↦
              let same : k ≡ o = let b = leb-false s.begin k before in omega (arith, low, b, behind) in
              let p = passed is_open toks o m.opens in
              let here : slice_get toks o ≡ Some tok = ap (slice_get toks) (sym same) ∙ t.1 in
              let is : p.0 ≡ tok = ap (λ (o : Option Token). unwrap_or o tok) (sym p.1 ∙ here) in
              let no_hash = ap (λ (u : Token). is_hash_text u.text) (sym is) ∙ open_no_hash p.0 p.2 in
              ap (λ (h : Bool). t.2.first && h) no_hash ∙ and_false t.2.first
        ];
        text = text_at (suc k) (elim (cases_Bool (nat_le s.begin k)) [
          | inl inside ↦
              let le = leb-true s.begin k inside in
              let all : s.begin + (suc k - s.begin) ≡ suc k = omega (arith, le) in
              subst (λ (n : ℕ). text_behind true (take n ps) ≡ true) all
              (still_text ps s.begin (suc k - s.begin) true m.text (any_less begins_directive (suc k - s.begin) (z - s.begin) (drop s.begin ps) (omega (arith, high)) m.plain))
          | inr before ↦
              let same : s.begin ≡ suc k = let b = leb-false s.begin k before in omega (arith, low, b, behind) in
              subst (λ (n : ℕ). text_behind true (take n ps) ≡ true) same m.text
        ]);
        alone = λ j u there odd below feeds.
            let one = same_line bytes u.at.at tok.at.at (omega (arith, below)) feeds in
            let low_line = line_grows bytes (place_of toks o) tok.at.at (rw (← place) low_place) in
            let such = among u.at.at (let h : tok.at.at ≤ place_of toks z = rw (← place) high_place in omega (arith, below, h)) (omega (arith, one, low_line)) in
            let nost : false ≡ true = sym (m.even j u there odd) ∙ such in
            absurd cc;
      }
    where
      and_false : (b : Bool) → (b && false) ≡ false
      and_false true = refl
      and_false false = refl
