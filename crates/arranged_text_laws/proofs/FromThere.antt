-- What is found in a part of a file from a state on: the tokens of the file that stand in it, but for labels of the first one.
use Rattle.std.proofs.Common.{◌≡◌, ℕ, suc, ◌+◌, ◌-◌, ◌<◌, ◌≤◌, Bool, true, false, not, ◌&&◌, ◌||◌, cond, List, [], ◌∷◌, ◌++◌, length, take, drop, map, get_or, inl, inr, refl, sym, ap, subst, ◌∙◌, arith}
use Rattle.std.specs.List.{list_all}
use Rattle.std.proofs.lemmas.Bool.{cases_Bool, and_parts, and_from}
use Rattle.lexer.specs.Front.{front_of}
use Rattle.lexer.specs.Tokens.{Found, FoundToken, file_token, is_hash_text, is_line_start, expects_header, piece_of, piece_length, leaves_gap, line_front_after, found_in, tokens_of}
use Rattle.arranged_text_laws.specs.Settling.{Front, has_line_feed, gap_behind, front_behind}
use Rattle.arranged_text_laws.specs.Places.{found_plain}
use Rattle.arranged_text_laws.specs.Marks.{file_front, some_tokens, Before, front_at}
use Rattle.arranged_text_laws.specs.Calm.{is_odd, is_calm, is_even, is_quiet, is_shut, ends_in_sign, is_plain_at_end, skip_behind}
use Rattle.arranged_text_laws.specs.Weighed.{together}
use Rattle.arranged_text_laws.proofs.CalmLemmas.{no_header, plain_at}
use Rattle.arranged_text_laws.proofs.ViewLemmas.{Spells}
use Rattle.arranged_text_laws.specs.Lists.{place_of}
use Rattle.arranged_text_laws.proofs.WeighedCut.{weight}
use Rattle.arranged_text_laws.proofs.Walk.{entries}
use Rattle.arranged_text_laws.proofs.FileWalk.{chars_of, entries_of, weights_of}
use Rattle.arranged_text_laws.proofs.PartFound.{flat, all_same, calm_blind, shut_blind, plain_same, ends_same, quiet_from, StateAt, Behind, states_behind, seg, seg_rest, entries_from, part_found}
use Rattle.arranged_text_laws.proofs.TokenFacts.{Facts}

-- what is so of these is so of those
pub record Alike (fs gs : List Found) : Type 0 where
  pub shut : list_all is_shut gs ≡ true → list_all is_shut fs ≡ true
  pub calm : list_all is_calm gs ≡ true → list_all is_calm fs ≡ true
  pub plain : is_plain_at_end true gs ≡ true → is_plain_at_end true fs ≡ true
  pub ends : ends_in_sign gs ≡ true → ends_in_sign fs ≡ true

alike_flat : (fs gs : List Found) → map flat fs ≡ map flat gs → Alike fs gs
alike_flat fs gs h = record {
  shut = all_same is_shut shut_blind fs gs h;
  calm = all_same is_calm calm_blind fs gs h;
  plain = plain_same fs gs true h;
  ends = ends_same fs gs h;
}

abbrev pub found_part : List ℕ → Before → ℕ → ℕ → List Found
found_part bytes st x z = found_plain 0 st.gap (front_at st) 0 (seg (chars_of bytes) x z) (drop z (chars_of bytes))

-- From a state on, at character x, before which i tokens begin, each part is as it is in the file.
pub record From (bytes : List ℕ) (x i : ℕ) (st : Before) : Type 0 where
  pub behind : (z : ℕ) (end : Before) → x < z → StateAt bytes z end → Behind bytes x z st end
  pub found : (z j : ℕ) → x < z → z ≤ length (chars_of bytes) → weight (weights_of bytes) z ≡ j → Alike (found_part bytes st x z) (take (j - i) (drop i (together (entries_of bytes))))
  pub quiet : (z : ℕ) → x < z → ((p : ℕ) → p < length (seg (chars_of bytes) x z) → list_all is_even (get_or (drop x (entries_of bytes)) p []) ≡ false
      → has_line_feed (drop (suc p) (seg (chars_of bytes) x z)) ≡ true) → is_quiet 0 st.gap (front_at st) (seg (chars_of bytes) x z) (drop z (chars_of bytes)) ≡ true

pub from_state : (bytes : List ℕ) (x i : ℕ) (st : Before) → StateAt bytes x st → weight (weights_of bytes) x ≡ i → From bytes x i st
from_state bytes x i st s index = record {
  behind = λ z end lt e. states_behind bytes x z st end (omega (arith, lt)) s e;
  found = λ z j lt within last. alike_flat (found_part bytes st x z) (take (j - i) (drop i (together (entries_of bytes)))) (part_found bytes x z i j st s (omega (arith, lt)) within index last);
  quiet = λ z lt h. quiet_from 0 st.gap (front_at st) x (seg (chars_of bytes) x z) (drop z (chars_of bytes))
      (λ p few odd. h p few (ap (λ (l : List (List Found)). list_all is_even (get_or l p []))
      (entries_from bytes x st s ∙ ap (entries 0 st.gap (front_at st) x) (sym (seg_rest (chars_of bytes) x z (omega (arith, lt))))) ∙ odd));
}

-- ---- where a token begins

-- the first token, and the rest
abbrev one_found : ℕ → List ℕ → Before → Found
one_found c R st = FoundToken (file_token 0 0 st.gap 0 (front_of false c R).0 (take (suc (front_of false c R).1) (c ∷ R))) (is_line_start (front_at st))

-- a state before a token that begins no directive
record Restarts (c : ℕ) (R : List ℕ) (st : Before) : Type 0 where
  header : expects_header (front_at st) ≡ false
  token : line_front_after (c ∷ R) (front_at st) (piece_of false c R) ≡ some_tokens

restarts : (c : ℕ) (R : List ℕ) (st : Before) → Spells false c R → is_hash_text (take (suc (front_of false c R).1) (c ∷ R)) ≡ false → Restarts c R st
unfolding file_front
restarts c R st w no_hash = record {
  header = no_header (front_at st) (plain_at st);
  token = w.front (c ∷ R) (front_at st) ∙ elim (cases_Bool st.first) [
    | inl first ↦ rw (first, no_hash) refl
    | inr later ↦ rw later refl
  ];
}

skip_first : (c : ℕ) (R xs ys : List ℕ) (st : Before) → Restarts c R st → xs ++ ys ≡ R
    → skip_behind 0 (front_at st) (c ∷ xs) ys ≡ skip_behind (piece_length 0 (piece_of false c R) - 1) some_tokens xs ys
unfolding skip_behind
skip_first c R xs ys st r e =
    ap (λ (h : Bool). skip_behind (piece_length 0 (piece_of h c (xs ++ ys)) - 1) (line_front_after (c ∷ (xs ++ ys)) (front_at st) (piece_of h c (xs ++ ys))) xs ys) r.header
    ∙ ap (λ (l : List ℕ). skip_behind (piece_length 0 (piece_of false c l) - 1) (line_front_after (c ∷ l) (front_at st) (piece_of false c l)) xs ys) e
    ∙ ap (λ (f : Front). skip_behind (piece_length 0 (piece_of false c R) - 1) f xs ys) r.token

gap_first : (c : ℕ) (R xs ys : List ℕ) (st : Before) → Restarts c R st → xs ++ ys ≡ R
    → gap_behind 0 st.gap (front_at st) (c ∷ xs) ys ≡ gap_behind (piece_length 0 (piece_of false c R) - 1) (leaves_gap (piece_of false c R)) some_tokens xs ys
unfolding gap_behind
gap_first c R xs ys st r e =
    ap (λ (h : Bool). gap_behind (piece_length 0 (piece_of h c (xs ++ ys)) - 1) (leaves_gap (piece_of h c (xs ++ ys)))
    (line_front_after (c ∷ (xs ++ ys)) (front_at st) (piece_of h c (xs ++ ys))) xs ys) r.header
    ∙ ap (λ (l : List ℕ). gap_behind (piece_length 0 (piece_of false c l) - 1) (leaves_gap (piece_of false c l)) (line_front_after (c ∷ l) (front_at st) (piece_of false c l)) xs ys) e
    ∙ ap (λ (f : Front). gap_behind (piece_length 0 (piece_of false c R) - 1) (leaves_gap (piece_of false c R)) f xs ys) r.token

front_first : (c : ℕ) (R xs ys : List ℕ) (st : Before) → Restarts c R st → xs ++ ys ≡ R
    → front_behind 0 (front_at st) (c ∷ xs) ys ≡ front_behind (piece_length 0 (piece_of false c R) - 1) some_tokens xs ys
unfolding front_behind
front_first c R xs ys st r e =
    ap (λ (h : Bool). front_behind (piece_length 0 (piece_of h c (xs ++ ys)) - 1) (line_front_after (c ∷ (xs ++ ys)) (front_at st) (piece_of h c (xs ++ ys))) xs ys) r.header
    ∙ ap (λ (l : List ℕ). front_behind (piece_length 0 (piece_of false c l) - 1) (line_front_after (c ∷ l) (front_at st) (piece_of false c l)) xs ys) e
    ∙ ap (λ (f : Front). front_behind (piece_length 0 (piece_of false c R) - 1) f xs ys) r.token

found_first : (c : ℕ) (R xs ys : List ℕ) (st : Before) → Spells false c R → Restarts c R st → xs ++ ys ≡ R
    → found_plain 0 st.gap (front_at st) 0 (c ∷ xs) ys
    ≡ one_found c R st ∷ found_plain (piece_length 0 (piece_of false c R) - 1) (leaves_gap (piece_of false c R)) some_tokens (0 + 1) xs ys
unfolding found_plain
found_first c R xs ys st w r e =
    ap (λ (h : Bool). found_in 0 0 st.gap (front_at st) 0 (c ∷ (xs ++ ys)) (piece_of h c (xs ++ ys))
    ++ found_plain (piece_length 0 (piece_of h c (xs ++ ys)) - 1) (leaves_gap (piece_of h c (xs ++ ys)))
    (line_front_after (c ∷ (xs ++ ys)) (front_at st) (piece_of h c (xs ++ ys))) (0 + 1) xs ys) r.header
    ∙ ap (λ (l : List ℕ). found_in 0 0 st.gap (front_at st) 0 (c ∷ l) (piece_of false c l)
    ++ found_plain (piece_length 0 (piece_of false c l) - 1) (leaves_gap (piece_of false c l)) (line_front_after (c ∷ l) (front_at st) (piece_of false c l)) (0 + 1) xs ys) e
    ∙ ap (λ (f : Front). found_in 0 0 st.gap (front_at st) 0 (c ∷ R) (piece_of false c R)
    ++ found_plain (piece_length 0 (piece_of false c R) - 1) (leaves_gap (piece_of false c R)) f (0 + 1) xs ys) r.token
    ∙ ap (λ (l : List Found). l ++ found_plain (piece_length 0 (piece_of false c R) - 1) (leaves_gap (piece_of false c R)) some_tokens (0 + 1) xs ys)
    (w.found 0 0 st.gap (front_at st) 0 (c ∷ R))

quiet_first : (c : ℕ) (R xs ys : List ℕ) (st : Before) → Spells false c R → Restarts c R st → xs ++ ys ≡ R
    → is_quiet 0 st.gap (front_at st) (c ∷ xs) ys
    ≡ ((has_line_feed xs || (not (is_odd (front_of false c R).0) && true))
    && is_quiet (piece_length 0 (piece_of false c R) - 1) (leaves_gap (piece_of false c R)) some_tokens xs ys)
unfolding is_quiet
quiet_first c R xs ys st w r e =
    ap (λ (h : Bool). (has_line_feed xs || list_all is_even (found_in 0 0 st.gap (front_at st) 0 (c ∷ (xs ++ ys)) (piece_of h c (xs ++ ys))))
    && is_quiet (piece_length 0 (piece_of h c (xs ++ ys)) - 1) (leaves_gap (piece_of h c (xs ++ ys)))
    (line_front_after (c ∷ (xs ++ ys)) (front_at st) (piece_of h c (xs ++ ys))) xs ys) r.header
    ∙ ap (λ (l : List ℕ). (has_line_feed xs || list_all is_even (found_in 0 0 st.gap (front_at st) 0 (c ∷ l) (piece_of false c l)))
    && is_quiet (piece_length 0 (piece_of false c l) - 1) (leaves_gap (piece_of false c l)) (line_front_after (c ∷ l) (front_at st) (piece_of false c l)) xs ys) e
    ∙ ap (λ (f : Front). (has_line_feed xs || list_all is_even (found_in 0 0 st.gap (front_at st) 0 (c ∷ R) (piece_of false c R)))
    && is_quiet (piece_length 0 (piece_of false c R) - 1) (leaves_gap (piece_of false c R)) f xs ys) r.token
    ∙ ap (λ (l : List Found). (has_line_feed xs || list_all is_even l)
    && is_quiet (piece_length 0 (piece_of false c R) - 1) (leaves_gap (piece_of false c R)) some_tokens xs ys) (w.found 0 0 st.gap (front_at st) 0 (c ∷ R))

one_calm : (c : ℕ) (R : List ℕ) (st other : Before) → is_hash_text (take (suc (front_of false c R).1) (c ∷ R)) ≡ false → is_calm (one_found c R st) ≡ true → is_calm (one_found c R other) ≡ true
one_calm c R st other no_hash h =
    let K = (front_of false c R).0 in
    let p = and_parts (not (is_odd K)) (not (is_line_start (front_at st) && is_hash_text (take (suc (front_of false c R).1) (c ∷ R)))) h in
    and_from (not (is_odd K)) (not (is_line_start (front_at other) && is_hash_text (take (suc (front_of false c R).1) (c ∷ R)))) p.0
    (rw no_hash (not_and (is_line_start (front_at other))))
  where
    not_and : (b : Bool) → not (b && false) ≡ true
    not_and true = refl
    not_and false = refl

plain_one : (text : List ℕ) (b : Bool) (L : List Found) → is_hash_text text ≡ false → is_plain_at_end (cond b (not (is_hash_text text)) true) L ≡ true → is_plain_at_end true L ≡ true
plain_one text true L no_hash h = rw no_hash at h
plain_one text false L no_hash h = h

plain_any : (text : List ℕ) (b : Bool) (L : List Found) → is_hash_text text ≡ false → is_plain_at_end true L ≡ true → is_plain_at_end (cond b (not (is_hash_text text)) true) L ≡ true
plain_any text true L no_hash h = rw no_hash h
plain_any text false L no_hash h = h

one_plain : (c : ℕ) (R : List ℕ) (st other : Before) → is_hash_text (take (suc (front_of false c R).1) (c ∷ R)) ≡ false → (L : List Found)
    → is_plain_at_end true (one_found c R st ∷ L) ≡ true → is_plain_at_end true (one_found c R other ∷ L) ≡ true
one_plain c R st other no_hash L h =
    plain_any (take (suc (front_of false c R).1) (c ∷ R)) (is_line_start (front_at other)) L no_hash
    (plain_one (take (suc (front_of false c R).1) (c ∷ R)) (is_line_start (front_at st)) L no_hash h)

one_ends : (c : ℕ) (R : List ℕ) (st other : Before) (L : List Found) → ends_in_sign (one_found c R st ∷ L) ≡ true → ends_in_sign (one_found c R other ∷ L) ≡ true
one_ends c R st other [] h = h
one_ends c R st other (f ∷ L) h = h

-- two states before such a token say the same of all but its labels
alike_first : (c : ℕ) (R xs ys : List ℕ) (st other : Before) → Spells false c R → is_hash_text (take (suc (front_of false c R).1) (c ∷ R)) ≡ false → xs ++ ys ≡ R
    → (gs : List Found) → Alike (found_plain 0 st.gap (front_at st) 0 (c ∷ xs) ys) gs → Alike (found_plain 0 other.gap (front_at other) 0 (c ∷ xs) ys) gs
alike_first c R xs ys st other w no_hash e gs a =
    let r = restarts c R st w no_hash in
    let r2 = restarts c R other w no_hash in
    let old = found_first c R xs ys st w r e in
    let new = found_first c R xs ys other w r2 e in
    let L = found_plain (piece_length 0 (piece_of false c R) - 1) (leaves_gap (piece_of false c R)) some_tokens (0 + 1) xs ys in
    record {
      shut = λ h. ap (list_all is_shut) new ∙ ap (list_all is_shut) (sym old) ∙ a.shut h;
      calm = λ h.
          let p = and_parts (is_calm (one_found c R st)) (list_all is_calm L) (ap (list_all is_calm) (sym old) ∙ a.calm h) in
          ap (list_all is_calm) new ∙ and_from (is_calm (one_found c R other)) (list_all is_calm L) (one_calm c R st other no_hash p.0) p.1;
      plain = λ h. ap (is_plain_at_end true) new ∙ one_plain c R st other no_hash L (ap (is_plain_at_end true) (sym old) ∙ a.plain h);
      ends = λ h. ap ends_in_sign new ∙ one_ends c R st other L (ap ends_in_sign (sym old) ∙ a.ends h);
    }

seg_cons : (S : List ℕ) (x z c : ℕ) (R : List ℕ) → x < z → drop x S ≡ c ∷ R → (xs : List ℕ) × (seg S x z ≡ c ∷ xs) × (xs ++ drop z S ≡ R)
seg_cons S x z c R lt here =
    let n = z - x - 1 in
    let same : z - x ≡ suc n = omega (arith, lt) in
    let cut : seg S x z ≡ c ∷ take n R = ap (λ (m : ℕ). take m (drop x S)) same ∙ ap (take (suc n)) here in
    let whole : (c ∷ (take n R ++ drop z S)) ≡ (c ∷ R) = ap (λ (l : List ℕ). l ++ drop z S) (sym cut) ∙ seg_rest S x z (omega (arith, lt)) ∙ here in
    (take n R, cut, ap (λ (l : List ℕ). drop 1 l) whole)

-- From a token on that begins no directive, it does not matter what stands before it.
pub from_token : (file : ℕ) (bytes : List ℕ) (k : ℕ) (f : Facts file bytes k) (other : Before) → is_hash_text f.tok.text ≡ false → weight (weights_of bytes) (place_of (tokens_of file bytes) k) ≡ k
    → From bytes (place_of (tokens_of file bytes) k) k other
from_token file bytes k f other no_hash index =
    let S = chars_of bytes in
    let x = place_of (tokens_of file bytes) k in
    let real = from_state bytes x k f.state f.at index in
    let hash : is_hash_text (take (suc (front_of false f.c f.rest).1) (f.c ∷ f.rest)) ≡ false = ap is_hash_text (sym (f.text ∙ ap (λ (n : ℕ). take (suc n) (f.c ∷ f.rest)) f.word_is)) ∙ no_hash in
    let r = restarts f.c f.rest f.state f.spells hash in
    let r2 = restarts f.c f.rest other f.spells hash in
    record {
      behind = λ z end lt e.
          let s = seg_cons S x z f.c f.rest lt f.here in
          let b = real.behind z end lt e in
          record {
            whole = ap (λ (l : List ℕ). skip_behind 0 (front_at other) l (drop z S)) s.1 ∙ skip_first f.c f.rest s.0 (drop z S) other r2 s.2
                ∙ sym (ap (λ (l : List ℕ). skip_behind 0 (front_at f.state) l (drop z S)) s.1 ∙ skip_first f.c f.rest s.0 (drop z S) f.state r s.2) ∙ b.whole;
            gap = ap (λ (l : List ℕ). gap_behind 0 other.gap (front_at other) l (drop z S)) s.1 ∙ gap_first f.c f.rest s.0 (drop z S) other r2 s.2
                ∙ sym (ap (λ (l : List ℕ). gap_behind 0 f.state.gap (front_at f.state) l (drop z S)) s.1 ∙ gap_first f.c f.rest s.0 (drop z S) f.state r s.2) ∙ b.gap;
            front = ap (λ (l : List ℕ). front_behind 0 (front_at other) l (drop z S)) s.1 ∙ front_first f.c f.rest s.0 (drop z S) other r2 s.2
                ∙ sym (ap (λ (l : List ℕ). front_behind 0 (front_at f.state) l (drop z S)) s.1 ∙ front_first f.c f.rest s.0 (drop z S) f.state r s.2) ∙ b.front;
          };
      found = λ z j lt within last.
          let s = seg_cons S x z f.c f.rest lt f.here in
          let gs = take (j - k) (drop k (together (entries_of bytes))) in
          let a = subst (λ (l : List ℕ). Alike (found_plain 0 f.state.gap (front_at f.state) 0 l (drop z S)) gs) s.1 (real.found z j lt within last) in
          subst (λ (l : List ℕ). Alike (found_plain 0 other.gap (front_at other) 0 l (drop z S)) gs) (sym s.1)
          (alike_first f.c f.rest s.0 (drop z S) f.state other f.spells hash s.2 gs a);
      quiet = λ z lt h.
          let s = seg_cons S x z f.c f.rest lt f.here in
          ap (λ (l : List ℕ). is_quiet 0 other.gap (front_at other) l (drop z S)) s.1 ∙ quiet_first f.c f.rest s.0 (drop z S) other f.spells r2 s.2
          ∙ sym (ap (λ (l : List ℕ). is_quiet 0 f.state.gap (front_at f.state) l (drop z S)) s.1 ∙ quiet_first f.c f.rest s.0 (drop z S) f.state f.spells r s.2)
          ∙ real.quiet z lt h;
    }
