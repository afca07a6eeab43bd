-- The characters of a file one by one: what each of them begins, and what stands before it.
use Rattle.std.proofs.Common.{◌≡◌, ℕ, zero, suc, ◌+◌, ◌-◌, ◌≤◌, Bool, true, false, not, cond, List, [], ◌∷◌, ◌++◌, length, take, drop, map, Option, Some, inl, inr, refl, sym, ap, subst, ◌∙◌, arith, take-append-drop, append_assoc}
use Rattle.std.specs.Prelude.{slice_get, unwrap_or}
use Rattle.std.specs.List.{list_all}
use Rattle.std.proofs.lemmas.Bool.{cases_Bool}
use Rattle.cs_base.specs.Token.{Token}
use Rattle.lexer.specs.Front.{front_of}
use Rattle.lexer.specs.Tokens.{Found, FoundToken, FoundOpen, file_token, is_hash_text, with_token, is_line_start, expects_header, piece_of, piece_length, leaves_gap, line_front_after, found_in}
use Rattle.lexer.proofs.KindLemmas.{front_of-front}
use Rattle.arranged_text_laws.specs.Settling.{Front, gap_behind, front_behind}
use Rattle.arranged_text_laws.specs.Places.{found_plain}
use Rattle.arranged_text_laws.specs.Marks.{file_front, some_tokens}
use Rattle.arranged_text_laws.specs.Calm.{is_shut, is_plain_at_end, skip_behind}
use Rattle.arranged_text_laws.specs.Weighed.{together}
use Rattle.arranged_text_laws.proofs.CalmLemmas.{IsPlain, all_append}
use Rattle.arranged_text_laws.proofs.LeadLemmas.{IsKnown, known_after, start_is}
use Rattle.arranged_text_laws.proofs.ViewLemmas.{Spells, feeds, whites, lines, blocks, opens, spells, view}
use Rattle.arranged_text_laws.proofs.WeighedCut.{weight}

-- for each character what is found where it begins a piece, without file and line, and nothing where it does not
unfoldable pub entries : ℕ → Bool → Front → ℕ → List ℕ → List (List Found)
entries skip gap front at [] = []
entries (suc skip) gap front at (c ∷ cs) = [] ∷ entries skip gap front (at + 1) cs
entries zero gap front at (c ∷ cs) =
    found_in 0 0 gap front at (c ∷ cs) (piece_of (expects_header front) c cs)
    ∷ entries (piece_length 0 (piece_of (expects_header front) c cs) - 1) (leaves_gap (piece_of (expects_header front) c cs))
    (line_front_after (c ∷ cs) front (piece_of (expects_header front) c cs)) (at + 1) cs

-- ---- parts of the text

pub drop_entries : (skip : ℕ) (gap : Bool) (front : Front) (at : ℕ) (xs ys : List ℕ)
    → drop (length xs) (entries skip gap front at (xs ++ ys))
    ≡ entries (skip_behind skip front xs ys) (gap_behind skip gap front xs ys) (front_behind skip front xs ys) (at + length xs) ys
unfolding entries skip_behind gap_behind front_behind
drop_entries skip gap front at [] ys = let same : at ≡ at + 0 = omega arith in ap (λ (k : ℕ). entries skip gap front k ys) same
drop_entries (suc skip) gap front at (c ∷ xs) ys =
    let same : at + 1 + length xs ≡ at + suc (length xs) = omega arith in
    drop_entries skip gap front (at + 1) xs ys
    ∙ ap (λ (k : ℕ). entries (skip_behind skip front xs ys) (gap_behind skip gap front xs ys) (front_behind skip front xs ys) k ys) same
drop_entries zero gap front at (c ∷ xs) ys =
    let P = piece_of (expects_header front) c (xs ++ ys) in
    let s = piece_length 0 P - 1 in
    let f = line_front_after (c ∷ (xs ++ ys)) front P in
    let same : at + 1 + length xs ≡ at + suc (length xs) = omega arith in
    drop_entries s (leaves_gap P) f (at + 1) xs ys
    ∙ ap (λ (k : ℕ). entries (skip_behind s f xs ys) (gap_behind s (leaves_gap P) f xs ys) (front_behind s f xs ys) k ys) same

pub take_entries : (skip : ℕ) (gap : Bool) (front : Front) (at : ℕ) (xs ys : List ℕ)
    → together (take (length xs) (entries skip gap front at (xs ++ ys))) ≡ found_plain skip gap front at xs ys
unfolding entries found_plain
take_entries skip gap front at [] ys = refl
take_entries (suc skip) gap front at (c ∷ xs) ys = take_entries skip gap front (at + 1) xs ys
take_entries zero gap front at (c ∷ xs) ys =
    let P = piece_of (expects_header front) c (xs ++ ys) in
    ap (λ (l : List Found). found_in 0 0 gap front at (c ∷ (xs ++ ys)) P ++ l)
    (take_entries (piece_length 0 P - 1) (leaves_gap P) (line_front_after (c ∷ (xs ++ ys)) front P) (at + 1) xs ys)

pub skip_parts : (skip : ℕ) (front : Front) (xs ys zs : List ℕ)
    → skip_behind skip front (xs ++ ys) zs ≡ skip_behind (skip_behind skip front xs (ys ++ zs)) (front_behind skip front xs (ys ++ zs)) ys zs
unfolding skip_behind front_behind
skip_parts skip front [] ys zs = refl
skip_parts (suc skip) front (c ∷ xs) ys zs = skip_parts skip front xs ys zs
skip_parts zero front (c ∷ xs) ys zs =
    ap (λ (l : List ℕ). skip_behind (piece_length 0 (piece_of (expects_header front) c l) - 1) (line_front_after (c ∷ l) front (piece_of (expects_header front) c l)) (xs ++ ys) zs)
    (append_assoc xs ys zs)
    ∙ skip_parts (piece_length 0 (piece_of (expects_header front) c (xs ++ (ys ++ zs))) - 1)
    (line_front_after (c ∷ (xs ++ (ys ++ zs))) front (piece_of (expects_header front) c (xs ++ (ys ++ zs)))) xs ys zs

pub gap_parts : (skip : ℕ) (gap : Bool) (front : Front) (xs ys zs : List ℕ)
    → gap_behind skip gap front (xs ++ ys) zs
    ≡ gap_behind (skip_behind skip front xs (ys ++ zs)) (gap_behind skip gap front xs (ys ++ zs)) (front_behind skip front xs (ys ++ zs)) ys zs
unfolding skip_behind gap_behind front_behind
gap_parts skip gap front [] ys zs = refl
gap_parts (suc skip) gap front (c ∷ xs) ys zs = gap_parts skip gap front xs ys zs
gap_parts zero gap front (c ∷ xs) ys zs =
    ap (λ (l : List ℕ). gap_behind (piece_length 0 (piece_of (expects_header front) c l) - 1) (leaves_gap (piece_of (expects_header front) c l))
    (line_front_after (c ∷ l) front (piece_of (expects_header front) c l)) (xs ++ ys) zs) (append_assoc xs ys zs)
    ∙ gap_parts (piece_length 0 (piece_of (expects_header front) c (xs ++ (ys ++ zs))) - 1) (leaves_gap (piece_of (expects_header front) c (xs ++ (ys ++ zs))))
    (line_front_after (c ∷ (xs ++ (ys ++ zs))) front (piece_of (expects_header front) c (xs ++ (ys ++ zs)))) xs ys zs

pub front_parts : (skip : ℕ) (front : Front) (xs ys zs : List ℕ)
    → front_behind skip front (xs ++ ys) zs ≡ front_behind (skip_behind skip front xs (ys ++ zs)) (front_behind skip front xs (ys ++ zs)) ys zs
unfolding skip_behind front_behind
front_parts skip front [] ys zs = refl
front_parts (suc skip) front (c ∷ xs) ys zs = front_parts skip front xs ys zs
front_parts zero front (c ∷ xs) ys zs =
    ap (λ (l : List ℕ). front_behind (piece_length 0 (piece_of (expects_header front) c l) - 1) (line_front_after (c ∷ l) front (piece_of (expects_header front) c l)) (xs ++ ys) zs)
    (append_assoc xs ys zs)
    ∙ front_parts (piece_length 0 (piece_of (expects_header front) c (xs ++ (ys ++ zs))) - 1)
    (line_front_after (c ∷ (xs ++ (ys ++ zs))) front (piece_of (expects_header front) c (xs ++ (ys ++ zs)))) xs ys zs

-- ---- inside a piece

skip_inside : (n : ℕ) (front : Front) (cs : List ℕ) → n ≤ length cs → skip_behind n front (take n cs) (drop n cs) ≡ 0
unfolding skip_behind
skip_inside zero front cs le = refl
skip_inside (suc n) front [] le = absurd (omega (arith, le))
skip_inside (suc n) front (c ∷ cs) le = skip_inside n front cs (omega (arith, le))

gap_inside : (n : ℕ) (gap : Bool) (front : Front) (cs : List ℕ) → n ≤ length cs → gap_behind n gap front (take n cs) (drop n cs) ≡ gap
unfolding gap_behind
gap_inside zero gap front cs le = refl
gap_inside (suc n) gap front [] le = absurd (omega (arith, le))
gap_inside (suc n) gap front (c ∷ cs) le = gap_inside n gap front cs (omega (arith, le))

front_inside : (n : ℕ) (front : Front) (cs : List ℕ) → n ≤ length cs → front_behind n front (take n cs) (drop n cs) ≡ front
unfolding front_behind
front_inside zero front cs le = refl
front_inside (suc n) front [] le = absurd (omega (arith, le))
front_inside (suc n) front (c ∷ cs) le = front_inside n front cs (omega (arith, le))

weight_inside : (n : ℕ) (gap : Bool) (front : Front) (at : ℕ) (cs : List ℕ) → weight (map length (entries n gap front at cs)) n ≡ 0
unfolding entries
weight_inside zero gap front at cs = refl
weight_inside (suc n) gap front at [] = refl
weight_inside (suc n) gap front at (c ∷ cs) = let rest = weight_inside n gap front (at + 1) cs in omega (arith, rest)

-- ---- the place of a token

-- what is found, without its file, its line, and white space before it
abbrev pub bare : Found → Found
bare (FoundToken t first) = FoundToken (file_token 0 0 false t.at.at t.kind t.text) first
bare (FoundOpen at) = FoundOpen at

-- Token k of a text: where it begins and ends, and what stands before it and behind it.
pub record Spot (skip : ℕ) (gap : Bool) (front : Front) (at : ℕ) (plain : Bool) (cs : List ℕ) (k : ℕ) (f : Found) : Type 0 where
  pub place : ℕ
  pub end : ℕ
  pub c : ℕ
  pub rest : List ℕ
  pub now : Front
  pub here : drop place cs ≡ c ∷ rest
  pub end_is : end ≡ place + suc (front_of (expects_header now) c rest).1
  pub within : end ≤ length cs
  pub known : IsKnown now
  pub whole : skip_behind skip front (take place cs) (drop place cs) ≡ 0
  pub now_is : front_behind skip front (take place cs) (drop place cs) ≡ now
  pub index : weight (map length (entries skip gap front at cs)) place ≡ k
  pub next : weight (map length (entries skip gap front at cs)) (suc place) ≡ suc k
  pub word : Spells (expects_header now) c rest
  pub is : bare f ≡ FoundToken (file_token 0 0 false (at + place) (front_of (expects_header now) c rest).0 (take (suc (front_of (expects_header now) c rest).1) (c ∷ rest))) (is_line_start now)
  pub end_whole : skip_behind skip front (take end cs) (drop end cs) ≡ 0
  pub end_gap : gap_behind skip gap front (take end cs) (drop end cs) ≡ false
  pub end_front : front_behind skip front (take end cs) (drop end cs) ≡ with_token (take (suc (front_of (expects_header now) c rest).1) (c ∷ rest)) now
  pub end_index : weight (map length (entries skip gap front at cs)) end ≡ suc k
  pub before : is_plain_at_end plain (take k (together (entries skip gap front at cs))) ≡ true → IsPlain now
  pub behind : is_plain_at_end plain (take (suc k) (together (entries skip gap front at cs))) ≡ true
      → front_behind skip front (take end cs) (drop end cs) ≡ some_tokens
  pub start : k ≡ 0 → is_line_start front ≡ true → is_line_start now ≡ true

-- one character more before it
later : (skip : ℕ) (gap : Bool) (front : Front) (at : ℕ) (plain : Bool) (c : ℕ) (cs : List ℕ) (s : ℕ) (g : Bool) (f2 : Front) (plain2 : Bool) (here : List Found) (k : ℕ) (f : Found)
    → ((xs ys : List ℕ) → xs ++ ys ≡ cs → skip_behind skip front (c ∷ xs) ys ≡ skip_behind s f2 xs ys)
    → ((xs ys : List ℕ) → xs ++ ys ≡ cs → gap_behind skip gap front (c ∷ xs) ys ≡ gap_behind s g f2 xs ys)
    → ((xs ys : List ℕ) → xs ++ ys ≡ cs → front_behind skip front (c ∷ xs) ys ≡ front_behind s f2 xs ys)
    → entries skip gap front at (c ∷ cs) ≡ here ∷ entries s g f2 (at + 1) cs
    → ((j : ℕ) → is_plain_at_end plain (take (length here + j) (here ++ together (entries s g f2 (at + 1) cs))) ≡ is_plain_at_end plain2 (take j (together (entries s g f2 (at + 1) cs))))
    → (length here + k ≡ 0 → is_line_start front ≡ true → is_line_start f2 ≡ true) → Spot s g f2 (at + 1) plain2 cs k f → Spot skip gap front at plain (c ∷ cs) (length here + k) f
later skip gap front at plain c cs s g f2 plain2 here k f skips gaps fronts made ends begun p =
    let whole = take-append-drop p.place cs in
    let whole2 = take-append-drop p.end cs in
    let a = p.index in
    let b = p.next in
    let e = p.end_index in
    let on : at + 1 + p.place ≡ at + suc p.place = omega arith in
    let more : suc (length here + k) ≡ length here + suc k = omega arith in
    record {
      place = suc p.place;
      end = suc p.end;
      c = p.c;
      rest = p.rest;
      now = p.now;
      here = p.here;
      end_is = let x = p.end_is in omega (arith, x);
      within = let x = p.within in omega (arith, x);
      known = p.known;
      whole = skips (take p.place cs) (drop p.place cs) whole ∙ p.whole;
      now_is = fronts (take p.place cs) (drop p.place cs) whole ∙ p.now_is;
      index = rw made (ap (λ (t : ℕ). length here + t) a);
      next = rw made (ap (λ (t : ℕ). length here + t) b ∙ sym more);
      word = p.word;
      is = p.is ∙ ap (λ (t : ℕ). FoundToken (file_token 0 0 false t (front_of (expects_header p.now) p.c p.rest).0 (take (suc (front_of (expects_header p.now) p.c p.rest).1) (p.c ∷ p.rest))) (is_line_start p.now)) on;
      end_whole = skips (take p.end cs) (drop p.end cs) whole2 ∙ p.end_whole;
      end_gap = gaps (take p.end cs) (drop p.end cs) whole2 ∙ p.end_gap;
      end_front = fronts (take p.end cs) (drop p.end cs) whole2 ∙ p.end_front;
      end_index = rw made (ap (λ (t : ℕ). length here + t) e ∙ sym more);
      before = λ h. p.before (sym (ends k) ∙ sym (ap (λ (l : List (List Found)). is_plain_at_end plain (take (length here + k) (together l))) made) ∙ h);
      behind = λ h. fronts (take p.end cs) (drop p.end cs) whole2
          ∙ p.behind (sym (ends (suc k)) ∙ ap (λ (t : ℕ). is_plain_at_end plain (take t (here ++ together (entries s g f2 (at + 1) cs)))) (sym more)
          ∙ sym (ap (λ (l : List (List Found)). is_plain_at_end plain (take (suc (length here + k)) (together l))) made) ∙ h);
      start = λ e h. p.start (omega (arith, e)) (begun e h);
    }

-- a piece that is no token
none_here : (gap : Bool) (front : Front) (at : ℕ) (plain plain2 : Bool) (c : ℕ) (cs : List ℕ) (k : ℕ) (f : Found)
    → found_in 0 0 gap front at (c ∷ cs) (piece_of (expects_header front) c cs) ≡ [] → plain ≡ plain2
    → (is_line_start front ≡ true → is_line_start (line_front_after (c ∷ cs) front (piece_of (expects_header front) c cs)) ≡ true)
    → Spot (piece_length 0 (piece_of (expects_header front) c cs) - 1) (leaves_gap (piece_of (expects_header front) c cs))
    (line_front_after (c ∷ cs) front (piece_of (expects_header front) c cs)) (at + 1) plain2 cs k f
    → Spot 0 gap front at plain (c ∷ cs) k f
unfolding entries skip_behind gap_behind front_behind
none_here gap front at plain plain2 c cs k f none same begun p =
    let P = piece_of (expects_header front) c cs in
    let s = piece_length 0 P - 1 in
    let f2 = line_front_after (c ∷ cs) front P in
    let zero : 0 + k ≡ k = omega arith in
    subst (λ (j : ℕ). Spot 0 gap front at plain (c ∷ cs) j f) zero
    (later 0 gap front at plain c cs s (leaves_gap P) f2 plain2 [] k f
    (λ xs ys e. ap (λ (l : List ℕ). skip_behind (piece_length 0 (piece_of (expects_header front) c l) - 1) (line_front_after (c ∷ l) front (piece_of (expects_header front) c l)) xs ys) e)
    (λ xs ys e. ap (λ (l : List ℕ). gap_behind (piece_length 0 (piece_of (expects_header front) c l) - 1) (leaves_gap (piece_of (expects_header front) c l))
    (line_front_after (c ∷ l) front (piece_of (expects_header front) c l)) xs ys) e)
    (λ xs ys e. ap (λ (l : List ℕ). front_behind (piece_length 0 (piece_of (expects_header front) c l) - 1) (line_front_after (c ∷ l) front (piece_of (expects_header front) c l)) xs ys) e)
    (ap (λ (fs : List Found). fs ∷ entries s (leaves_gap P) f2 (at + 1) cs) none)
    (λ j. let z : 0 + j ≡ j = omega arith in
    ap (λ (t : ℕ). is_plain_at_end plain (take t (together (entries s (leaves_gap P) f2 (at + 1) cs)))) z
    ∙ ap (λ (b : Bool). is_plain_at_end b (take j (together (entries s (leaves_gap P) f2 (at + 1) cs)))) same) (λ e h. begun h) p)

-- a token
token_here : (gap : Bool) (front : Front) (at : ℕ) (plain : Bool) (c : ℕ) (cs : List ℕ) (k : ℕ) (f : Found) (t : Token) (first : Bool)
    → found_in 0 0 gap front at (c ∷ cs) (piece_of (expects_header front) c cs) ≡ FoundToken t first ∷ []
    → Spot (piece_length 0 (piece_of (expects_header front) c cs) - 1) (leaves_gap (piece_of (expects_header front) c cs))
    (line_front_after (c ∷ cs) front (piece_of (expects_header front) c cs)) (at + 1) (cond first (not (is_hash_text t.text)) plain) cs k f
    → Spot 0 gap front at plain (c ∷ cs) (suc k) f
unfolding entries skip_behind gap_behind front_behind
token_here gap front at plain c cs k f t first one p =
    let P = piece_of (expects_header front) c cs in
    let s = piece_length 0 P - 1 in
    let f2 = line_front_after (c ∷ cs) front P in
    let plain2 = cond first (not (is_hash_text t.text)) plain in
    let on : 1 + k ≡ suc k = omega arith in
    subst (λ (j : ℕ). Spot 0 gap front at plain (c ∷ cs) j f) on
    (later 0 gap front at plain c cs s (leaves_gap P) f2 plain2 (FoundToken t first ∷ []) k f
    (λ xs ys e. ap (λ (l : List ℕ). skip_behind (piece_length 0 (piece_of (expects_header front) c l) - 1) (line_front_after (c ∷ l) front (piece_of (expects_header front) c l)) xs ys) e)
    (λ xs ys e. ap (λ (l : List ℕ). gap_behind (piece_length 0 (piece_of (expects_header front) c l) - 1) (leaves_gap (piece_of (expects_header front) c l))
    (line_front_after (c ∷ l) front (piece_of (expects_header front) c l)) xs ys) e)
    (λ xs ys e. ap (λ (l : List ℕ). front_behind (piece_length 0 (piece_of (expects_header front) c l) - 1) (line_front_after (c ∷ l) front (piece_of (expects_header front) c l)) xs ys) e)
    (ap (λ (fs : List Found). fs ∷ entries s (leaves_gap P) f2 (at + 1) cs) one)
    (λ j. let z : 1 + j ≡ suc j = omega arith in
    ap (λ (n : ℕ). is_plain_at_end plain (take n (FoundToken t first ∷ together (entries s (leaves_gap P) f2 (at + 1) cs)))) z) (λ e h. absurd (omega (arith, e))) p)

-- a token behind which a text line goes on
token_text : (front : Front) (text : List ℕ) (plain : Bool) → IsKnown front → (plain ≡ true → IsPlain front)
    → cond (is_line_start front) (not (is_hash_text text)) plain ≡ true → with_token text front ≡ some_tokens
unfolding file_front
token_text front text plain known lined h = elim (cases_Bool (is_line_start front)) [
  | inl first ↦
      let start = start_is front known first in
      let no_hash : not (is_hash_text text) ≡ true = rw first at h in
      ap (with_token text) start ∙ elim (cases_Bool (is_hash_text text)) [
        | inl hash ↦ let nost : false ≡ true = rw hash at no_hash in absurd cc
        | inr other ↦ rw other refl
      ]
  | inr not_first ↦
      let text_line : plain ≡ true = rw not_first at h in
      elim (lined text_line) [
        | inl start ↦ let nost : false ≡ true = sym not_first ∙ ap is_line_start start in absurd cc
        | inr some ↦ ap (with_token text) some
      ]
]

-- the first token
first_here : (gap : Bool) (front : Front) (at : ℕ) (plain : Bool) (c : ℕ) (cs : List ℕ) (f : Found) → IsKnown front → (plain ≡ true → IsPlain front)
    → Spells (expects_header front) c cs
    → f ≡ FoundToken (file_token 0 0 gap at (front_of (expects_header front) c cs).0 (take (suc (front_of (expects_header front) c cs).1) (c ∷ cs))) (is_line_start front)
    → Spot 0 gap front at plain (c ∷ cs) 0 f
unfolding entries skip_behind gap_behind front_behind file_front
first_here gap front at plain c cs f known lined w is =
    let header = expects_header front in
    let P = piece_of header c cs in
    let n = (front_of header c cs).1 in
    let text = take (suc n) (c ∷ cs) in
    let t = FoundToken (file_token 0 0 gap at (front_of header c cs).0 text) (is_line_start front) in
    let f2 = line_front_after (c ∷ cs) front P in
    let small : n ≤ length cs = (front_of-front header c cs).within in
    let whole = take-append-drop n cs in
    let one : piece_length 0 P - 1 ≡ n = let x = w.size in omega (arith, x) in
    let found : found_in 0 0 gap front at (c ∷ cs) P ≡ t ∷ [] = w.found 0 0 gap front at (c ∷ cs) in
    let made : entries 0 gap front at (c ∷ cs) ≡ (t ∷ []) ∷ entries n (leaves_gap P) f2 (at + 1) cs =
    ap (λ (fs : List Found). fs ∷ entries (piece_length 0 P - 1) (leaves_gap P) f2 (at + 1) cs) found
    ∙ ap (λ (j : ℕ). (t ∷ []) ∷ entries j (leaves_gap P) f2 (at + 1) cs) one in
    let inside = weight_inside n (leaves_gap P) f2 (at + 1) cs in
    let zero : at ≡ at + 0 = omega arith in
    let word : f2 ≡ with_token text front = w.front (c ∷ cs) front in
    let end_front : front_behind 0 front (take (suc n) (c ∷ cs)) (drop (suc n) (c ∷ cs)) ≡ with_token text front =
    ap (λ (l : List ℕ). front_behind (piece_length 0 (piece_of header c l) - 1) (line_front_after (c ∷ l) front (piece_of header c l)) (take n cs) (drop n cs)) whole
    ∙ ap (λ (j : ℕ). front_behind j f2 (take n cs) (drop n cs)) one ∙ front_inside n f2 cs small ∙ word in
    record {
      place = 0;
      end = suc n;
      c = c;
      rest = cs;
      now = front;
      here = refl;
      end_is = omega arith;
      within = omega (arith, small);
      known = known;
      whole = refl;
      now_is = refl;
      index = refl;
      next = ap (λ (l : List (List Found)). weight (map length l) 1) made;
      word = w;
      is = ap bare is ∙ ap (λ (j : ℕ). FoundToken (file_token 0 0 false j (front_of header c cs).0 text) (is_line_start front)) zero;
      end_whole = ap (λ (l : List ℕ). skip_behind (piece_length 0 (piece_of header c l) - 1) (line_front_after (c ∷ l) front (piece_of header c l)) (take n cs) (drop n cs)) whole
          ∙ ap (λ (j : ℕ). skip_behind j f2 (take n cs) (drop n cs)) one ∙ skip_inside n f2 cs small;
      end_gap = ap (λ (l : List ℕ). gap_behind (piece_length 0 (piece_of header c l) - 1) (leaves_gap (piece_of header c l)) (line_front_after (c ∷ l) front (piece_of header c l)) (take n cs) (drop n cs)) whole
          ∙ ap (λ (j : ℕ). gap_behind j (leaves_gap P) f2 (take n cs) (drop n cs)) one ∙ gap_inside n (leaves_gap P) f2 cs small ∙ w.gap;
      end_front = end_front;
      end_index = ap (λ (l : List (List Found)). weight (map length l) (suc n)) made ∙ ap (λ (j : ℕ). 1 + j) inside;
      before = λ h. lined h;
      start = λ e h. h;
      behind = λ h. end_front ∙ token_text front text plain known lined
          (sym (ap (λ (l : List (List Found)). is_plain_at_end plain (take 1 (together l))) made) ∙ h);
    }

at_token : (gap : Bool) (front : Front) (at : ℕ) (plain : Bool) (c : ℕ) (cs : List ℕ) (k : ℕ) (f : Found) → IsKnown front → (plain ≡ true → IsPlain front)
    → Spells (expects_header front) c cs → (R : List Found)
    → slice_get (FoundToken (file_token 0 0 gap at (front_of (expects_header front) c cs).0 (take (suc (front_of (expects_header front) c cs).1) (c ∷ cs))) (is_line_start front) ∷ R) k ≡ Some f
    → ((j : ℕ) → slice_get R j ≡ Some f
    → Spot (piece_length 0 (piece_of (expects_header front) c cs) - 1) (leaves_gap (piece_of (expects_header front) c cs))
    (line_front_after (c ∷ cs) front (piece_of (expects_header front) c cs)) (at + 1)
    (cond (is_line_start front) (not (is_hash_text (take (suc (front_of (expects_header front) c cs).1) (c ∷ cs)))) plain) cs j f)
    → Spot 0 gap front at plain (c ∷ cs) k f
at_token gap front at plain c cs zero f known lined v R there rest = first_here gap front at plain c cs f known lined v (sym (ap (λ (o : Option Found). unwrap_or o f) there))
at_token gap front at plain c cs (suc j) f known lined v R there rest =
    let header = expects_header front in
    token_here gap front at plain c cs j f (file_token 0 0 gap at (front_of header c cs).0 (take (suc (front_of header c cs).1) (c ∷ cs))) (is_line_start front)
    (v.found 0 0 gap front at (c ∷ cs)) (rest j there)

-- Each token has a place.
pub spot : (cs : List ℕ) (skip : ℕ) (gap : Bool) (front : Front) (at : ℕ) (plain : Bool) (k : ℕ) (f : Found) → IsKnown front → (plain ≡ true → IsPlain front)
    → list_all is_shut (together (entries skip gap front at cs)) ≡ true → slice_get (together (entries skip gap front at cs)) k ≡ Some f
    → Spot skip gap front at plain cs k f
unfolding entries skip_behind gap_behind front_behind file_front
spot [] skip gap front at plain k f known lined shut there = absurd cc
spot (c ∷ cs) (suc skip) gap front at plain k f known lined shut there =
    let p = spot cs skip gap front (at + 1) plain k f known lined shut there in
    let zero : 0 + k ≡ k = omega arith in
    subst (λ (j : ℕ). Spot (suc skip) gap front at plain (c ∷ cs) j f) zero
    (later (suc skip) gap front at plain c cs skip gap front plain [] k f (λ xs ys e. refl) (λ xs ys e. refl) (λ xs ys e. refl) refl
    (λ j. let z : 0 + j ≡ j = omega arith in ap (λ (t : ℕ). is_plain_at_end plain (take t (together (entries skip gap front (at + 1) cs)))) z) (λ e h. h) p)
spot (c ∷ cs) zero gap front at plain k f known lined shut there =
    let header = expects_header front in
    let P = piece_of header c cs in
    let s = piece_length 0 P - 1 in
    let f2 = line_front_after (c ∷ cs) front P in
    let E = found_in 0 0 gap front at (c ∷ cs) P in
    let R = together (entries s (leaves_gap P) f2 (at + 1) cs) in
    let known2 = known_after header c cs (c ∷ cs) front known in
    let parts = all_append is_shut E R shut in
    elim (view header c cs) [
      | feeds v ↦
          let none = v.found 0 0 gap front at (c ∷ cs) in
          let there2 : slice_get R k ≡ Some f = ap (λ (l : List Found). slice_get (l ++ R) k) (sym none) ∙ there in
          none_here gap front at plain plain c cs k f none refl (λ h. ap is_line_start (v.front (c ∷ cs) front))
          (spot cs s (leaves_gap P) f2 (at + 1) plain k f known2 (λ h. inl (v.front (c ∷ cs) front)) parts.1 there2)
      | whites v ↦
          let none = v.found 0 0 gap front at (c ∷ cs) in
          let there2 : slice_get R k ≡ Some f = ap (λ (l : List Found). slice_get (l ++ R) k) (sym none) ∙ there in
          none_here gap front at plain plain c cs k f none refl (λ h. ap is_line_start (v.front (c ∷ cs) front) ∙ h)
          (spot cs s (leaves_gap P) f2 (at + 1) plain k f known2 (λ h. subst IsPlain (sym (v.front (c ∷ cs) front)) (lined h)) parts.1 there2)
      | lines v ↦
          let none = v.found 0 0 gap front at (c ∷ cs) in
          let there2 : slice_get R k ≡ Some f = ap (λ (l : List Found). slice_get (l ++ R) k) (sym none) ∙ there in
          none_here gap front at plain plain c cs k f none refl (λ h. ap is_line_start (v.front (c ∷ cs) front) ∙ h)
          (spot cs s (leaves_gap P) f2 (at + 1) plain k f known2 (λ h. subst IsPlain (sym (v.front (c ∷ cs) front)) (lined h)) parts.1 there2)
      | blocks v ↦
          let none = v.found 0 0 gap front at (c ∷ cs) in
          let there2 : slice_get R k ≡ Some f = ap (λ (l : List Found). slice_get (l ++ R) k) (sym none) ∙ there in
          none_here gap front at plain plain c cs k f none refl (λ h. ap is_line_start (v.front (c ∷ cs) front) ∙ h)
          (spot cs s (leaves_gap P) f2 (at + 1) plain k f known2 (λ h. subst IsPlain (sym (v.front (c ∷ cs) front)) (lined h)) parts.1 there2)
      | opens v ↦
          let one = v.found 0 0 gap front at (c ∷ cs) in
          let nost : false ≡ true = ap (list_all is_shut) (sym one) ∙ parts.0 in
          absurd cc
      | spells v ↦
          let text = take (suc (front_of header c cs).1) (c ∷ cs) in
          let t = file_token 0 0 gap at (front_of header c cs).0 text in
          let one = v.found 0 0 gap front at (c ∷ cs) in
          let there2 : slice_get (FoundToken t (is_line_start front) ∷ R) k ≡ Some f = ap (λ (l : List Found). slice_get (l ++ R) k) (sym one) ∙ there in
          at_token gap front at plain c cs k f known lined v R there2
          (λ j h. spot cs s (leaves_gap P) f2 (at + 1) (cond (is_line_start front) (not (is_hash_text text)) plain) j f known2
          (λ told. inr (v.front (c ∷ cs) front ∙ token_text front text plain known lined told)) parts.1 h)
    ]
