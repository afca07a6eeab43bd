-- What is found in a part of a file, wherever the part begins: the tokens of the file that stand in it.
use Rattle.std.proofs.Common.{◌≡◌, ℕ, zero, suc, ◌+◌, ◌-◌, ◌<◌, ◌≤◌, Bool, true, false, not, ◌&&◌, List, [], ◌∷◌, ◌++◌, length, take, drop, map, get_or, Option, Some, inl, inr, refl, sym, ap, ◌∙◌, arith, take-append-drop, take-add, length-take-le, length-drop}
use Rattle.std.specs.Prelude.{slice_get, unwrap_or}
use Rattle.std.specs.List.{list_all}
use Rattle.std.proofs.lemmas.Bool.{cases_Bool}
use Rattle.std.proofs.Math.Bool.{or-true}
use Rattle.std.proofs.lemmas.List.{drop-drop, map-append, drop-map}
use Rattle.lexer.specs.Tokens.{Found, FoundToken, FoundOpen, file_token, is_hash_text, expects_header, piece_of, piece_length, leaves_gap, line_front_after, found_in}
use Rattle.arranged_text_laws.specs.Settling.{Front, has_line_feed, gap_behind, front_behind}
use Rattle.arranged_text_laws.specs.Places.{found_plain}
use Rattle.arranged_text_laws.specs.Marks.{line_start, Before, front_at}
use Rattle.arranged_text_laws.specs.Calm.{is_calm, is_even, is_quiet, is_shut, is_sign, ends_in_sign, is_plain_at_end, skip_behind}
use Rattle.arranged_text_laws.specs.Weighed.{together, total}
use Rattle.arranged_text_laws.proofs.CalmLemmas.{all_append}
use Rattle.arranged_text_laws.proofs.ViewLemmas.{feeds, whites, lines, blocks, opens, spells, view}
use Rattle.arranged_text_laws.proofs.WeighedLemmas.{cut_together}
use Rattle.arranged_text_laws.proofs.WeighedCut.{weight, total_both}
use Rattle.arranged_text_laws.proofs.Walk.{entries, drop_entries, take_entries, skip_parts, gap_parts, front_parts}
use Rattle.arranged_text_laws.proofs.FileWalk.{chars_of, entries_of, weights_of}

-- ---- what is found, wherever it stands

abbrev pub flat : Found → Found
flat (FoundToken t first) = FoundToken (file_token 0 0 false 0 t.kind t.text) first
flat (FoundOpen at) = FoundOpen 0

flat_one : (gap : Bool) (front : Front) (at other : ℕ) (chars : List ℕ) (header : Bool) (c : ℕ) (R : List ℕ)
    → map flat (found_in 0 0 gap front at chars (piece_of header c R)) ≡ map flat (found_in 0 0 gap front other chars (piece_of header c R))
flat_one gap front at other chars header c R =
    elim (view header c R) [
      | feeds v ↦ ap (map flat) (v.found 0 0 gap front at chars ∙ sym (v.found 0 0 gap front other chars))
      | whites v ↦ ap (map flat) (v.found 0 0 gap front at chars ∙ sym (v.found 0 0 gap front other chars))
      | lines v ↦ ap (map flat) (v.found 0 0 gap front at chars ∙ sym (v.found 0 0 gap front other chars))
      | blocks v ↦ ap (map flat) (v.found 0 0 gap front at chars ∙ sym (v.found 0 0 gap front other chars))
      | opens v ↦ ap (map flat) (v.found 0 0 gap front at chars) ∙ sym (ap (map flat) (v.found 0 0 gap front other chars))
      | spells v ↦ ap (map flat) (v.found 0 0 gap front at chars) ∙ sym (ap (map flat) (v.found 0 0 gap front other chars))
    ]

flat_plain : (skip : ℕ) (gap : Bool) (front : Front) (at other : ℕ) (xs ys : List ℕ) → map flat (found_plain skip gap front at xs ys) ≡ map flat (found_plain skip gap front other xs ys)
unfolding found_plain
flat_plain skip gap front at other [] ys = refl
flat_plain (suc skip) gap front at other (c ∷ xs) ys = flat_plain skip gap front (at + 1) (other + 1) xs ys
flat_plain zero gap front at other (c ∷ xs) ys =
    let P = piece_of (expects_header front) c (xs ++ ys) in
    let chars = c ∷ (xs ++ ys) in
    let s = piece_length 0 P - 1 in
    let f2 = line_front_after chars front P in
    let here = found_in 0 0 gap front at chars P in
    let there = found_in 0 0 gap front other chars P in
    map-append flat here (found_plain s (leaves_gap P) f2 (at + 1) xs ys)
    ∙ ap (λ (l : List Found). l ++ map flat (found_plain s (leaves_gap P) f2 (at + 1) xs ys)) (flat_one gap front at other chars (expects_header front) c (xs ++ ys))
    ∙ ap (λ (l : List Found). map flat there ++ l) (flat_plain s (leaves_gap P) f2 (at + 1) (other + 1) xs ys)
    ∙ sym (map-append flat there (found_plain s (leaves_gap P) f2 (other + 1) xs ys))

-- tests that do not ask where
abbrev Blind : (Found → Bool) → Type 0
Blind p = (f : Found) → p (flat f) ≡ p f

all_blind : (p : Found → Bool) → Blind p → (fs : List Found) → list_all p (map flat fs) ≡ list_all p fs
all_blind p blind [] = refl
all_blind p blind (f ∷ fs) = ap (λ (b : Bool). b && list_all p (map flat fs)) (blind f) ∙ ap (λ (b : Bool). p f && b) (all_blind p blind fs)

pub all_same : (p : Found → Bool) → Blind p → (fs gs : List Found) → map flat fs ≡ map flat gs → list_all p gs ≡ true → list_all p fs ≡ true
all_same p blind fs gs h all = sym (all_blind p blind fs) ∙ ap (list_all p) h ∙ all_blind p blind gs ∙ all

pub calm_blind : Blind is_calm
calm_blind (FoundToken t first) = refl
calm_blind (FoundOpen at) = refl

pub shut_blind : Blind is_shut
shut_blind (FoundToken t first) = refl
shut_blind (FoundOpen at) = refl

even_blind : Blind is_even
even_blind (FoundToken t first) = refl
even_blind (FoundOpen at) = refl

sign_blind : Blind is_sign
sign_blind (FoundToken t first) = refl
sign_blind (FoundOpen at) = refl

plain_blind : (fs : List Found) (b : Bool) → is_plain_at_end b (map flat fs) ≡ is_plain_at_end b fs
plain_blind [] b = refl
plain_blind (FoundToken t true ∷ fs) b = plain_blind fs (not (is_hash_text t.text))
plain_blind (FoundToken t false ∷ fs) b = plain_blind fs b
plain_blind (FoundOpen at ∷ fs) b = plain_blind fs b

pub plain_same : (fs gs : List Found) (b : Bool) → map flat fs ≡ map flat gs → is_plain_at_end b gs ≡ true → is_plain_at_end b fs ≡ true
plain_same fs gs b h p = sym (plain_blind fs b) ∙ ap (is_plain_at_end b) h ∙ plain_blind gs b ∙ p

ends_blind : (fs : List Found) → ends_in_sign (map flat fs) ≡ ends_in_sign fs
ends_blind [] = refl
ends_blind (f ∷ []) = sign_blind f
ends_blind (f ∷ g ∷ fs) = ends_blind (g ∷ fs)

pub ends_same : (fs gs : List Found) → map flat fs ≡ map flat gs → ends_in_sign gs ≡ true → ends_in_sign fs ≡ true
ends_same fs gs h p = sym (ends_blind fs) ∙ ap ends_in_sign h ∙ ends_blind gs ∙ p

-- ---- lists of what is found

pub all_at : (p : Found → Bool) (fs : List Found) (i n : ℕ) → ((k : ℕ) (f : Found) → i ≤ k → k < i + n → slice_get fs k ≡ Some f → p f ≡ true) → list_all p (take n (drop i fs)) ≡ true
all_at p [] zero zero h = refl
all_at p [] zero (suc n) h = refl
all_at p [] (suc i) zero h = refl
all_at p [] (suc i) (suc n) h = refl
all_at p (f ∷ fs) (suc i) n h = all_at p fs i n (λ k g low high there. h (suc k) g (omega (arith, low)) (omega (arith, high)) there)
all_at p (f ∷ fs) zero zero h = refl
all_at p (f ∷ fs) zero (suc n) h =
    rw (h 0 f (omega arith) (omega arith) refl) (all_at p fs 0 n (λ k g low high there. h (suc k) g (omega arith) (omega (arith, high)) there))

pub all_part : (p : Found → Bool) (fs : List Found) (i n : ℕ) → list_all p fs ≡ true → list_all p (take n (drop i fs)) ≡ true
all_part p fs i n h =
    let a = all_append p (take i fs) (drop i fs) (ap (list_all p) (take-append-drop i fs) ∙ h) in
    (all_append p (take n (drop i fs)) (drop n (drop i fs)) (ap (list_all p) (take-append-drop n (drop i fs)) ∙ a.1)).0

plain_append : (fs gs : List Found) (b : Bool) → is_plain_at_end b (fs ++ gs) ≡ is_plain_at_end (is_plain_at_end b fs) gs
plain_append [] gs b = refl
plain_append (FoundToken t true ∷ fs) gs b = plain_append fs gs (not (is_hash_text t.text))
plain_append (FoundToken t false ∷ fs) gs b = plain_append fs gs b
plain_append (FoundOpen at ∷ fs) gs b = plain_append fs gs b

plain_more : (fs : List Found) (b : Bool) → is_plain_at_end b fs ≡ true → is_plain_at_end true fs ≡ true
plain_more [] b h = refl
plain_more (FoundToken t true ∷ fs) b h = h
plain_more (FoundToken t false ∷ fs) b h = plain_more fs b h
plain_more (FoundOpen at ∷ fs) b h = plain_more fs b h

pub plain_part : (fs : List Found) (i j : ℕ) → i ≤ j → is_plain_at_end true (take j fs) ≡ true → is_plain_at_end true (take (j - i) (drop i fs)) ≡ true
plain_part fs i j le h =
    let same : i + (j - i) ≡ j = omega (arith, le) in
    plain_more (take (j - i) (drop i fs)) (is_plain_at_end true (take i fs))
    (sym (plain_append (take i fs) (take (j - i) (drop i fs)) true) ∙ ap (is_plain_at_end true) (sym (take-add i (j - i) fs))
    ∙ ap (λ (n : ℕ). is_plain_at_end true (take n fs)) same ∙ h)

pub ends_at : (n : ℕ) (fs : List Found) (f : Found) → slice_get fs n ≡ Some f → is_sign f ≡ true → ends_in_sign (take (suc n) fs) ≡ true
ends_at n [] f there sign = absurd cc
ends_at zero (g ∷ fs) f there sign = ap is_sign (ap (λ (o : Option Found). unwrap_or o f) there) ∙ sign
ends_at (suc n) (g ∷ []) f there sign = absurd cc
ends_at (suc n) (g ∷ h ∷ fs) f there sign = ends_at n (h ∷ fs) f there sign

pub get_drop : {X : Type 0} (i k : ℕ) (xs : List X) → slice_get (drop i xs) k ≡ slice_get xs (i + k)
get_drop zero k xs = let same : k ≡ 0 + k = omega arith in ap (slice_get xs) same
get_drop (suc i) k [] = refl
get_drop (suc i) k (x ∷ xs) = let same : suc (i + k) ≡ suc i + k = omega arith in get_drop i k xs ∙ ap (slice_get (x ∷ xs)) same

-- ---- quiet parts

pub quiet_from : (skip : ℕ) (gap : Bool) (front : Front) (at : ℕ) (xs ys : List ℕ)
    → ((p : ℕ) → p < length xs → list_all is_even (get_or (entries skip gap front at (xs ++ ys)) p []) ≡ false → has_line_feed (drop (suc p) xs) ≡ true)
    → is_quiet skip gap front xs ys ≡ true
unfolding is_quiet entries
quiet_from skip gap front at [] ys h = refl
quiet_from (suc skip) gap front at (c ∷ xs) ys h = quiet_from skip gap front (at + 1) xs ys (λ p lt odd. h (suc p) (omega (arith, lt)) odd)
quiet_from zero gap front at (c ∷ xs) ys h =
    let P = piece_of (expects_header front) c (xs ++ ys) in
    let chars = c ∷ (xs ++ ys) in
    let s = piece_length 0 P - 1 in
    let f2 = line_front_after chars front P in
    let rest = quiet_from s (leaves_gap P) f2 (at + 1) xs ys (λ p lt odd. h (suc p) (omega (arith, lt)) odd) in
    let same : list_all is_even (found_in 0 0 gap front 0 chars P) ≡ list_all is_even (found_in 0 0 gap front at chars P) =
    sym (all_blind is_even even_blind (found_in 0 0 gap front 0 chars P)) ∙ ap (list_all is_even) (flat_one gap front 0 at chars (expects_header front) c (xs ++ ys))
    ∙ all_blind is_even even_blind (found_in 0 0 gap front at chars P) in
    elim (cases_Bool (list_all is_even (found_in 0 0 gap front at chars P))) [
      | inl even ↦ rw (same, even, or-true (has_line_feed xs)) rest
      | inr odd ↦ rw (h 0 (omega arith) odd) rest
    ]

-- ---- states

-- What stands before character x of a file.
pub record StateAt (bytes : List ℕ) (x : ℕ) (st : Before) : Type 0 where
  pub within : x ≤ length (chars_of bytes)
  pub whole : skip_behind 0 line_start (take x (chars_of bytes)) (drop x (chars_of bytes)) ≡ 0
  pub gap : gap_behind 0 true line_start (take x (chars_of bytes)) (drop x (chars_of bytes)) ≡ st.gap
  pub front : front_behind 0 line_start (take x (chars_of bytes)) (drop x (chars_of bytes)) ≡ front_at st

-- the characters from x on, before z
abbrev pub seg : {X : Type 0} → List X → ℕ → ℕ → List X
seg xs x z = take (z - x) (drop x xs)

pub seg_front : {X : Type 0} (xs : List X) (x z : ℕ) → x ≤ z → take x xs ++ seg xs x z ≡ take z xs
seg_front xs x z le =
    let same : x + (z - x) ≡ z = omega (arith, le) in
    sym (take-add x (z - x) xs) ∙ ap (λ (n : ℕ). take n xs) same

pub seg_rest : {X : Type 0} (xs : List X) (x z : ℕ) → x ≤ z → seg xs x z ++ drop z xs ≡ drop x xs
seg_rest xs x z le =
    let same : x + (z - x) ≡ z = omega (arith, le) in
    ap (λ (l : List _). seg xs x z ++ l) (ap (λ (n : ℕ). drop n xs) (sym same) ∙ sym (drop-drop (z - x) x xs)) ∙ take-append-drop (z - x) (drop x xs)

pub record Behind (bytes : List ℕ) (x z : ℕ) (st end : Before) : Type 0 where
  pub whole : skip_behind 0 (front_at st) (seg (chars_of bytes) x z) (drop z (chars_of bytes)) ≡ 0
  pub gap : gap_behind 0 st.gap (front_at st) (seg (chars_of bytes) x z) (drop z (chars_of bytes)) ≡ end.gap
  pub front : front_behind 0 (front_at st) (seg (chars_of bytes) x z) (drop z (chars_of bytes)) ≡ front_at end

pub states_behind : (bytes : List ℕ) (x z : ℕ) (st end : Before) → x ≤ z → StateAt bytes x st → StateAt bytes z end → Behind bytes x z st end
states_behind bytes x z st end le s e =
    let S = chars_of bytes in
    let A = take x S in
    let B = seg S x z in
    let D = drop z S in
    let rest = seg_rest S x z le in
    let all = seg_front S x z le in
    let skip0 : skip_behind 0 line_start A (B ++ D) ≡ 0 = ap (skip_behind 0 line_start A) rest ∙ s.whole in
    let gap0 : gap_behind 0 true line_start A (B ++ D) ≡ st.gap = ap (gap_behind 0 true line_start A) rest ∙ s.gap in
    let front0 : front_behind 0 line_start A (B ++ D) ≡ front_at st = ap (front_behind 0 line_start A) rest ∙ s.front in
    record {
      whole = ap (λ (f : Front). skip_behind 0 f B D) (sym front0) ∙ ap (λ (k : ℕ). skip_behind k (front_behind 0 line_start A (B ++ D)) B D) (sym skip0)
          ∙ sym (skip_parts 0 line_start A B D) ∙ ap (λ (l : List ℕ). skip_behind 0 line_start l D) all ∙ e.whole;
      gap = ap (λ (f : Front). gap_behind 0 st.gap f B D) (sym front0) ∙ ap (λ (g : Bool). gap_behind 0 g (front_behind 0 line_start A (B ++ D)) B D) (sym gap0)
          ∙ ap (λ (k : ℕ). gap_behind k (gap_behind 0 true line_start A (B ++ D)) (front_behind 0 line_start A (B ++ D)) B D) (sym skip0)
          ∙ sym (gap_parts 0 true line_start A B D) ∙ ap (λ (l : List ℕ). gap_behind 0 true line_start l D) all ∙ e.gap;
      front = ap (λ (f : Front). front_behind 0 f B D) (sym front0) ∙ ap (λ (k : ℕ). front_behind k (front_behind 0 line_start A (B ++ D)) B D) (sym skip0)
          ∙ sym (front_parts 0 line_start A B D) ∙ ap (λ (l : List ℕ). front_behind 0 line_start l D) all ∙ e.front;
    }

-- what characters from x on bring
pub entries_from : (bytes : List ℕ) (x : ℕ) (st : Before) → StateAt bytes x st → drop x (entries_of bytes) ≡ entries 0 st.gap (front_at st) x (drop x (chars_of bytes))
entries_from bytes x st s =
    let S = chars_of bytes in
    let A = take x S in
    let D = drop x S in
    let long : length A ≡ x = length-take-le x S s.within in
    let place : 0 + length A ≡ x = omega (arith, long) in
    ap (λ (n : ℕ). drop n (entries_of bytes)) (sym long) ∙ ap (λ (l : List ℕ). drop (length A) (entries 0 true line_start 0 l)) (sym (take-append-drop x S))
    ∙ drop_entries 0 true line_start 0 A D
    ∙ ap (λ (k : ℕ). entries k (gap_behind 0 true line_start A D) (front_behind 0 line_start A D) (0 + length A) D) s.whole
    ∙ ap (λ (g : Bool). entries 0 g (front_behind 0 line_start A D) (0 + length A) D) s.gap
    ∙ ap (λ (f : Front). entries 0 st.gap f (0 + length A) D) s.front
    ∙ ap (λ (k : ℕ). entries 0 st.gap (front_at st) k D) place

-- What is found from x to z are the tokens that begin there.
pub part_found : (bytes : List ℕ) (x z i j : ℕ) (st : Before) → StateAt bytes x st → x ≤ z → z ≤ length (chars_of bytes) → weight (weights_of bytes) x ≡ i → weight (weights_of bytes) z ≡ j
    → map flat (found_plain 0 st.gap (front_at st) 0 (seg (chars_of bytes) x z) (drop z (chars_of bytes))) ≡ map flat (take (j - i) (drop i (together (entries_of bytes))))
part_found bytes x z i j st s le within first last =
    let S = chars_of bytes in
    let E = entries_of bytes in
    let B = seg S x z in
    let D = drop z S in
    let dropped : length (drop x S) ≡ length S - x = length-drop x S in
    let long : length B ≡ z - x = length-take-le (z - x) (drop x S) (omega (arith, dropped, within)) in
    let from = entries_from bytes x st s in
    let one : together (take (z - x) (drop x E)) ≡ found_plain 0 st.gap (front_at st) x B D =
    ap (λ (l : List (List Found)). together (take (z - x) l)) (from ∙ ap (entries 0 st.gap (front_at st) x) (sym (seg_rest S x z le)))
    ∙ ap (λ (n : ℕ). together (take n (entries 0 st.gap (front_at st) x (B ++ D)))) (sym long) ∙ take_entries 0 st.gap (front_at st) x B D in
    let W = weights_of bytes in
    let both = total_both x (z - x) W in
    let sum : x + (z - x) ≡ z = omega (arith, le) in
    let whole = ap (weight W) sum in
    let count : total (take (z - x) (map length (drop x E))) ≡ j - i =
    ap (λ (l : List ℕ). total (take (z - x) l)) (sym (drop-map length x E)) ∙ omega (arith, both, whole, first, last) in
    let two : take (j - i) (drop i (together E)) ≡ together (take (z - x) (drop x E)) =
    ap (λ (n : ℕ). take n (drop i (together E))) (sym count) ∙ ap (λ (n : ℕ). take (total (take (z - x) (map length (drop x E)))) (drop n (together E))) (sym first)
    ∙ ap (take (total (take (z - x) (map length (drop x E))))) (cut_together x E).1 ∙ (cut_together (z - x) (drop x E)).0 in
    flat_plain 0 st.gap (front_at st) 0 x B D ∙ ap (map flat) (sym one ∙ sym two)
