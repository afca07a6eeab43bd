-- The origins that spans tell, of all characters of a token.
use Rattle.std.proofs.Common.{◌≡◌, ℕ, zero, suc, Bool, true, false, ◌+◌, ◌-◌, ◌<◌, ◌≤◌, ◌^◌, nat_lt, List, [], ◌∷◌, ◌++◌, append-nil, length, map, replicate, refl, ap, ◌∙◌, arith, add-zero}
use Rattle.std.specs.Prelude.{Option, Some, None, slice_get}
use Rattle.std.specs.Option.{option_and_then}
use Rattle.std.specs.List.{range_with_len}
use Rattle.std.proofs.lemmas.Bool.Decides.{nat_tests}
use Rattle.std.proofs.lemmas.List.FromFn.{length-map-range_with_len, get_or-map-range_with_len, map-range_with_len_more}
use Rattle.std.proofs.lemmas.Option.{slice_get_past, slice_get-get_or}
use Rattle.cs_base.specs.declared.positions.Pos.{Pos}
use Rattle.cs_base.specs.declared.spans.Span.{Span}
use Rattle.cs_base.specs.Padding.{padded}
use Rattle.cs_base.specs.Spans.{lies_in, origin_by, origins_by, AreSpans, whole, moved}
use Rattle.cs_base.specs.Token.{Token, origin_at}
use Rattle.cs_base.proofs.SpanLemmas.{origin_by-past, origin_by-before, origin_by-moved, origin_by-left, origin_by-right, AreSpansFrom-moved, AreSpans-append}

-- ---- lists made of each number

module _ {X : Type 0} where
  map-range-alike : (f g : ℕ → X) (a b n : ℕ) → ((k : ℕ) → k < n → f (a + k) ≡ g (b + k))
      → map f (range_with_len a n) ≡ map g (range_with_len b n)
  map-range-alike f g a b zero same = refl
  map-range-alike f g a b (suc n) same =
      let here : f a ≡ g b = simp add-zero at (same 0 (omega arith)) in
      let there : map f (range_with_len (a + 1) n) ≡ map g (range_with_len (b + 1) n) =
      map-range-alike f g (a + 1) (b + 1) n
      (λ k l.
      let x : a + 1 + k ≡ a + suc k = omega arith in
      let y : b + 1 + k ≡ b + suc k = omega arith in
      rw (x, y) (same (suc k) (omega arith))) in
      rw (here, there) refl

  map-range-split : (f : ℕ → X) (a m n : ℕ)
      → map f (range_with_len a (m + n)) ≡ map f (range_with_len a m) ++ map f (range_with_len (a + m) n)
  map-range-split f a zero n =
      let none : zero + n ≡ n = omega arith in
      let same : a + zero ≡ a = omega arith in
      rw (none, same) refl
  map-range-split f a (suc m) n =
      let more : suc m + n ≡ suc (m + n) = omega arith in
      let on : a + suc m ≡ a + 1 + m = omega arith in
      rw (more, on) (ap (λ (rest : List X). f a ∷ rest) (map-range-split f (a + 1) m n))

map-range-none : (f : ℕ → Option Pos) (a n : ℕ) → ((k : ℕ) → k < n → f (a + k) ≡ None)
    → map f (range_with_len a n) ≡ replicate n None
map-range-none f a zero none = refl
map-range-none f a (suc n) none =
    let here : f a ≡ None = simp add-zero at (none 0 (omega arith)) in
    let there : map f (range_with_len (a + 1) n) ≡ replicate n None =
    map-range-none f (a + 1) n
    (λ k l.
    let x : a + 1 + k ≡ a + suc k = omega arith in
    rw x (none (suc k) (omega arith))) in
    rw (here, there) refl

-- ---- the origins of all characters

pub length-origins_by : (n : ℕ) (spans : List Span) → length (origins_by n spans) ≡ n
unfolding origins_by
length-origins_by n spans = length-map-range_with_len (origin_by spans) 0 n

pub origins_by-more : (n : ℕ) (spans : List Span)
    → origins_by (n + 1) spans ≡ origins_by n spans ++ origin_by spans n ∷ []
unfolding origins_by
origins_by-more n spans = map-range_with_len_more (origin_by spans) 0 n n (omega arith)

-- each by its number
in_range : (n k : ℕ) (spans : List Span) → k < n
    → option_and_then (λ (origin : Option Pos). origin) (slice_get (origins_by n spans) k) ≡ origin_by spans k
unfolding origins_by
in_range n k spans l =
    let some : k < length (map (origin_by spans) (range_with_len 0 n)) = omega (arith, length-map-range_with_len (origin_by spans) 0 n) in
    rw (slice_get-get_or (map (origin_by spans) (range_with_len 0 n)) k None some, get_or-map-range_with_len (origin_by spans) 0 n k k None l (omega arith)) refl

past_range : (n k : ℕ) (spans : List Span) → AreSpans n spans → n ≤ k
    → option_and_then (λ (origin : Option Pos). origin) (slice_get (origins_by n spans) k) ≡ origin_by spans k
past_range n k spans are l =
    let none : length (origins_by n spans) ≤ k = omega (arith, length-origins_by n spans) in
    rw (slice_get_past (origins_by n spans) k none, origin_by-past 0 n k spans are l) refl

pub slice_get-origins_by : (n k : ℕ) (spans : List Span) → AreSpans n spans
    → option_and_then (λ (origin : Option Pos). origin) (slice_get (origins_by n spans) k) ≡ origin_by spans k
slice_get-origins_by n k spans are = by_test (nat_lt k n) refl
  where
    by_test : (b : Bool) → nat_lt k n ≡ b
        → option_and_then (λ (origin : Option Pos). origin) (slice_get (origins_by n spans) k) ≡ origin_by spans k
    by_test true within = in_range n k spans (grind (arith, nat_tests))
    by_test false past = past_range n k spans are (grind (arith, nat_tests))

origins_by-split : (m n : ℕ) (spans : List Span)
    → origins_by (m + n) spans ≡ origins_by m spans ++ map (origin_by spans) (range_with_len m n)
unfolding origins_by
origins_by-split m n spans =
    let same : 0 + m ≡ m = omega arith in
    map-range-split (origin_by spans) 0 m n ∙ rw same refl

-- spans behind others leave what these tell
pub origins_by-front : (m n : ℕ) (xs ys : List Span) → AreSpans n ys
    → origins_by m (xs ++ map (moved m) ys) ≡ origins_by m xs
unfolding origins_by
origins_by-front m n xs ys are =
    map-range-alike (origin_by (xs ++ map (moved m) ys)) (origin_by xs) 0 0 m
    (λ k l.
    let before : 0 + k < m + 0 = omega arith in
    origin_by-left xs (map (moved m) ys) (0 + k) (origin_by-before (m + 0) (m + n) (0 + k) (map (moved m) ys) (AreSpansFrom-moved 0 m n ys are) before))

-- and tell the origins of what stands behind
told_behind : (m n : ℕ) (xs ys : List Span) → AreSpans m xs
    → map (origin_by (xs ++ map (moved m) ys)) (range_with_len m n) ≡ origins_by n ys
unfolding origins_by
told_behind m n xs ys before =
    map-range-alike (origin_by (xs ++ map (moved m) ys)) (origin_by ys) m 0 n
    (λ k l.
    let past : m ≤ m + k = omega arith in
    let same : 0 + k ≡ k = omega arith in
    rw same (origin_by-right xs (map (moved m) ys) (m + k) (origin_by-past 0 m (m + k) xs before past) ∙ origin_by-moved m k ys))

pub origins_by-append : (m n : ℕ) (xs ys : List Span) → AreSpans m xs → AreSpans n ys
    → origins_by (m + n) (xs ++ map (moved m) ys) ≡ origins_by m xs ++ origins_by n ys
origins_by-append m n xs ys before are =
    rw (origins_by-split m n (xs ++ map (moved m) ys), origins_by-front m n xs ys are)
    (ap (λ (more : List (Option Pos)). origins_by m xs ++ more) (told_behind m n xs ys before))

-- characters past those that the spans tell have none
pub origins_by-padded : (n : ℕ) (spans : List Span) (origins : List (Option Pos)) → length origins ≤ n
    → AreSpans (length origins) spans → origins_by (length origins) spans ≡ origins → origins_by n spans ≡ padded n origins
origins_by-padded n spans origins within are told =
    let all : n ≡ length origins + (n - length origins) = omega arith in
    let none : map (origin_by spans) (range_with_len (length origins) (n - length origins)) ≡ replicate (n - length origins) None =
    map-range-none (origin_by spans) (length origins) (n - length origins)
    (λ k l.
    let past : length origins ≤ length origins + k = omega arith in
    origin_by-past 0 (length origins) (length origins + k) spans are past) in
    ap (λ m. origins_by m spans) all
    ∙ origins_by-split (length origins) (n - length origins) spans
    ∙ ap (λ (front : List (Option Pos)). front ++ map (origin_by spans) (range_with_len (length origins) (n - length origins))) told
    ∙ ap (λ (tail : List (Option Pos)). origins ++ tail) none

-- ---- neighbours

-- the origin of the character that stands so many behind the first
abbrev pub next_to : Pos → ℕ → Option Pos
next_to first k = Some (record { file = first.file; at = first.at + k })

-- each of the characters is the one behind the one before
pub origin_by-whole : (n k : ℕ) (first : Pos) → k < n → origin_by (whole n first ∷ []) k ≡ next_to first k
origin_by-whole n k first within =
    let one : lies_in (whole n first) k ≡ true = grind (arith, nat_tests) in
    let same : k - 0 ≡ k = omega arith in
    rw (one, same) refl

pub origins_by-whole : (n : ℕ) (first : Pos)
    → origins_by n (whole n first ∷ []) ≡ map (next_to first) (range_with_len 0 n)
unfolding origins_by
origins_by-whole n first =
    map-range-alike (origin_by (whole n first ∷ [])) (next_to first) 0 0 n
    (λ k l.
    let same : 0 + k ≡ k = omega arith in
    rw same (origin_by-whole n k first l))

-- nothing is added to as many
pub padded_whole : (n : ℕ) (origins : List (Option Pos)) → length origins ≡ n → padded n origins ≡ origins
padded_whole n origins all =
    let none : n - length origins ≡ 0 = omega arith in
    rw none (append-nil origins)

-- ---- one more character

-- it has no origin
pub told-none : (k : ℕ) (spans : List Span) → AreSpans k spans
    → origins_by (k + 1) spans ≡ origins_by k spans ++ None ∷ []
told-none k spans are = rw (origins_by-more k spans, origin_by-past 0 k k spans are (omega arith)) refl

-- it has this one
abbrev single : Pos → List Span
single first = whole 1 first ∷ []

origins_by-single : (first : Pos) → origins_by 1 (single first) ≡ Some first ∷ []
unfolding origins_by
origins_by-single first = rw add-zero refl

single-moved : (k : ℕ) (first : Pos) → map (moved k) (single first) ≡ record { from = k; len = 1; start = first } ∷ []
single-moved k first = rw add-zero refl

AreSpans-single : (first : Pos) → first.at < 2 ^ 32 → AreSpans 1 (single first)
AreSpans-single first fits = (omega arith, omega arith, omega arith)

pub told-one : (k : ℕ) (spans : List Span) (first : Pos) → first.at < 2 ^ 32 → AreSpans k spans
    → origins_by (k + 1) (spans ++ record { from = k; len = 1; start = first } ∷ []) ≡ origins_by k spans ++ Some first ∷ []
told-one k spans first fits are =
    rw (← single-moved k first, origins_by-append k 1 spans (single first) are (AreSpans-single first fits), origins_by-single first) refl

pub AreSpans-one : (k : ℕ) (spans : List Span) (first : Pos) → first.at < 2 ^ 32 → AreSpans k spans
    → AreSpans (k + 1) (spans ++ record { from = k; len = 1; start = first } ∷ [])
AreSpans-one k spans first fits are = rw (← single-moved k first) (AreSpans-append k 1 spans (single first) are (AreSpans-single first fits))

pub origins_by-none : origins_by 0 [] ≡ []
unfolding origins_by
origins_by-none = refl

pub origin_cases : (t : Token) (k : ℕ) (p : Pos) → origin_at t k ≡ Some p → slice_get t.origins k ≡ Some (Some p)
origin_cases t k p e = by (slice_get t.origins k) e
  where
    by : (o : Option (Option Pos)) → option_and_then (λ (x : Option Pos). x) o ≡ Some p → o ≡ Some (Some p)
    by None f = absurd (cc)
    by (Some x) f = ap (λ (y : Option Pos). Some y) f
