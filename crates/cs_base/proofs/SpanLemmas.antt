-- Spans of a token's origins.
use Rattle.std.proofs.Common.{◌≡◌, ℕ, zero, suc, Bool, true, false, ◌+◌, ◌-◌, ◌<◌, ◌≤◌, ◌^◌, nat_le, if◌then◌else◌, List, [], ◌∷◌, ◌++◌, length, take, map, get_or, refl, arith, leb-true, leb-false}
use Rattle.std.specs.Prelude.{Some, None}
use Rattle.std.proofs.lemmas.Bool.Decides.{nat_tests}
use Rattle.std.proofs.lemmas.List.Sorted.{IsPartitionedBy-leb}
use Rattle.std.specs.List.Sorted.{IsPartitionedBy}
use Rattle.cs_base.specs.declared.spans.Span.{Span}
use Rattle.cs_base.specs.Spans.{lies_in, told_by, origin_by, AreSpansFrom, AreSpans, Reached, moved}

-- ---- one span

-- a span that begins later does not have the character
begins_later : (s : Span) (k : ℕ) → k < s.from → lies_in s k ≡ false
begins_later s k later = grind (arith, nat_tests)

-- nor one that ended before
ended_before : (s : Span) (k : ℕ) → s.from + s.len ≤ k → lies_in s k ≡ false
ended_before s k ended = grind (arith, nat_tests)

lies_in-moved : (n : ℕ) (s : Span) (k : ℕ) → lies_in (moved n s) (n + k) ≡ lies_in s k
lies_in-moved n s k = grind (arith, nat_tests)

told_by-moved : (n : ℕ) (s : Span) (k : ℕ) → told_by (moved n s) (n + k) ≡ told_by s k
told_by-moved n s k =
    let same : n + k - (n + s.from) ≡ k - s.from = omega arith in
    rw same refl

-- ---- the origin of one character

pub AreSpansFrom-le : (from n : ℕ) (spans : List Span) → AreSpansFrom from n spans → from ≤ n
AreSpansFrom-le from n [] are = are
AreSpansFrom-le from n (s ∷ spans) are = omega (arith, AreSpansFrom-le (s.from + s.len) n spans are.2, are.0)

-- none past the end
pub origin_by-past : (from n k : ℕ) (spans : List Span) → AreSpansFrom from n spans → n ≤ k → origin_by spans k ≡ None
origin_by-past from n k [] are past = refl
origin_by-past from n k (s ∷ spans) are past =
    let ended : s.from + s.len ≤ k = omega (arith, AreSpansFrom-le (s.from + s.len) n spans are.2) in
    rw (ended_before s k ended) (origin_by-past (s.from + s.len) n k spans are.2 past)

-- none before the first
pub origin_by-before : (from n k : ℕ) (spans : List Span) → AreSpansFrom from n spans → k < from
    → origin_by spans k ≡ None
origin_by-before from n k [] are before = refl
origin_by-before from n k (s ∷ spans) are before =
    let later : k < s.from = omega (arith, are.0) in
    let on : k < s.from + s.len = omega arith in
    rw (begins_later s k later) (origin_by-before (s.from + s.len) n k spans are.2 on)

pub origin_by-moved : (n k : ℕ) (spans : List Span) → origin_by (map (moved n) spans) (n + k) ≡ origin_by spans k
origin_by-moved n k [] = refl
origin_by-moved n k (s ∷ spans) = rw (lies_in-moved n s k, told_by-moved n s k, origin_by-moved n k spans) refl

-- of spans in a row, those that tell
pub origin_by-left : (xs ys : List Span) (k : ℕ) → origin_by ys k ≡ None → origin_by (xs ++ ys) k ≡ origin_by xs k
origin_by-left [] ys k none = none
origin_by-left (s ∷ xs) ys k none = rw (origin_by-left xs ys k none) refl

pub origin_by-right : (xs ys : List Span) (k : ℕ) → origin_by xs k ≡ None → origin_by (xs ++ ys) k ≡ origin_by ys k
origin_by-right [] ys k none = refl
origin_by-right (s ∷ xs) ys k none =
    elim (lies_in s k) as (λ (b : Bool). (if b then Some (told_by s k) else origin_by xs k) ≡ None
    → (if b then Some (told_by s k) else origin_by (xs ++ ys) k) ≡ origin_by ys k)
    [ true ↦ λ told. absurd cc | false ↦ λ on. origin_by-right xs ys k on ] none

-- ---- spans

AreSpansFrom-earlier : (from first n : ℕ) (spans : List Span) → first ≤ from → AreSpansFrom from n spans
    → AreSpansFrom first n spans
AreSpansFrom-earlier from first n [] earlier are = omega arith
AreSpansFrom-earlier from first n (s ∷ spans) earlier are = (omega (arith, are.0), are.1, are.2)

pub AreSpansFrom-more : (from n more : ℕ) (spans : List Span) → n ≤ more → AreSpansFrom from n spans
    → AreSpansFrom from more spans
AreSpansFrom-more from n more [] l are = omega arith
AreSpansFrom-more from n more (s ∷ spans) l are = (are.0, are.1, AreSpansFrom-more (s.from + s.len) n more spans l are.2)

pub AreSpansFrom-moved : (from m n : ℕ) (spans : List Span) → AreSpansFrom from n spans
    → AreSpansFrom (m + from) (m + n) (map (moved m) spans)
AreSpansFrom-moved from m n [] are = omega arith
AreSpansFrom-moved from m n (s ∷ spans) are =
    let on : m + s.from + s.len ≡ m + (s.from + s.len) = omega arith in
    (omega (arith, are.0), are.1, rw on (AreSpansFrom-moved (s.from + s.len) m n spans are.2))

AreSpansFrom-append : (from m n : ℕ) (xs ys : List Span) → AreSpansFrom from m xs → AreSpansFrom m n ys
    → AreSpansFrom from n (xs ++ ys)
AreSpansFrom-append from m n [] ys are more = AreSpansFrom-earlier m from n ys are more
AreSpansFrom-append from m n (s ∷ xs) ys are more = (are.0, are.1, AreSpansFrom-append (s.from + s.len) m n xs ys are.2 more)

AreSpansFrom-take : (from n k : ℕ) (spans : List Span) → AreSpansFrom from n spans
    → AreSpansFrom from n (take k spans)
AreSpansFrom-take from n zero spans are = AreSpansFrom-le from n spans are
AreSpansFrom-take from n (suc k) [] are = are
AreSpansFrom-take from n (suc k) (s ∷ spans) are = (are.0, are.1, AreSpansFrom-take (s.from + s.len) n k spans are.2)

pub AreSpans-append : (m n : ℕ) (xs ys : List Span) → AreSpans m xs → AreSpans n ys
    → AreSpans (m + n) (xs ++ map (moved m) ys)
AreSpans-append m n xs ys before are =
    let same : m + 0 ≡ m = omega arith in
    AreSpansFrom-append 0 m (m + n) xs (map (moved m) ys) before (rw same at (AreSpansFrom-moved 0 m n ys are))

pub AreSpans-take : (n k : ℕ) (spans : List Span) → AreSpans n spans → AreSpans n (take k spans)
AreSpans-take n k spans are = AreSpansFrom-take 0 n k spans are

pub AreSpans-more : (n more : ℕ) (spans : List Span) → n ≤ more → AreSpans n spans → AreSpans more spans
AreSpans-more n more spans l are = AreSpansFrom-more 0 n more spans l are

-- each is within
pub AreSpans-within : (from n k : ℕ) (spans : List Span) (d : Span) → AreSpansFrom from n spans → k < length spans
    → (get_or spans k d).from + (get_or spans k d).len ≤ n
AreSpans-within from n k [] d are within = absurd (omega arith)
AreSpans-within from n zero (s ∷ spans) d are within = AreSpansFrom-le (s.from + s.len) n spans are.2
AreSpans-within from n (suc k) (s ∷ spans) d are within = AreSpans-within (s.from + s.len) n k spans d are.2 (omega arith)

-- those that begin later stand behind
AreSpans-first : (from n k : ℕ) (spans : List Span) (d : Span) → AreSpansFrom from n spans → k < length spans
    → from ≤ (get_or spans k d).from
AreSpans-first from n k [] d are within = absurd (omega arith)
AreSpans-first from n zero (s ∷ spans) d are within = are.0
AreSpans-first from n (suc k) (s ∷ spans) d are within =
    omega (arith, AreSpans-first (s.from + s.len) n k spans d are.2 (omega arith), are.0)

AreSpans-rise : (from n i j : ℕ) (spans : List Span) (d : Span) → AreSpansFrom from n spans → i ≤ j → j < length spans
    → (get_or spans i d).from ≤ (get_or spans j d).from
AreSpans-rise from n i j [] d are order within = absurd (omega arith)
AreSpans-rise from n zero zero (s ∷ spans) d are order within = omega arith
AreSpans-rise from n zero (suc j) (s ∷ spans) d are order within =
    omega (arith, AreSpans-first (s.from + s.len) n j spans d are.2 (omega arith))
AreSpans-rise from n (suc i) zero (s ∷ spans) d are order within = absurd (omega arith)
AreSpans-rise from n (suc i) (suc j) (s ∷ spans) d are order within = AreSpans-rise (s.from + s.len) n i j spans d are.2 (omega arith) (omega arith)

pub AreSpans-partitioned : (n k : ℕ) (spans : List Span) → AreSpans n spans
    → IsPartitionedBy (λ s. nat_le s.from k) spans
AreSpans-partitioned n k spans are = IsPartitionedBy-leb (λ s. s.from) spans k (λ i j d order within. AreSpans-rise 0 n i j spans d are order within)

-- each character of each has a number
pub AreSpans-numbered : (from n k : ℕ) (spans : List Span) (d : Span) → AreSpansFrom from n spans → k < length spans
    → (get_or spans k d).start.at + (get_or spans k d).len ≤ 2 ^ 32
AreSpans-numbered from n k [] d are within = absurd (omega arith)
AreSpans-numbered from n zero (s ∷ spans) d are within = are.1
AreSpans-numbered from n (suc k) (s ∷ spans) d are within = AreSpans-numbered (s.from + s.len) n k spans d are.2 (omega arith)

-- ---- the span that tells

-- where none begins at the character or before it, none tells its origin
origin_by-none : (k : ℕ) (spans : List Span) → ((i : ℕ) (d : Span) → i < length spans
    → nat_le (get_or spans i d).from k ≡ false) → origin_by spans k ≡ None
origin_by-none k [] later = refl
origin_by-none k (s ∷ spans) later =
    let here : k < s.from = leb-false s.from k (later 0 s (omega arith)) in
    rw (begins_later s k here) (origin_by-none k spans (λ i d within. later (suc i) d (omega arith)))

pub Reached-none : (k : ℕ) (spans : List Span) → Reached spans k 0 → origin_by spans k ≡ None
Reached-none k spans found = origin_by-none k spans (λ i d within. found.1 i d (omega arith) within)

-- else the last of those that do
pub Reached-last : (from n k i : ℕ) (spans : List Span) (d : Span) → AreSpansFrom from n spans → i < length spans
    → Reached spans k (suc i)
    → origin_by spans k ≡ origin_by (get_or spans i d ∷ []) k
Reached-last from n k i [] d are within found = absurd (omega arith)
Reached-last from n k zero (s ∷ spans) d are within found =
    let behind : origin_by spans k ≡ None = origin_by-none k spans (λ i e l. found.1 (suc i) e (omega arith) (omega arith)) in
    rw behind refl
Reached-last from n k (suc i) (s ∷ spans) d are within found =
    let reached : (get_or spans i d).from ≤ k = leb-true _ _ (found.0 (suc i) d (omega arith) (omega arith)) in
    let ended : s.from + s.len ≤ k = omega (arith, AreSpans-first (s.from + s.len) n i spans d are.2 (omega arith)) in
    rw (ended_before s k ended)
    (Reached-last (s.from + s.len) n k i spans d are.2 (omega arith)
    (λ j e low high. found.0 (suc j) e (omega arith) (omega arith), λ j e low high. found.1 (suc j) e (omega arith) (omega arith)))
