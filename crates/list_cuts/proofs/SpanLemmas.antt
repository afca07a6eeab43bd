-- Where the items of a list stand in a text.
use Rattle.std.proofs.Common.{ℕ, zero, suc, ◌+◌, ◌-◌, ◌≡◌, ◌<◌, ◌≤◌, true, List, [], ◌∷◌, length, take, drop, get_or, refl, ap, arith}
use Rattle.std.specs.Prelude.{nat_le, ◌&&◌}
use Rattle.std.proofs.lemmas.Bool.{and_parts, leb-true}
use Rattle.std.proofs.lemmas.List.{drop_all, drop_more}
use Rattle.list_cuts.specs.declared.spans.Span.{Span}
use Rattle.list_cuts.specs.Spans.{between, stand_in_order}

abbrev pub no_span : Span
no_span = record { begin = 0; end = 0 }

-- What is so of an item of a list that stands in order, from an element on, in a text of so many.
pub record Stands (from size : ℕ) (s : Span) : Type 0 where
  pub behind : from ≤ s.begin
  pub whole : s.begin ≤ s.end
  pub within : s.end ≤ size

-- the first item, and the others behind it
pub record First (from size : ℕ) (s : Span) (more : List Span) : Type 0 where
  pub behind : from ≤ s.begin
  pub whole : s.begin ≤ s.end
  pub others : stand_in_order s.end size more ≡ true

pub first_stands : (from size : ℕ) (s : Span) (more : List Span) → stand_in_order from size (s ∷ more) ≡ true → First from size s more
unfolding stand_in_order
first_stands from size s more h =
    let p = and_parts (nat_le from s.begin) (nat_le s.begin s.end && stand_in_order s.end size more) h in
    let q = and_parts (nat_le s.begin s.end) (stand_in_order s.end size more) p.1 in
    record { behind = leb-true from s.begin p.0; whole = leb-true s.begin s.end q.0; others = q.1 }

-- the elements from which a list stands in order are not past the text
pub from_within : (from size : ℕ) (l : List Span) → stand_in_order from size l ≡ true → from ≤ size
unfolding stand_in_order
from_within from size [] h = leb-true from size h
from_within from size (s ∷ more) h =
    let f = first_stands from size s more h in
    let rest = from_within s.end size more f.others in
    omega (arith, f.behind, f.whole, rest)

pub stands : (from size k : ℕ) (l : List Span) → stand_in_order from size l ≡ true → k < length l → Stands from size (get_or l k no_span)
stands from size k [] h lt = absurd (omega (arith, lt))
stands from size zero (s ∷ more) h lt =
    let f = first_stands from size s more h in
    record { behind = f.behind; whole = f.whole; within = from_within s.end size more f.others }
stands from size (suc k) (s ∷ more) h lt =
    let f = first_stands from size s more h in
    let r = stands s.end size k more f.others (omega (arith, lt)) in
    record { behind = omega (arith, f.behind, f.whole, r.behind); whole = r.whole; within = r.within }

-- an item stands behind the one before it
pub stands_behind : (from size k : ℕ) (l : List Span) → stand_in_order from size l ≡ true → k + 1 < length l
    → (get_or l k no_span).end ≤ (get_or l (k + 1) no_span).begin
stands_behind from size k [] h lt = absurd (omega (arith, lt))
stands_behind from size zero (s ∷ []) h lt = absurd (omega (arith, lt))
stands_behind from size zero (s ∷ t ∷ more) h lt =
    let f = first_stands from size s (t ∷ more) h in
    (first_stands s.end size t more f.others).behind
stands_behind from size (suc k) (s ∷ more) h lt =
    let f = first_stands from size s more h in
    let on : suc k + 1 ≡ suc (k + 1) = omega arith in
    rw on (stands_behind s.end size k more f.others (omega (arith, lt)))

-- ---- the texts of items, and what stands between them

pub between_at : {X : Type 0} (xs : List X) (l : List Span) (k : ℕ) → k + 1 < length l
    → get_or (between xs l) k [] ≡ take ((get_or l (k + 1) no_span).begin - (get_or l k no_span).end) (drop (get_or l k no_span).end xs)
unfolding between
between_at xs [] k lt = absurd (omega (arith, lt))
between_at xs (s ∷ []) zero lt = absurd (omega (arith, lt))
between_at xs (s ∷ []) (suc k) lt = absurd (omega (arith, lt))
between_at xs (s ∷ t ∷ more) zero lt = refl
between_at xs (s ∷ t ∷ more) (suc k) lt =
    let on : suc k + 1 ≡ suc (k + 1) = omega arith in
    rw on (between_at xs (t ∷ more) k (omega (arith, lt)))

pub between_last : {X : Type 0} (xs : List X) (l : List Span) (k : ℕ) → length l ≤ k + 1 → get_or (between xs l) k [] ≡ []
unfolding between
between_last xs [] k le = refl
between_last xs (s ∷ []) zero le = refl
between_last xs (s ∷ []) (suc k) le = refl
between_last xs (s ∷ t ∷ more) zero le = absurd (omega (arith, le))
between_last xs (s ∷ t ∷ more) (suc k) le = between_last xs (t ∷ more) k (omega (arith, le))

pub length-between : {X : Type 0} (xs : List X) (l : List Span) → length (between xs l) ≡ length l
unfolding between
length-between xs [] = refl
length-between xs (s ∷ []) = refl
length-between xs (s ∷ t ∷ more) = ap (λ (n : ℕ). suc n) (length-between xs (t ∷ more))

-- ---- from one item on

pub in_order_past : (from size k : ℕ) (l : List Span) → length l ≤ k → stand_in_order from size (drop k l) ≡ nat_le from size
unfolding stand_in_order
in_order_past from size k l past = rw (drop_all k l past) refl

pub in_order_next : (from size k : ℕ) (l : List Span) → k < length l
    → stand_in_order from size (drop k l)
    ≡ (nat_le from (get_or l k no_span).begin && (nat_le (get_or l k no_span).begin (get_or l k no_span).end
    && stand_in_order (get_or l k no_span).end size (drop (k + 1) l)))
unfolding stand_in_order
in_order_next from size k l lt = rw (drop_more l k no_span lt) refl
