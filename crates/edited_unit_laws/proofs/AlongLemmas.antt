-- What is so of lists, and of the first element of each of their items, along a cut that is made of them.
use Rattle.std.proofs.Common.{◌≡◌, ◌≤◌, ℕ, ◌+◌, ◌-◌, Bool, true, false, cond, List, [], ◌∷◌, refl, sym, subst, arith}
use Rattle.std.specs.Prelude.{nat_le, ◌==◌, ◌&&◌, ◌||◌}
use Rattle.std.proofs.lemmas.Bool.{leb-true, leb-false, eqb-true, and_parts}
use Rattle.list_cuts.specs.Cuts.{Cut, done, keep, list, Items, ended, item, span_of, extent_of}
use Rattle.list_cuts.specs.CutOf.{front, back, is_between, is_free, cut_items, rest_of, cut_of, holds_items, are_nested}
use Rattle.list_cuts.specs.Spans.{end_of}
use Rattle.list_cuts.specs.declared.spans.Span.{Span}
use Rattle.list_cuts.proofs.CutOfLemmas.{free-between as free_between}
use Rattle.edited_unit_laws.specs.Texts.{begin_of, close_of, AreSpans}

module _ (P : ℕ → ℕ → Type 0) (Q : ℕ → Type 0) where
  abbrev mutual
    -- so it is with each list of a cut that begins with this element, from its first to behind its last, and with its items
    pub Along : ℕ → Cut → Type 0
    Along from done = Unit {0}
    Along from (keep n c) = Along (from + n) c
    Along from (list is c) = P from (from + span_of is) × ItemsAlong from is × Along (from + span_of is) c

    pub ItemsAlong : ℕ → Items → Type 0
    ItemsAlong from ended = Unit {0}
    ItemsAlong from (item n c gap more) = Q from × Along from c × ItemsAlong (from + (n + gap)) more

  -- ---- parts of a cut

  along_back : (from b : ℕ) (c : Cut) → is_between b c ≡ true → Along from c → Along (from + b) (back b c)
  unfolding is_between back
  along_back from b done h a = tt
  along_back from b (keep k c) h a = by (nat_le b k) refl h (λ e. along_back (from + k) (b - k) c e a)
    where
      by : (x : Bool) → nat_le b k ≡ x → (x || is_between (b - k) c) ≡ true → (is_between (b - k) c ≡ true → Along (from + k + (b - k)) (back (b - k) c)) → Along (from + b) (cond x (keep (k - b) c) (back (b - k) c))
      by true is e later = let le = leb-true b k is in let same : from + k ≡ from + b + (k - b) = omega (arith, le) in subst (λ (i : ℕ). Along i c) same a
      by false is e later = let lt = leb-false b k is in let same : from + k + (b - k) ≡ from + b = omega (arith, lt) in subst (λ (i : ℕ). Along i (back (b - k) c)) same (later e)
  along_back from b (list is c) h a = by (nat_le (span_of is) b) refl h (λ e. along_back (from + span_of is) (b - span_of is) c e a.2)
    where
      by : (x : Bool) → nat_le (span_of is) b ≡ x → cond x (is_between (b - span_of is) c) (b == 0) ≡ true
          → (is_between (b - span_of is) c ≡ true → Along (from + span_of is + (b - span_of is)) (back (b - span_of is) c)) → Along (from + b) (cond x (back (b - span_of is) c) (list is c))
      by true x_is e later =
          let le = leb-true (span_of is) b x_is in
          let same : from + span_of is + (b - span_of is) ≡ from + b = omega (arith, le) in
          subst (λ (i : ℕ). Along i (back (b - span_of is) c)) same (later e)
      by false x_is e later =
          let none = eqb-true b 0 e in
          let same : from ≡ from + b = omega (arith, none) in
          subst (λ (i : ℕ). Along i (list is c)) same a

  along_front : (from n : ℕ) (c : Cut) → Along from c → Along from (front n c)
  unfolding front
  along_front from n done a = tt
  along_front from n (keep k c) a = by (nat_le n k) (along_front (from + k) (n - k) c a)
    where
      by : (x : Bool) → Along (from + k) (front (n - k) c) → Along from (cond x done (keep k (front (n - k) c)))
      by true later = tt
      by false later = later
  along_front from n (list is c) a = by (nat_le (span_of is) n) (along_front (from + span_of is) (n - span_of is) c a.2)
    where
      by : (x : Bool) → Along (from + span_of is) (front (n - span_of is) c) → Along from (cond x (list is (front (n - span_of is) c)) done)
      by true later = (a.0, a.1, later)
      by false later = tt

-- how far a cut goes
fits_back : (most from b : ℕ) (c : Cut) → is_between b c ≡ true → from + b ≤ most → from + extent_of c ≤ most → from + b + extent_of (back b c) ≤ most
unfolding is_between back extent_of
fits_back most from b done h le fits = omega (arith, le)
fits_back most from b (keep k c) h le fits = by (nat_le b k) refl h (λ e small more. fits_back most (from + k) (b - k) c e small more)
  where
    by : (x : Bool) → nat_le b k ≡ x → (x || is_between (b - k) c) ≡ true
        → (is_between (b - k) c ≡ true → from + k + (b - k) ≤ most → from + k + extent_of c ≤ most → from + k + (b - k) + extent_of (back (b - k) c) ≤ most)
        → from + b + extent_of (cond x (keep (k - b) c) (back (b - k) c)) ≤ most
    by true is e later = let small = leb-true b k is in omega (arith, small, fits)
    by false is e later =
        let lt = leb-false b k is in
        let deep = later e (omega (arith, lt, le)) (omega (arith, fits)) in
        omega (arith, lt, deep)
fits_back most from b (list is c) h le fits = by (nat_le (span_of is) b) refl h (λ e small more. fits_back most (from + span_of is) (b - span_of is) c e small more)
  where
    by : (x : Bool) → nat_le (span_of is) b ≡ x → cond x (is_between (b - span_of is) c) (b == 0) ≡ true
        → (is_between (b - span_of is) c ≡ true → from + span_of is + (b - span_of is) ≤ most → from + span_of is + extent_of c ≤ most
        → from + span_of is + (b - span_of is) + extent_of (back (b - span_of is) c) ≤ most)
        → from + b + extent_of (cond x (back (b - span_of is) c) (list is c)) ≤ most
    by true is_ e later =
        let small = leb-true (span_of is) b is_ in
        let deep = later e (omega (arith, small, le)) (omega (arith, fits)) in
        omega (arith, small, deep)
    by false is_ e later = let none = eqb-true b 0 e in omega (arith, none, fits)

-- ---- lists

-- so it is with the first element of each item
abbrev pub EachHead : (ℕ → Type 0) → List Span → Type 0
EachHead Q [] = Unit {0}
EachHead Q (s ∷ more) = Q s.begin × EachHead Q more

-- where the last item ends, no item begins later
spans_end : (s : Span) (more : List Span) → AreSpans (s ∷ more) → s.begin ≤ end_of s more
unfolding end_of
spans_end s [] h = h
spans_end s (t ∷ more) h =
    let rest = spans_end t more h.2 in
    let one = h.0 in
    let two = h.1 in
    omega (arith, rest, one, two)

-- what is known of the items of a list in front of a cut, and of the cut behind them
record ListAlong (P : ℕ → ℕ → Type 0) (Q : ℕ → Type 0) (most : ℕ) (s : Span) (more : List Span) (c : Cut) : Type 0 where
  items : ItemsAlong P Q s.begin (cut_items c (s ∷ more))
  span : s.begin + span_of (cut_items c (s ∷ more)) ≡ end_of s more
  rest : Along P Q (end_of s more) (rest_of c (s ∷ more))
  fits : end_of s more + extent_of (rest_of c (s ∷ more)) ≤ most

list_along : (P : ℕ → ℕ → Type 0) (Q : ℕ → Type 0) (most : ℕ) (more : List Span) (s : Span) (c : Cut) → holds_items c (s ∷ more) ≡ true → AreSpans (s ∷ more) → EachHead Q (s ∷ more)
    → end_of s more ≤ most → Along P Q s.begin c → s.begin + extent_of c ≤ most → ListAlong P Q most s more c
unfolding cut_items rest_of holds_items span_of end_of
list_along P Q most [] s c holds spans heads last a fits =
    let le = spans in
    let same : s.begin + (s.end - s.begin) ≡ s.end = omega (arith, le) in
    let behind = along_back P Q s.begin (s.end - s.begin) c holds a in
    let far = fits_back most s.begin (s.end - s.begin) c holds (omega (arith, le, last)) fits in
    record {
      items = (heads.0, along_front P Q s.begin (s.end - s.begin) c a, tt);
      span = omega (arith, le);
      rest = subst (λ (i : ℕ). Along P Q i (back (s.end - s.begin) c)) same behind;
      fits = subst (λ (i : ℕ). i + extent_of (back (s.end - s.begin) c) ≤ most) same far;
    }
list_along P Q most (t ∷ more) s c holds spans heads last a fits =
    let le = spans.0 in
    let gap = spans.1 in
    let ends = spans_end t more spans.2 in
    let c1 : Cut = back (s.end - s.begin) c in
    let c2 : Cut = back (t.begin - s.end) c1 in
    let parts = and_parts (is_between (s.end - s.begin) c) (is_free (t.begin - s.end) c1 && holds_items c2 (t ∷ more)) holds in
    let parts2 = and_parts (is_free (t.begin - s.end) c1) (holds_items c2 (t ∷ more)) parts.1 in
    let same : s.begin + (s.end - s.begin) ≡ s.end = omega (arith, le) in
    let same2 : s.end + (t.begin - s.end) ≡ t.begin = omega (arith, gap) in
    let next : s.begin + (s.end - s.begin + (t.begin - s.end)) ≡ t.begin = omega (arith, le, gap) in
    let a1 : Along P Q s.end c1 = subst (λ (i : ℕ). Along P Q i c1) same (along_back P Q s.begin (s.end - s.begin) c parts.0 a) in
    let between = free_between (t.begin - s.end) c1 parts2.0 in
    let a2 : Along P Q t.begin c2 = subst (λ (i : ℕ). Along P Q i c2) same2 (along_back P Q s.end (t.begin - s.end) c1 between a1) in
    let f1 : s.end + extent_of c1 ≤ most =
    subst (λ (i : ℕ). i + extent_of c1 ≤ most) same (fits_back most s.begin (s.end - s.begin) c parts.0 (omega (arith, le, gap, ends, last)) fits) in
    let f2 : t.begin + extent_of c2 ≤ most =
    subst (λ (i : ℕ). i + extent_of c2 ≤ most) same2 (fits_back most s.end (t.begin - s.end) c1 between (omega (arith, gap, ends, last)) f1) in
    let k = list_along P Q most more t c2 parts2.1 spans.2 heads.1 last a2 f2 in
    let span = k.span in
    record {
      items = (heads.0, along_front P Q s.begin (s.end - s.begin) c a, subst (λ (i : ℕ). ItemsAlong P Q i (cut_items c2 (t ∷ more))) (sym next) k.items);
      span = omega (arith, le, gap, span);
      rest = k.rest;
      fits = k.fits;
    }

-- what is asked of each list
pub record IsSpanned (P : ℕ → ℕ → Type 0) (Q : ℕ → Type 0) (most : ℕ) (l : List Span) : Type 0 where
  pub spans : AreSpans l
  pub heads : EachHead Q l
  pub here : P (begin_of l) (close_of l)
  pub last : close_of l ≤ most

abbrev pub AreSpanned : (ℕ → ℕ → Type 0) → (ℕ → Type 0) → ℕ → List (List Span) → Type 0
AreSpanned P Q most [] = Unit {0}
AreSpanned P Q most (l ∷ lists) = IsSpanned P Q most l × AreSpanned P Q most lists

-- the cut of lists that stand in one another
pub lists_along : (P : ℕ → ℕ → Type 0) (Q : ℕ → Type 0) (most : ℕ) (lists : List (List Span)) → are_nested lists ≡ true → AreSpanned P Q most lists
    → Along P Q 0 (cut_of lists) × (0 + extent_of (cut_of lists) ≤ most)
unfolding cut_of are_nested extent_of
lists_along P Q most [] nested all = (tt, omega arith)
lists_along P Q most ([] ∷ lists) nested all = absurd all.0.spans
lists_along P Q most ((s ∷ more) ∷ lists) nested all =
    let c : Cut = cut_of lists in
    let parts = and_parts (is_free s.begin c && holds_items (back s.begin c) (s ∷ more)) (are_nested lists) nested in
    let parts2 = and_parts (is_free s.begin c) (holds_items (back s.begin c) (s ∷ more)) parts.0 in
    let k = lists_along P Q most lists parts.1 all.1 in
    let one = all.0 in
    let last = one.last in
    let ends = spans_end s more one.spans in
    let same : 0 + s.begin ≡ s.begin = omega arith in
    let between = free_between s.begin c parts2.0 in
    let a : Along P Q s.begin (back s.begin c) = subst (λ (i : ℕ). Along P Q i (back s.begin c)) same (along_back P Q 0 s.begin c between k.0) in
    let f : s.begin + extent_of (back s.begin c) ≤ most =
    subst (λ (i : ℕ). i + extent_of (back s.begin c) ≤ most) same (fits_back most 0 s.begin c between (omega (arith, last, ends)) k.1) in
    let r = list_along P Q most more s (back s.begin c) parts2.1 one.spans one.heads last a f in
    let span = r.span in
    let fits = r.fits in
    let whole : Along P Q s.begin (list (cut_items (back s.begin c) (s ∷ more)) (rest_of (back s.begin c) (s ∷ more))) = (
      subst (λ (i : ℕ). P s.begin i) (sym span) one.here,
      r.items,
      subst (λ (i : ℕ). Along P Q i (rest_of (back s.begin c) (s ∷ more))) (sym span) r.rest,
    ) in
    (subst (λ (i : ℕ). Along P Q i (list (cut_items (back s.begin c) (s ∷ more)) (rest_of (back s.begin c) (s ∷ more)))) (sym same) whole, omega (arith, span, fits))
