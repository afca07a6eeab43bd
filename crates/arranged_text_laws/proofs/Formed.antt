-- Cuts of lists that stand in one another: how they are formed, and what is so of each list along them.
use Rattle.std.proofs.Common.{◌≡◌, ℕ, ◌+◌, ◌-◌, ◌<◌, ◌≤◌, true, false, ◌&&◌, nat_le, List, [], ◌∷◌, refl, sym, ap, subst, ◌∙◌, arith, inl, inr}
use Rattle.std.specs.Prelude.{◌⊎◌}
use Rattle.std.proofs.lemmas.Bool.{cases_Bool, and_parts, leb-true, leb-false, le-leb, eqb-true}
use Rattle.list_cuts.specs.declared.spans.Span.{Span}
use Rattle.list_cuts.specs.Cuts.{Cut, done, keep, list, Items, ended, item, count_of, span_of, extent_of}
use Rattle.list_cuts.specs.Spans.{end_of}
use Rattle.list_cuts.specs.CutOf.{front, back, is_between, is_free, cut_items, rest_of, cut_of, holds_items, is_around, are_nested}
use Rattle.list_cuts.proofs.CutOfLemmas.{free-between as free_between}
use Rattle.arranged_text_laws.specs.Labels.{IsListed, IsLed}

-- no list begins a cut
abbrev pub IsKept : Cut → Type 0
IsKept done = Unit {0}
IsKept (keep n c) = Unit {0}
IsKept (list is c) = ⊥

-- nothing stands behind the last item
abbrev pub IsGapOf : ℕ → Items → Type 0
IsGapOf gap ended = gap ≡ 0
IsGapOf gap (item n c further more) = 0 < gap

-- no list begins where the first item of one does
abbrev pub FirstIsLed : Items → Type 0
FirstIsLed ended = Unit {0}
FirstIsLed (item n c gap more) = IsLed c

abbrev mutual
  -- how cuts of lists are formed
  pub Formed : Cut → Type 0
  Formed done = Unit {0}
  Formed (keep n c) = IsListed c × Formed c
  Formed (list is c) = (0 < count_of is) × FirstIsLed is × FormedItems is × IsKept c × Formed c

  pub FormedItems : Items → Type 0
  FormedItems ended = Unit {0}
  FormedItems (item n c gap more) = (0 < n) × (extent_of c ≤ n) × IsKept c × Formed c × IsGapOf gap more × FormedItems more

-- ---- parts

-- where the first elements end: before the first list, or behind it
pub falls : (n k : ℕ) (is : Items) (c : Cut) → is_between n (keep k (list is c)) ≡ true → (n ≤ k) ⊎ ((k < n) × (span_of is ≤ n - k))
unfolding is_between
falls n k is c h = elim (cases_Bool (nat_le n k)) [
  | inl short ↦ inl (leb-true n k short)
  | inr long ↦
      let past = leb-false n k long in
      elim (cases_Bool (nat_le (span_of is) (n - k))) [
        | inl whole ↦ inr (past, leb-true (span_of is) (n - k) whole)
        | inr part ↦
            let none = eqb-true (n - k) 0 (rw (long, part) at h) in
            absurd (omega (arith, past, none))
      ]
]

pub front_short : (n k : ℕ) (c : Cut) → n ≤ k → front n (keep k c) ≡ done
unfolding front
front_short n k c le = let s = le-leb n k le in rw s refl

pub back_short : (n k : ℕ) (c : Cut) → n ≤ k → back n (keep k c) ≡ keep (k - n) c
unfolding back
back_short n k c le = let s = le-leb n k le in rw s refl

pub between_short : (n k : ℕ) (c : Cut) → n ≤ k → is_between n (keep k c) ≡ true
unfolding is_between
between_short n k c le = let s = le-leb n k le in rw s refl

pub free_short : (n k : ℕ) (c : Cut) → n ≤ k → is_free n (keep k c) ≡ true
unfolding is_free
free_short n k c le = let s = le-leb n k le in rw s refl

not_le : (n k : ℕ) → k < n → nat_le n k ≡ false
not_le n k lt = elim (cases_Bool (nat_le n k)) [ inl le ↦ let no_way = leb-true n k le in absurd (omega (arith, lt, no_way)) | inr more ↦ more ]

pub front_past : (n k : ℕ) (is : Items) (c : Cut) → k < n → span_of is ≤ n - k → front n (keep k (list is c)) ≡ keep k (list is (front (n - k - span_of is) c))
unfolding front
front_past n k is c lt le = let l = not_le n k lt in let w = le-leb (span_of is) (n - k) le in rw (l, w) refl

pub back_past : (n k : ℕ) (is : Items) (c : Cut) → k < n → span_of is ≤ n - k → back n (keep k (list is c)) ≡ back (n - k - span_of is) c
unfolding back
back_past n k is c lt le = let l = not_le n k lt in let w = le-leb (span_of is) (n - k) le in rw (l, w) refl

pub between_past : (n k : ℕ) (is : Items) (c : Cut) → k < n → span_of is ≤ n - k → is_between n (keep k (list is c)) ≡ is_between (n - k - span_of is) c
unfolding is_between
between_past n k is c lt le = let l = not_le n k lt in let w = le-leb (span_of is) (n - k) le in rw (l, w) refl

-- the parts of a cut are formed as it is
pub record PartsFormed (n : ℕ) (c : Cut) : Type 0 where
  pub front_formed : Formed (front n c)
  pub front_kept : IsKept (front n c)
  pub front_small : extent_of (front n c) ≤ n
  pub back_formed : Formed (back n c)
  pub back_kept : IsKept (back n c)
  pub back_small : (q : ℕ) → extent_of c ≤ n + q → extent_of (back n c) ≤ q

pub parts_formed : (n : ℕ) (c : Cut) → Formed c → IsKept c → is_between n c ≡ true → PartsFormed n c
unfolding front back extent_of
parts_formed n done f kept h = record {
  front_formed = tt;
  front_kept = tt;
  front_small = omega arith;
  back_formed = tt;
  back_kept = tt;
  back_small = λ q le. omega arith;
}
parts_formed n (keep k done) f kept h = absurd f.0
parts_formed n (keep k (keep j c)) f kept h = absurd f.0
parts_formed n (keep k (list is c)) f kept h = elim (falls n k is c h) [
  | inl short ↦
      let a = front_short n k (list is c) short in
      let b = back_short n k (list is c) short in
      record {
        front_formed = rw a tt;
        front_kept = rw a tt;
        front_small = rw a (omega arith);
        back_formed = rw b f;
        back_kept = rw b tt;
        back_small = λ q le. rw b (omega (arith, short, le));
      }
  | inr past ↦
      let a = front_past n k is c past.0 past.1 in
      let b = back_past n k is c past.0 past.1 in
      let rest = parts_formed (n - k - span_of is) c f.1.4 f.1.3 (sym (between_past n k is c past.0 past.1) ∙ h) in
      record {
        front_formed = rw a (tt, (f.1.0, f.1.1, f.1.2, rest.front_kept, rest.front_formed));
        front_kept = rw a tt;
        front_small = rw a (let s = rest.front_small in omega (arith, s, past.0, past.1));
        back_formed = rw b rest.back_formed;
        back_kept = rw b rest.back_kept;
        back_small = λ q le. rw b (rest.back_small q (omega (arith, past.0, past.1, le)));
      }
]
parts_formed n (list is c) f kept h = absurd kept

-- ---- lists

-- items stand one behind the other, and something between each two
abbrev pub Chain : List Span → Type 0
Chain [] = ⊥
Chain (s ∷ []) = s.begin < s.end
Chain (s ∷ t ∷ more) = (s.begin < s.end) × (s.end < t.begin) × Chain (t ∷ more)

-- the spans of items, where the first begins with this element
abbrev pub spans_at : ℕ → Items → List Span
spans_at i ended = []
spans_at i (item n c gap more) = record { begin = i; end = i + n } ∷ spans_at (i + (n + gap)) more

abbrev mutual
  -- so it is with each list along a cut, by the spans of its items
  pub Each : (List Span → Type 0) → ℕ → Cut → Type 0
  Each q i done = Unit {0}
  Each q i (keep n c) = Each q (i + n) c
  Each q i (list is c) = q (spans_at i is) × EachIn q i is × Each q (i + span_of is) c

  pub EachIn : (List Span → Type 0) → ℕ → Items → Type 0
  EachIn q i ended = Unit {0}
  EachIn q i (item n c gap more) = Each q i c × EachIn q (i + (n + gap)) more

pub parts_each : (q : List Span → Type 0) (i n : ℕ) (c : Cut) → Formed c → IsKept c → is_between n c ≡ true → Each q i c
    → Each q i (front n c) × Each q (i + n) (back n c)
unfolding front back
parts_each q i n done f kept h e = (tt, tt)
parts_each q i n (keep k done) f kept h e = absurd f.0
parts_each q i n (keep k (keep j c)) f kept h e = absurd f.0
parts_each q i n (keep k (list is c)) f kept h e = elim (falls n k is c h) [
  | inl short ↦
      let a = front_short n k (list is c) short in
      let b = back_short n k (list is c) short in
      let at : i + n + (k - n) ≡ i + k = omega (arith, short) in (
        rw a tt,
        rw b (subst (λ (j : ℕ). Each q j (list is c)) (sym at) e),
      )
  | inr past ↦
      let a = front_past n k is c past.0 past.1 in
      let b = back_past n k is c past.0 past.1 in
      let rest = parts_each q (i + k + span_of is) (n - k - span_of is) c f.1.4 f.1.3 (sym (between_past n k is c past.0 past.1) ∙ h) e.2 in
      let at : i + k + span_of is + (n - k - span_of is) ≡ i + n = omega (arith, past.0, past.1) in (
        rw a (e.0, e.1, rest.0),
        rw b (subst (λ (j : ℕ). Each q j (back (n - k - span_of is) c)) at rest.1),
      )
]
parts_each q i n (list is c) f kept h e = absurd kept

-- an item's list begins behind its begin, where all lists begin behind this element
abbrev pub BeginsPast : ℕ → Cut → Type 0
BeginsPast n done = Unit {0}
BeginsPast n (keep k c) = n < k
BeginsPast n (list is c) = ⊥

-- What is so of a list in front of a cut.
pub record ItemsFormed (q : List Span → Type 0) (size : ℕ) (s : Span) (more : List Span) (d : Cut) : Type 0 where
  pub items : FormedItems (cut_items d (s ∷ more))
  pub count : 0 < count_of (cut_items d (s ∷ more))
  pub spans : spans_at s.begin (cut_items d (s ∷ more)) ≡ s ∷ more
  pub ends : s.begin + span_of (cut_items d (s ∷ more)) ≡ end_of s more
  pub rest : Formed (rest_of d (s ∷ more))
  pub kept : IsKept (rest_of d (s ∷ more))
  pub small : end_of s more + extent_of (rest_of d (s ∷ more)) ≤ size
  pub inner : EachIn q s.begin (cut_items d (s ∷ more))
  pub outer : Each q (end_of s more) (rest_of d (s ∷ more))
  pub past : s.begin < end_of s more

pub chain_end : (more : List Span) (t : Span) → Chain (t ∷ more) → t.begin < end_of t more
unfolding end_of
chain_end [] t h = h
chain_end (u ∷ more) t h = let later = chain_end more u h.2 in omega (arith, h.0, h.1, later)

gap_some : (more : List Span) (t : Span) (d : Cut) (gap : ℕ) → 0 < gap → IsGapOf gap (cut_items d (t ∷ more))
unfolding cut_items
gap_some [] t d gap lt = lt
gap_some (u ∷ more) t d gap lt = lt

pub items_formed : (q : List Span → Type 0) (size : ℕ) (more : List Span) (s : Span) (d : Cut) → Chain (s ∷ more) → end_of s more ≤ size → Formed d → IsKept d
    → s.begin + extent_of d ≤ size → holds_items d (s ∷ more) ≡ true → Each q s.begin d → ItemsFormed q size s more d
unfolding cut_items rest_of holds_items end_of count_of span_of
items_formed q size [] s d chain within f kept small h e =
    let n = s.end - s.begin in
    let on : s.begin + n ≡ s.end = omega (arith, chain) in
    let p = parts_formed n d f kept h in
    let pe = parts_each q s.begin n d f kept h e in
    let rest_small = p.back_small (size - s.end) (omega (arith, chain, within, small)) in
    record {
      items = (omega (arith, chain), p.front_small, p.front_kept, p.front_formed, refl, tt);
      count = omega arith;
      spans = ap (λ (j : ℕ). record { begin = s.begin; end = j } ∷ []) on;
      ends = omega (arith, chain);
      rest = p.back_formed;
      kept = p.back_kept;
      small = omega (arith, rest_small, within);
      inner = (pe.0, tt);
      outer = subst (λ (j : ℕ). Each q j (back n d)) on pe.1;
      past = chain;
    }
items_formed q size (t ∷ more) s d chain within f kept small h e =
    let n = s.end - s.begin in
    let gap = t.begin - s.end in
    let on : s.begin + n ≡ s.end = omega (arith, chain.0) in
    let over : s.end + gap ≡ t.begin = omega (arith, chain.1) in
    let both : s.begin + (n + gap) ≡ t.begin = omega (arith, chain.0, chain.1) in
    let p0 = and_parts (is_between n d) (is_free gap (back n d) && holds_items (back gap (back n d)) (t ∷ more)) h in
    let p1 = and_parts (is_free gap (back n d)) (holds_items (back gap (back n d)) (t ∷ more)) p0.1 in
    let p = parts_formed n d f kept p0.0 in
    let pe = parts_each q s.begin n d f kept p0.0 e in
    let between = free_between gap (back n d) p1.0 in
    let g = parts_formed gap (back n d) p.back_formed p.back_kept between in
    let ge = parts_each q (s.begin + n) gap (back n d) p.back_formed p.back_kept between pe.1 in
    let at : s.begin + n + gap ≡ t.begin = omega (arith, on, over) in
    let ends_late = chain_end more t chain.2 in
    let small1 = p.back_small (size - s.end) (omega (arith, chain.0, chain.1, within, small, ends_late)) in
    let small2 = g.back_small (size - t.begin) (omega (arith, small1, chain.1, within, ends_late)) in
    let next = items_formed q size more t (back gap (back n d)) chain.2 within g.back_formed g.back_kept (omega (arith, small2, ends_late, within)) p1.1
    (subst (λ (j : ℕ). Each q j (back gap (back n d))) at ge.1) in
    record {
      items = (omega (arith, chain.0), p.front_small, p.front_kept, p.front_formed, gap_some more t (back gap (back n d)) gap (omega (arith, chain.1)), next.items);
      count = omega arith;
      spans = ap (λ (j : ℕ). record { begin = s.begin; end = j } ∷ spans_at (s.begin + (n + gap)) (cut_items (back gap (back n d)) (t ∷ more))) on
          ∙ ap (λ (l : List Span). s ∷ l) (ap (λ (j : ℕ). spans_at j (cut_items (back gap (back n d)) (t ∷ more))) both ∙ next.spans);
      ends = let e2 = next.ends in omega (arith, e2, chain.0, chain.1);
      rest = next.rest;
      kept = next.kept;
      small = next.small;
      inner = (pe.0, subst (λ (j : ℕ). EachIn q j (cut_items (back gap (back n d)) (t ∷ more))) (sym both) next.inner);
      outer = next.outer;
      past = omega (arith, chain.0, chain.1, ends_late);
    }

-- ---- the cut of lists

abbrev pub ends_of : List Span → ℕ
ends_of [] = 0
ends_of (s ∷ more) = end_of s more

abbrev pub starts_at : List Span → ℕ
starts_at [] = 0
starts_at (s ∷ more) = s.begin

abbrev mutual
  -- lists of which each is so, stands in so many elements, and begins behind the one before it
  pub AllSo : (List Span → Type 0) → ℕ → List (List Span) → Type 0
  AllSo q size [] = Unit {0}
  AllSo q size (l ∷ lists) = q l × Chain l × (ends_of l ≤ size) × IsBehind l lists × AllSo q size lists

  pub IsBehind : List Span → List (List Span) → Type 0
  IsBehind l [] = Unit {0}
  IsBehind l (m ∷ lists) = starts_at l < starts_at m

-- what is so of the cut of lists
pub record CutFormed (q : List Span → Type 0) (size : ℕ) (lists : List (List Span)) : Type 0 where
  pub formed : Formed (cut_of lists)
  pub kept : IsKept (cut_of lists)
  pub small : extent_of (cut_of lists) ≤ size
  pub each : Each q 0 (cut_of lists)
  pub past : (l : List Span) → IsBehind l lists → BeginsPast (starts_at l) (cut_of lists)

first_led : (n b : ℕ) (more : List Span) (s : Span) (c : Cut) → n ≡ b → BeginsPast b c → Formed c → FirstIsLed (cut_items (back n c) (s ∷ more))
unfolding cut_items back front
first_led n b more s done e past f = led_none more s
  where
    led_none : (more : List Span) (s : Span) → FirstIsLed (cut_items done (s ∷ more))
    led_none [] s = tt
    led_none (t ∷ more) s = tt
first_led n b more s (keep k c) e past f =
    rw (back_short n k c (omega (arith, e, past))) (led_keep more s (k - n) c (omega (arith, e, past)))
  where
    led_front : (n k : ℕ) (c : Cut) → 0 < k → IsLed (front n (keep k c))
    led_front n k c lt = elim (cases_Bool (nat_le n k)) [ inl short ↦ rw short tt | inr long ↦ rw long lt ]

    led_keep : (more : List Span) (s : Span) (k : ℕ) (c : Cut) → 0 < k → FirstIsLed (cut_items (keep k c) (s ∷ more))
    led_keep [] s k c lt = led_front (s.end - s.begin) k c lt
    led_keep (t ∷ more) s k c lt = led_front (s.end - s.begin) k c lt
first_led n b more s (list is c) e past f = absurd past

pub cut_formed : (q : List Span → Type 0) (size : ℕ) (lists : List (List Span)) → AllSo q size lists → are_nested lists ≡ true → CutFormed q size lists
unfolding cut_of are_nested extent_of
cut_formed q size [] all nested = record { formed = tt; kept = tt; small = omega arith; each = tt; past = λ l behind. tt }
cut_formed q size ([] ∷ lists) all nested = absurd all.1
cut_formed q size ((s ∷ more) ∷ lists) all nested =
    let n = and_parts (is_around (s ∷ more) (cut_of lists)) (are_nested lists) nested in
    let c = cut_of lists in
    let h = and_parts (is_free s.begin c) (holds_items (back s.begin c) (s ∷ more)) n.0 in
    let r = cut_formed q size lists all.4 n.1 in
    let between = free_between s.begin c h.0 in
    let p = parts_formed s.begin c r.formed r.kept between in
    let e = parts_each q 0 s.begin c r.formed r.kept between r.each in
    let within : end_of s more ≤ size = all.2 in
    let none : 0 + s.begin ≡ s.begin = omega arith in
    let late = chain_end more s all.1 in
    let rsmall = r.small in
    let small = p.back_small (size - s.begin) (omega (arith, rsmall, within, late)) in
    let i = items_formed q size more s (back s.begin c) all.1 within p.back_formed p.back_kept (omega (arith, small, within, late)) h.1
    (subst (λ (j : ℕ). Each q j (back s.begin c)) none e.1) in
    let led = first_led s.begin s.begin more s c refl (r.past (s ∷ more) all.3) r.formed in
    record {
      formed = (tt, (i.count, led, i.items, i.kept, i.rest));
      kept = tt;
      small = let a = i.small in let b = i.ends in omega (arith, a, b);
      each = subst (λ (j : ℕ). Each q j (list (cut_items (back s.begin c) (s ∷ more)) (rest_of (back s.begin c) (s ∷ more)))) (sym none) (
        subst q (sym i.spans) all.0,
        i.inner,
        subst (λ (j : ℕ). Each q j (rest_of (back s.begin c) (s ∷ more))) (sym i.ends) i.outer,
      );
      past = λ l behind. behind;
    }
