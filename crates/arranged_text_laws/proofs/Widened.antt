-- The cut of lists in other elements: those that elements of a cut take among them, from where one begins to where one ends.
use Rattle.std.proofs.Common.{◌≡◌, ℕ, ◌+◌, ◌-◌, ◌<◌, ◌≤◌, true, ◌==◌, ◌&&◌, nat_le, List, [], ◌∷◌, map, refl, sym, ap, subst, ◌∙◌, arith, inl, inr}
use Rattle.std.proofs.lemmas.Bool.{cases_Bool, and_parts, and_from, or_cases, leb-true, leb-false, eqb-true}
use Rattle.list_cuts.specs.declared.spans.Span.{Span}
use Rattle.list_cuts.specs.Cuts.{Cut, done, keep, list, Items, ended, item, count_of, span_of, extent_of}
use Rattle.list_cuts.specs.Spans.{end_of}
use Rattle.list_cuts.specs.CutOf.{front, back, is_between, is_free, cut_items, rest_of, cut_of, holds_items, is_around, are_nested}
use Rattle.list_cuts.proofs.CutOfLemmas.{free-between as free_between}
use Rattle.arranged_text_laws.proofs.Formed.{IsKept, Formed, FormedItems, falls, front_short, back_short, between_short, free_short, front_past, back_past, between_past, parts_formed, Chain, chain_end, Each, parts_each, items_formed, AllSo, cut_formed}

-- ---- the cut

-- nothing stands behind the last item
abbrev pub gap_before : Items → ℕ → ℕ
gap_before ended gap = 0
gap_before (item n c further more) gap = gap

unfoldable mutual
  -- where element k begins at b k, and element k - 1 ends at e k, and the cut begins with element i, at x
  pub widened : (ℕ → ℕ) → (ℕ → ℕ) → ℕ → ℕ → Cut → Cut
  widened b e i x done = done
  widened b e i x (keep n c) = keep (b (i + n) - x) (widened b e (i + n) (b (i + n)) c)
  widened b e i x (list is c) = list (widened_items b e i is) (widened b e (i + span_of is) (e (i + span_of is)) c)

  pub widened_items : (ℕ → ℕ) → (ℕ → ℕ) → ℕ → Items → Items
  widened_items b e i ended = ended
  widened_items b e i (item n c gap more) =
      item (e (i + n) - b i) (widened b e i (b i) c) (gap_before more (b (i + (n + gap)) - e (i + n))) (widened_items b e (i + (n + gap)) more)

-- so many elements begin and end one behind the other
pub record Widens (b e : ℕ → ℕ) (size : ℕ) : Type 0 where
  pub whole : (i j : ℕ) → i < j → j ≤ size → b i < e j
  pub apart : (i j : ℕ) → 0 < i → i ≤ j → j < size → e i ≤ b j

-- an element begins there, or ends
pub record Point (b e : ℕ → ℕ) (size j y : ℕ) : Type 0 where
  pub on : (l : ℕ) → l < size → j ≤ l → y ≤ b l
  pub past : (l : ℕ) → l < size → l < j → b l < y
  pub behind : (m : ℕ) → 0 < m → m ≤ size → m ≤ j → e m ≤ y
  pub before : (m : ℕ) → 0 < m → m ≤ size → j < m → y < e m

module _ (b e : ℕ → ℕ) (size : ℕ) (w : Widens b e size) where
  pub begin_grows : (i j : ℕ) → i < j → j < size → b i < b j
  begin_grows i j lt within =
      let x = w.whole i j lt (omega (arith, within)) in
      let y = w.apart j j (omega (arith, lt)) (omega arith) within in
      omega (arith, x, y)

  pub begin_keeps : (i j : ℕ) → i ≤ j → j < size → b i ≤ b j
  begin_keeps i j le within = elim (cases_Bool (nat_le j i)) [
    | inl ge ↦
        let back_le = leb-true j i ge in
        let same : i ≡ j = omega (arith, le, back_le) in
        rw same (omega arith)
    | inr lt ↦ let g = begin_grows i j (leb-false j i lt) within in omega (arith, g)
  ]

  pub end_grows : (i j : ℕ) → 0 < i → i < j → j ≤ size → e i < e j
  end_grows i j some lt within =
      let x = w.apart i i some (omega arith) (omega (arith, lt, within)) in
      let y = w.whole i j lt within in
      omega (arith, x, y)

  pub end_keeps : (i j : ℕ) → 0 < i → i ≤ j → j ≤ size → e i ≤ e j
  end_keeps i j some le within = elim (cases_Bool (nat_le j i)) [
    | inl ge ↦
        let back_le = leb-true j i ge in
        let same : i ≡ j = omega (arith, le, back_le) in
        rw same (omega arith)
    | inr lt ↦ let g = end_grows i j some (leb-false j i lt) within in omega (arith, g)
  ]

  pub at_begin : (j : ℕ) → j < size → Point b e size j (b j)
  at_begin j within = record {
    on = λ l short le. begin_keeps j l le short;
    past = λ l short lt. begin_grows l j lt within;
    behind = λ m some short le. w.apart m j some le within;
    before = λ m some short lt. w.whole j m lt short;
  }

  pub at_end : (j : ℕ) → 0 < j → j ≤ size → Point b e size j (e j)
  at_end j some within = record {
    on = λ l short le. w.apart j l some le short;
    past = λ l short lt. w.whole l j lt within;
    behind = λ m first short le. end_keeps m j first le within;
    before = λ m first short lt. end_grows j m some lt short;
  }

  pub at_start : Point b e size 0 0
  at_start = record {
    on = λ l short le. omega arith;
    past = λ l short lt. absurd (omega (arith, lt));
    behind = λ m some short le. absurd (omega (arith, some, le));
    before = λ m some short lt. let g = w.whole 0 m lt short in omega (arith, g);
  }

  -- ---- how much room a list takes

  pub span_some : (is : Items) → FormedItems is → 0 < count_of is → 0 < span_of is
  unfolding count_of span_of
  span_some ended f some = absurd (omega (arith, some))
  span_some (item n c gap more) f some = let x = f.0 in omega (arith, x)

  pub span_widened : (i : ℕ) (is : Items) → FormedItems is → 0 < count_of is → i + span_of is ≤ size
      → span_of (widened_items b e i is) ≡ e (i + span_of is) - b i
  unfolding widened_items span_of count_of
  span_widened i ended f some within = absurd (omega (arith, some))
  span_widened i (item n c gap ended) f some within =
      let none : gap ≡ 0 = f.4 in
      let same : i + (n + (gap + 0)) ≡ i + n = omega (arith, none) in
      let total : e (i + n) - b i + (0 + 0) ≡ e (i + n) - b i = omega arith in
      total ∙ ap (λ (j : ℕ). e j - b i) (sym same)
  span_widened i (item n c gap (item m d further more)) f some within =
      let first = f.0 in
      let next = f.5 in
      let rest = span_widened (i + (n + gap)) (item m d further more) next (omega arith) (omega (arith, within)) in
      let later = span_some (item m d further more) next (omega arith) in
      let x = w.whole i (i + n) (omega (arith, first)) (omega (arith, within)) in
      let y = w.apart (i + n) (i + (n + gap)) (omega (arith, first)) (omega arith) (omega (arith, within, later)) in
      let z = w.whole (i + (n + gap)) (i + (n + gap) + span_of (item m d further more)) (omega (arith, later)) (omega (arith, within)) in
      let same : i + (n + gap) + span_of (item m d further more) ≡ i + (n + (gap + span_of (item m d further more))) = omega arith in
      let ends = ap e same in
      omega (arith, rest, x, y, z, ends)

  -- ---- parts

  -- The parts of the cut are those of the other one.
  pub record Splits (i x j y : ℕ) (c : Cut) : Type 0 where
    pub front_is : front (y - x) (widened b e i x c) ≡ widened b e i x (front (j - i) c)
    pub back_is : back (y - x) (widened b e i x c) ≡ widened b e j y (back (j - i) c)
    pub between : is_between (y - x) (widened b e i x c) ≡ true
    pub free : is_free (j - i) c ≡ true → is_free (y - x) (widened b e i x c) ≡ true

  pub splits : (i x j y : ℕ) (c : Cut) → Formed c → IsKept c → i + extent_of c ≤ size → Point b e size i x → Point b e size j y → i ≤ j → x ≤ y
      → is_between (j - i) c ≡ true → Splits i x j y c
  unfolding widened extent_of front back is_between is_free
  splits i x j y done f kept within p q le le2 h = record { front_is = refl; back_is = refl; between = refl; free = λ free. refl }
  splits i x j y (keep k done) f kept within p q le le2 h = absurd f.0
  splits i x j y (keep k (keep n c)) f kept within p q le le2 h = absurd f.0
  splits i x j y (keep k (list is c)) f kept within p q le le2 h =
      let l = i + k in
      let m = l + span_of is in
      let some = span_some is f.1.2 f.1.0 in
      let wide = span_widened l is f.1.2 f.1.0 (omega (arith, within)) in
      let at : x ≤ b l = p.on l (omega (arith, within, some)) (omega arith) in
      let big = w.whole l m (omega (arith, some)) (omega (arith, within)) in
      let W = list (widened_items b e l is) (widened b e m (e m) c) in
      elim (falls (j - i) k is c h) [
        | inl short ↦
            let low : y ≤ b l = q.on l (omega (arith, within, some)) (omega (arith, short, le)) in
            let a = front_short (j - i) k (list is c) short in
            let r = back_short (j - i) k (list is c) short in
            let small : y - x ≤ b l - x = omega (arith, low, le2) in
            let a2 = front_short (y - x) (b l - x) W small in
            let r2 = back_short (y - x) (b l - x) W small in
            let same : j + (k - (j - i)) ≡ l = omega (arith, short, le) in
            let keeps : b l - x - (y - x) ≡ b l - y = omega (arith, low, le2) in
            record {
              front_is = a2 ∙ ap (λ (d : Cut). widened b e i x d) (sym a);
              back_is = r2 ∙ ap (λ (t : ℕ). keep t W) keeps
                  ∙ ap (λ (t : ℕ). keep (b t - y) (widened b e t (b t) (list is c))) (sym same) ∙ ap (λ (d : Cut). widened b e j y d) (sym r);
              between = between_short (y - x) (b l - x) W small;
              free = λ free. free_short (y - x) (b l - x) W small;
            }
        | inr past ↦
            let high : b l < y = q.past l (omega (arith, within, some)) (omega (arith, past.0)) in
            let over : e m ≤ y = q.behind m (omega (arith, some)) (omega (arith, within)) (omega (arith, past.0, past.1)) in
            let span2 : span_of (widened_items b e l is) ≡ e m - b l = wide in
            let more : b l - x < y - x = omega (arith, high, at) in
            let room : span_of (widened_items b e l is) ≤ y - x - (b l - x) = rw span2 (omega (arith, over, at, high)) in
            let a = front_past (j - i) k is c past.0 past.1 in
            let r = back_past (j - i) k is c past.0 past.1 in
            let left : j - i - k - span_of is ≡ j - m = omega (arith, past.0, past.1) in
            let left2 : y - x - (b l - x) - span_of (widened_items b e l is) ≡ y - e m = rw span2 (omega (arith, over, at, high)) in
            let a2 = front_past (y - x) (b l - x) (widened_items b e l is) (widened b e m (e m) c) more room in
            let r2 = back_past (y - x) (b l - x) (widened_items b e l is) (widened b e m (e m) c) more room in
            let b1 = between_past (j - i) k is c past.0 past.1 in
            let b2 = between_past (y - x) (b l - x) (widened_items b e l is) (widened b e m (e m) c) more room in
            let rest = splits m (e m) j y c f.1.4 f.1.3 (omega (arith, within)) (at_end m (omega (arith, some)) (omega (arith, within))) q (omega (arith, past.0, past.1)) over
            (ap (λ (t : ℕ). is_between t c) (sym left) ∙ sym b1 ∙ h) in
            record {
              front_is = a2 ∙ ap (λ (t : ℕ). keep (b l - x) (list (widened_items b e l is) (front t (widened b e m (e m) c)))) left2
                  ∙ ap (λ (d : Cut). keep (b l - x) (list (widened_items b e l is) d)) rest.front_is
                  ∙ ap (λ (t : ℕ). keep (b l - x) (list (widened_items b e l is) (widened b e m (e m) (front t c)))) (sym left)
                  ∙ ap (λ (d : Cut). widened b e i x d) (sym a);
              back_is = r2 ∙ ap (λ (t : ℕ). back t (widened b e m (e m) c)) left2 ∙ rest.back_is
                  ∙ ap (λ (t : ℕ). widened b e j y (back t c)) (sym left) ∙ ap (λ (d : Cut). widened b e j y d) (sym r);
              between = b2 ∙ ap (λ (t : ℕ). is_between t (widened b e m (e m) c)) left2 ∙ rest.between;
              free = λ free. absurd (not_free (j - i) k is c past.0 free);
            }
      ]
    where
      not_free : (n k : ℕ) (is : Items) (c : Cut) → k < n → is_free n (keep k (list is c)) ≡ true → ⊥
      not_free n k is c lt h = elim (or_cases (nat_le n k) ((n - k) == 0) h) [
        | inl short ↦ let le = leb-true n k short in absurd (omega (arith, le, lt))
        | inr none ↦ let e = eqb-true (n - k) 0 none in absurd (omega (arith, e, lt))
      ]
  splits i x j y (list is c) f kept within p q le le2 h = absurd kept

  -- ---- items

  abbrev pub wide_span : Span → Span
  wide_span s = record { begin = b s.begin; end = e s.end }

  -- What is so of a list in front of a cut.
  pub record ItemsWiden (s : Span) (more : List Span) (d : Cut) : Type 0 where
    pub items : cut_items (widened b e s.begin (b s.begin) d) (map wide_span (s ∷ more)) ≡ widened_items b e s.begin (cut_items d (s ∷ more))
    pub rest : rest_of (widened b e s.begin (b s.begin) d) (map wide_span (s ∷ more)) ≡ widened b e (end_of s more) (e (end_of s more)) (rest_of d (s ∷ more))
    pub holds : holds_items (widened b e s.begin (b s.begin) d) (map wide_span (s ∷ more)) ≡ true

  pub items_widen : (more : List Span) (s : Span) (d : Cut) → Chain (s ∷ more) → end_of s more ≤ size → Formed d → IsKept d → s.begin + extent_of d ≤ size
      → holds_items d (s ∷ more) ≡ true → ItemsWiden s more d
  unfolding cut_items rest_of holds_items end_of widened_items
  items_widen [] s d chain within f kept small h =
      let n = s.end - s.begin in
      let on : s.begin + n ≡ s.end = omega (arith, chain) in
      let big = w.whole s.begin s.end chain within in
      let t = splits s.begin (b s.begin) s.end (e s.end) d f kept small (at_begin s.begin (omega (arith, chain, within))) (at_end s.end (omega (arith, chain)) within)
      (omega (arith, chain)) (omega (arith, big)) h in
      record {
        items = ap (λ (c : Cut). item (e s.end - b s.begin) c 0 ended) t.front_is
            ∙ ap (λ (j : ℕ). item (e j - b s.begin) (widened b e s.begin (b s.begin) (front n d)) 0 ended) (sym on);
        rest = t.back_is;
        holds = t.between;
      }
  items_widen (t ∷ more) s d chain within f kept small h =
      let n = s.end - s.begin in
      let gap = t.begin - s.end in
      let on : s.begin + n ≡ s.end = omega (arith, chain.0) in
      let both : s.begin + (n + gap) ≡ t.begin = omega (arith, chain.0, chain.1) in
      let late = chain_end more t chain.2 in
      let p0 = and_parts (is_between n d) (is_free gap (back n d) && holds_items (back gap (back n d)) (t ∷ more)) h in
      let p1 = and_parts (is_free gap (back n d)) (holds_items (back gap (back n d)) (t ∷ more)) p0.1 in
      let p = parts_formed n d f kept p0.0 in
      let between = free_between gap (back n d) p1.0 in
      let g = parts_formed gap (back n d) p.back_formed p.back_kept between in
      let small1 = p.back_small (size - s.end) (omega (arith, chain.0, chain.1, within, small, late)) in
      let small2 = g.back_small (size - t.begin) (omega (arith, small1, chain.1, within, late)) in
      let some : 0 < s.end = omega (arith, chain.0) in
      let here : s.end ≤ size = omega (arith, chain.1, late, within) in
      let there : t.begin < size = omega (arith, late, within) in
      let big = w.whole s.begin s.end chain.0 here in
      let big2 = w.apart s.end t.begin some (omega (arith, chain.1)) there in
      let t1 = splits s.begin (b s.begin) s.end (e s.end) d f kept small (at_begin s.begin (omega (arith, chain.0, here))) (at_end s.end some here)
      (omega (arith, chain.0)) (omega (arith, big)) p0.0 in
      let t2 = splits s.end (e s.end) t.begin (b t.begin) (back n d) p.back_formed p.back_kept (omega (arith, small1, here)) (at_end s.end some here) (at_begin t.begin there)
      (omega (arith, chain.1)) big2 between in
      let next = items_widen more t (back gap (back n d)) chain.2 within g.back_formed g.back_kept (omega (arith, small2, there)) p1.1 in
      let backs : back (b t.begin - e s.end) (back (e s.end - b s.begin) (widened b e s.begin (b s.begin) d)) ≡ widened b e t.begin (b t.begin) (back gap (back n d)) =
      ap (back (b t.begin - e s.end)) t1.back_is ∙ t2.back_is in
      let more_items = cut_items (back gap (back n d)) (t ∷ more) in
      let held = and_from (is_free (b t.begin - e s.end) (back (e s.end - b s.begin) (widened b e s.begin (b s.begin) d)))
      (holds_items (back (b t.begin - e s.end) (back (e s.end - b s.begin) (widened b e s.begin (b s.begin) d))) (map wide_span (t ∷ more)))
      (ap (is_free (b t.begin - e s.end)) t1.back_is ∙ t2.free p1.0) (ap (λ (c : Cut). holds_items c (map wide_span (t ∷ more))) backs ∙ next.holds) in
      record {
        items = ap (λ (c : Cut). item (e s.end - b s.begin) c (b t.begin - e s.end)
            (cut_items (back (b t.begin - e s.end) (back (e s.end - b s.begin) (widened b e s.begin (b s.begin) d))) (map wide_span (t ∷ more)))) t1.front_is
            ∙ ap (λ (c : Cut). item (e s.end - b s.begin) (widened b e s.begin (b s.begin) (front n d)) (b t.begin - e s.end) (cut_items c (map wide_span (t ∷ more)))) backs
            ∙ ap (λ (is : Items). item (e s.end - b s.begin) (widened b e s.begin (b s.begin) (front n d)) (b t.begin - e s.end) is) next.items
            ∙ ap (λ (j : ℕ). item (e j - b s.begin) (widened b e s.begin (b s.begin) (front n d)) (b t.begin - e j) (widened_items b e t.begin more_items)) (sym on)
            ∙ ap (λ (j : ℕ). item (e (s.begin + n) - b s.begin) (widened b e s.begin (b s.begin) (front n d)) (b j - e (s.begin + n)) (widened_items b e j more_items)) (sym both)
            ∙ ap (λ (j : ℕ). item (e (s.begin + n) - b s.begin) (widened b e s.begin (b s.begin) (front n d)) j (widened_items b e (s.begin + (n + gap)) more_items))
            (sym (gap_same more t (back gap (back n d)) (b (s.begin + (n + gap)) - e (s.begin + n))));
        rest = ap (λ (c : Cut). rest_of c (map wide_span (t ∷ more))) backs ∙ next.rest;
        holds = and_from (is_between (e s.end - b s.begin) (widened b e s.begin (b s.begin) d))
            (is_free (b t.begin - e s.end) (back (e s.end - b s.begin) (widened b e s.begin (b s.begin) d))
            && holds_items (back (b t.begin - e s.end) (back (e s.end - b s.begin) (widened b e s.begin (b s.begin) d))) (map wide_span (t ∷ more)))
            t1.between held;
      }
    where
      gap_same : (more : List Span) (t : Span) (d : Cut) (gap : ℕ) → gap_before (cut_items d (t ∷ more)) gap ≡ gap
      gap_same [] t d gap = refl
      gap_same (u ∷ more) t d gap = refl

  -- ---- the law

  pub record CutWidens (lists : List (List Span)) : Type 0 where
    pub is : cut_of (map (map wide_span) lists) ≡ widened b e 0 0 (cut_of lists)
    pub nested : are_nested (map (map wide_span) lists) ≡ true

  pub cut_widens : (q : List Span → Type 0) (lists : List (List Span)) → AllSo q size lists → are_nested lists ≡ true → CutWidens lists
  unfolding cut_of are_nested widened extent_of
  cut_widens q [] all nested = record { is = refl; nested = refl }
  cut_widens q ([] ∷ lists) all nested = absurd all.1
  cut_widens q ((s ∷ more) ∷ lists) all nested =
      let n = and_parts (is_around (s ∷ more) (cut_of lists)) (are_nested lists) nested in
      let c = cut_of lists in
      let h = and_parts (is_free s.begin c) (holds_items (back s.begin c) (s ∷ more)) n.0 in
      let r = cut_formed q size lists all.4 n.1 in
      let v = cut_widens q lists all.4 n.1 in
      let between = free_between s.begin c h.0 in
      let p = parts_formed s.begin c r.formed r.kept between in
      let within : end_of s more ≤ size = all.2 in
      let late = chain_end more s all.1 in
      let rsmall = r.small in
      let small = p.back_small (size - s.begin) (omega (arith, rsmall, within, late)) in
      let here : s.begin < size = omega (arith, late, within) in
      let zero : s.begin - 0 ≡ s.begin = omega arith in
      let zero2 : b s.begin - 0 ≡ b s.begin = omega arith in
      let t = splits 0 0 s.begin (b s.begin) c r.formed r.kept (omega (arith, rsmall)) at_start (at_begin s.begin here) (omega arith) (omega arith)
      (subst (λ (k : ℕ). is_between k c ≡ true) (sym zero) between) in
      let i = items_widen more s (back s.begin c) all.1 within p.back_formed p.back_kept (omega (arith, small, within, late)) h.1 in
      let none : 0 + s.begin ≡ s.begin = omega arith in
      let backs : back (b s.begin) (cut_of (map (map wide_span) lists)) ≡ widened b e s.begin (b s.begin) (back s.begin c) =
      ap (back (b s.begin)) v.is ∙ ap (λ (k : ℕ). back k (widened b e 0 0 c)) (sym zero2) ∙ t.back_is ∙ ap (λ (k : ℕ). widened b e s.begin (b s.begin) (back k c)) zero in
      let frees : is_free (b s.begin) (cut_of (map (map wide_span) lists)) ≡ true =
      ap (is_free (b s.begin)) v.is ∙ ap (λ (k : ℕ). is_free k (widened b e 0 0 c)) (sym zero2) ∙ t.free (subst (λ (k : ℕ). is_free k c ≡ true) (sym zero) h.0) in
      let f = cut_formed q size ((s ∷ more) ∷ lists) all nested in
      let ends : end_of s more ≡ s.begin + span_of (cut_items (back s.begin c) (s ∷ more)) =
      sym (items_formed q size more s (back s.begin c) all.1 within p.back_formed p.back_kept (omega (arith, small, within, late)) h.1
      (each_back q s.begin c r.formed r.kept between r.each)).ends in
      record {
        is = ap (λ (d : Cut). keep (b s.begin) (list (cut_items d (map wide_span (s ∷ more))) (rest_of d (map wide_span (s ∷ more))))) backs
            ∙ ap (λ (is : Items). keep (b s.begin) (list is (rest_of (widened b e s.begin (b s.begin) (back s.begin c)) (map wide_span (s ∷ more))))) i.items
            ∙ ap (λ (d : Cut). keep (b s.begin) (list (widened_items b e s.begin (cut_items (back s.begin c) (s ∷ more))) d)) i.rest
            ∙ ap (λ (j : ℕ). keep (b s.begin) (list (widened_items b e s.begin (cut_items (back s.begin c) (s ∷ more))) (widened b e j (e j) (rest_of (back s.begin c) (s ∷ more))))) ends
            ∙ ap (λ (k : ℕ). keep k (widened b e s.begin (b s.begin) (list (cut_items (back s.begin c) (s ∷ more)) (rest_of (back s.begin c) (s ∷ more))))) (sym zero2)
            ∙ ap (λ (j : ℕ). keep (b j - 0) (widened b e j (b j) (list (cut_items (back s.begin c) (s ∷ more)) (rest_of (back s.begin c) (s ∷ more))))) (sym none);
        nested = and_from (is_around (map wide_span (s ∷ more)) (cut_of (map (map wide_span) lists))) (are_nested (map (map wide_span) lists))
            (and_from (is_free (b s.begin) (cut_of (map (map wide_span) lists))) (holds_items (back (b s.begin) (cut_of (map (map wide_span) lists))) (map wide_span (s ∷ more)))
            frees (ap (λ (d : Cut). holds_items d (map wide_span (s ∷ more))) backs ∙ i.holds)) v.nested;
      }
    where
      each_back : (q : List Span → Type 0) (n : ℕ) (c : Cut) → Formed c → IsKept c → is_between n c ≡ true → Each q 0 c → Each q n (back n c)
      each_back q n c f kept between e =
          let none : 0 + n ≡ n = omega arith in
          subst (λ (j : ℕ). Each q j (back n c)) none (parts_each q 0 n c f kept between e).1
