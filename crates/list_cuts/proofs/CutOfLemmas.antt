-- Lists that change places one after the other, the last one first, do what the cut of them all does.
use Rattle.std.proofs.Common.{ℕ, ◌+◌, ◌-◌, ◌≡◌, ◌<◌, ◌≤◌, true, List, [], ◌∷◌, ◌++◌, length, take, drop, map, refl, sym, ap, ◌∙◌, arith, inl, inr, length-take, length-drop, append_assoc, take-add, length-take-le, take-append-drop}
use Rattle.std.specs.Prelude.{◌==◌, ◌&&◌, nat_le}
use Rattle.std.specs.List.{list_all}
use Rattle.std.proofs.lemmas.Bool.{cases_Bool, and_parts, or_cases, leb-true, leb-false, le-leb, eqb-true}
use Rattle.std.proofs.lemmas.List.{drop-drop, take-append-le, take-take, drop-take, take_at, drop_at}
use Rattle.std.proofs.Math.Seq.{take-append-add}
use Rattle.std.proofs.Math.Bool.{or-true}
use Rattle.list_cuts.specs.declared.spans.Span.{Span}
use Rattle.list_cuts.specs.Cuts.{Cut, done, keep, list, count_of, span_of, IsOrder, picked, woven, gaps_of, arranged, items_of, AreOf, AreItemsOf}
use Rattle.list_cuts.specs.Spans.{text_of, between, end_of, stand_in_order, fits, reordered, rearranged, all_rearranged}
use Rattle.list_cuts.specs.CutOf.{front, back, is_between, is_free, cut_items, rest_of, with_list, cut_of, holds_items, is_around, are_nested}
use Rattle.list_cuts.proofs.CutLemmas.{length-arranged, items_of-append, gaps_of-append, short-drop}
use Rattle.list_cuts.proofs.SpanLemmas.{first_stands, from_within}

-- ---- the two parts of a cut

of-front : (m n : ℕ) (c : Cut) → AreOf m c → AreOf m (front n c)
unfolding front
of-front m n done all = tt
of-front m n (keep k c) all = elim (cases_Bool (nat_le n k)) [ inl short ↦ rw short tt | inr long ↦ rw long (of-front m (n - k) c all) ]
of-front m n (list is c) all =
    elim (cases_Bool (nat_le (span_of is) n)) [ inl whole ↦ rw whole (all.0, all.1, of-front m (n - span_of is) c all.2) | inr part ↦ rw part tt ]

of-back : (m n : ℕ) (c : Cut) → AreOf m c → AreOf m (back n c)
unfolding back
of-back m n done all = tt
of-back m n (keep k c) all = elim (cases_Bool (nat_le n k)) [ inl short ↦ rw short all | inr long ↦ rw long (of-back m (n - k) c all) ]
of-back m n (list is c) all =
    elim (cases_Bool (nat_le (span_of is) n)) [ inl whole ↦ rw whole (of-back m (n - span_of is) c all.2) | inr part ↦ rw part all ]

pub between-none : (c : Cut) → is_between 0 c ≡ true
unfolding is_between
between-none done = refl
between-none (keep k c) = let least : nat_le 0 k ≡ true = le-leb 0 k (omega arith) in rw least refl
between-none (list is c) = elim (cases_Bool (nat_le (span_of is) 0)) [
  | inl whole ↦ let none : 0 - span_of is ≡ 0 = omega arith in rw (whole, none) (between-none c)
  | inr part ↦ rw part refl
]

pub free-between : (n : ℕ) (c : Cut) → is_free n c ≡ true → is_between n c ≡ true
unfolding is_free is_between
free-between n done h = refl
free-between n (keep k c) h = elim (or_cases (nat_le n k) (is_free (n - k) c) h) [
  | inl short ↦ rw short refl
  | inr long ↦ rw (free-between (n - k) c long) (or-true (nat_le n k))
]
free-between n (list is c) h =
    let none : n ≡ 0 = eqb-true n 0 h in
    rw none (between-none (list is c))

module _ {X : Type 0} (order : List ℕ) where
  split : (n : ℕ) (c : Cut) (xs : List X) → is_between n c ≡ true → n ≤ length xs
      → arranged order c xs ≡ arranged order (front n c) (take n xs) ++ arranged order (back n c) (drop n xs)
  unfolding arranged front back is_between
  split n done xs h le = sym (take-append-drop n xs)
  split n (keep k c) xs h le = elim (cases_Bool (nat_le n k)) [
    | inl short ↦
        let within : n ≤ k = leb-true n k short in
        let e : n + (k - n) ≡ k = omega arith in
        let t : take k xs ≡ take n xs ++ take (k - n) (drop n xs) = ap (λ (m : ℕ). take m xs) (sym e) ∙ take-add n (k - n) xs in
        let d : drop (k - n) (drop n xs) ≡ drop k xs = drop-drop (k - n) n xs ∙ ap (λ (m : ℕ). drop m xs) e in
        rw (short, d, t) (append_assoc (take n xs) (take (k - n) (drop n xs)) (arranged order c (drop k xs)))
    | inr long ↦
        let past : k < n = leb-false n k long in
        let e : k + (n - k) ≡ n = omega arith in
        let rest : is_between (n - k) c ≡ true = rw long at h in
        let few : n - k ≤ length (drop k xs) = short-drop k (n - k) xs (omega (arith, le, e)) in
        let so = split (n - k) c (drop k xs) rest few in
        let t : take k (take n xs) ≡ take k xs = take-take k n xs (omega arith) in
        let d : drop k (take n xs) ≡ take (n - k) (drop k xs) = ap (λ (m : ℕ). drop k (take m xs)) (sym e) ∙ drop-take k (n - k) xs in
        let b : drop (n - k) (drop k xs) ≡ drop n xs = drop-drop (n - k) k xs ∙ ap (λ (m : ℕ). drop m xs) e in
        rw (long, t, d, so, b)
        (sym (append_assoc (take k xs) (arranged order (front (n - k) c) (take (n - k) (drop k xs))) (arranged order (back (n - k) c) (drop n xs))))
  ]
  split n (list is c) xs h le = elim (cases_Bool (nat_le (span_of is) n)) [
    | inl whole ↦
        let k = span_of is in
        let within : k ≤ n = leb-true k n whole in
        let e : k + (n - k) ≡ n = omega arith in
        let rest : is_between (n - k) c ≡ true = rw whole at h in
        let few : n - k ≤ length (drop k xs) = short-drop k (n - k) xs (omega (arith, le, e)) in
        let so = split (n - k) c (drop k xs) rest few in
        let long : k ≤ length (take n xs) = rw (length-take-le n xs le) within in
        let items : items_of order is xs ≡ items_of order is (take n xs) =
        ap (λ (ys : List X). items_of order is ys) (sym (take-append-drop n xs)) ∙ items_of-append order is (take n xs) (drop n xs) long in
        let gaps : gaps_of is xs ≡ gaps_of is (take n xs) =
        ap (λ (ys : List X). gaps_of is ys) (sym (take-append-drop n xs)) ∙ gaps_of-append is (take n xs) (drop n xs) long in
        let d : drop k (take n xs) ≡ take (n - k) (drop k xs) = ap (λ (m : ℕ). drop k (take m xs)) (sym e) ∙ drop-take k (n - k) xs in
        let b : drop (n - k) (drop k xs) ≡ drop n xs = drop-drop (n - k) k xs ∙ ap (λ (m : ℕ). drop m xs) e in
        rw (whole, d, so, b, items, gaps)
        (sym (append_assoc (woven (picked order (items_of order is (take n xs))) (gaps_of is (take n xs))) (arranged order (front (n - k) c) (take (n - k) (drop k xs))) (arranged order (back (n - k) c) (drop n xs))))
    | inr part ↦
        let zero_at : (n == 0) ≡ true = rw part at h in
        let none : n ≡ 0 = eqb-true n 0 zero_at in
        rw (part, none) refl
  ]

  -- without lists among the first elements, these stay
  free-take : (n : ℕ) (c : Cut) (xs : List X) → is_free n c ≡ true → n ≤ length xs → take n (arranged order c xs) ≡ take n xs
  unfolding arranged is_free
  free-take n done xs h le = refl
  free-take n (keep k c) xs h le = elim (cases_Bool (nat_le n k)) [
    | inl short ↦
        let within : n ≤ k = leb-true n k short in
        let long : n ≤ length (take k xs) = rw (length-take k xs) (omega arith) in
        take-append-le n (take k xs) (arranged order c (drop k xs)) long ∙ take-take n k xs within
    | inr long ↦
        let past : k < n = leb-false n k long in
        let e : k + (n - k) ≡ n = omega arith in
        let rest : is_free (n - k) c ≡ true = rw long at h in
        let few : n - k ≤ length (drop k xs) = short-drop k (n - k) xs (omega (arith, le, e)) in
        let many : length (take k xs) ≡ k = length-take-le k xs (omega arith) in
        let count : length (take k xs) + (n - k) ≡ n = omega (arith, many, e) in
        let so = take-append-add (take k xs) (arranged order c (drop k xs)) (n - k) in
        let behind = free-take (n - k) c (drop k xs) rest few in
        let whole : take n xs ≡ take k xs ++ take (n - k) (drop k xs) = ap (λ (j : ℕ). take j xs) (sym e) ∙ take-add k (n - k) xs in
        ap (λ (j : ℕ). take j (take k xs ++ arranged order c (drop k xs))) (sym count) ∙ so
        ∙ ap (λ (ys : List X). take k xs ++ ys) behind ∙ sym whole
  ]
  free-take n (list is c) xs h le = let none : n ≡ 0 = eqb-true n 0 h in rw none refl

  module _ (m : ℕ) (is_order : IsOrder m order) where
    parted : (n : ℕ) (c : Cut) (xs : List X) → AreOf m c → is_between n c ≡ true → n ≤ length xs
        → (take n (arranged order c xs) ≡ arranged order (front n c) (take n xs)) × (drop n (arranged order c xs) ≡ arranged order (back n c) (drop n xs))
    parted n c xs all h le =
        let so = split n c xs h le in
        let long : length (arranged order (front n c) (take n xs)) ≡ n =
        length-arranged m order (front n c) (take n xs) is_order (of-front m n c all) ∙ length-take-le n xs le in (
          rw so (take_at (arranged order (front n c) (take n xs)) (arranged order (back n c) (drop n xs)) n long),
          rw so (drop_at (arranged order (front n c) (take n xs)) (arranged order (back n c) (drop n xs)) n long),
        )

    -- What is so of the items of a list, behind the list, and between them, where its first item begins with these elements.
    record IsCut (ys : List X) (s : Span) (more : List Span) (d : Cut) (zs : List X) : Type 0 where
      texts : map (text_of ys) (s ∷ more) ≡ items_of order (cut_items d (s ∷ more)) zs
      gaps : between ys (s ∷ more) ≡ gaps_of (cut_items d (s ∷ more)) zs
      rest : drop (end_of s more) ys ≡ arranged order (rest_of d (s ∷ more)) (drop (span_of (cut_items d (s ∷ more))) zs)

    -- an item and what stands behind it
    behind-item : (ys : List X) (b e : ℕ) (d : Cut) (zs : List X) → b ≤ e → drop b ys ≡ arranged order d zs
        → drop (e - b) (arranged order d zs) ≡ arranged order (back (e - b) d) (drop (e - b) zs)
        → drop e ys ≡ arranged order (back (e - b) d) (drop (e - b) zs)
    behind-item ys b e d zs le at so =
        let on : b + (e - b) ≡ e = omega arith in
        ap (λ (j : ℕ). drop j ys) (sym on) ∙ sym (drop-drop (e - b) b ys) ∙ ap (λ (us : List X). drop (e - b) us) at ∙ so

    cut-is : (more : List Span) (from : ℕ) (s : Span) (d : Cut) (zs ys : List X) → stand_in_order from (length ys) (s ∷ more) ≡ true
        → holds_items d (s ∷ more) ≡ true → AreOf m d → drop s.begin ys ≡ arranged order d zs → s.begin + length zs ≡ length ys
        → IsCut ys s more d zs
    unfolding between end_of cut_items rest_of holds_items span_of items_of gaps_of
    cut-is [] from s d zs ys order_is h all at many =
        let n = s.end - s.begin in
        let f = first_stands from (length ys) s [] order_is in
        let within = from_within s.end (length ys) [] f.others in
        let p = parted n d zs all h (omega (arith, f.whole, within, many)) in
        let on : n + (0 + 0) ≡ n = omega arith in
        record {
          texts = ap (λ (us : List X). take n us ∷ []) at ∙ ap (λ (us : List X). us ∷ []) p.0;
          gaps = refl;
          rest = rw on (behind-item ys s.begin s.end d zs f.whole at p.1);
        }
    cut-is (t ∷ more) from s d zs ys order_is h all at many =
        let n = s.end - s.begin in
        let gap = t.begin - s.end in
        let f = first_stands from (length ys) s (t ∷ more) order_is in
        let g = first_stands s.end (length ys) t more f.others in
        let t_within = from_within t.end (length ys) more g.others in
        let p0 = and_parts (is_between n d) (is_free gap (back n d) && holds_items (back gap (back n d)) (t ∷ more)) h in
        let p1 = and_parts (is_free gap (back n d)) (holds_items (back gap (back n d)) (t ∷ more)) p0.1 in
        let few : n ≤ length zs = omega (arith, f.whole, g.behind, g.whole, t_within, many) in
        let p = parted n d zs all p0.0 few in
        let after_item : drop s.end ys ≡ arranged order (back n d) (drop n zs) = behind-item ys s.begin s.end d zs f.whole at p.1 in
        let left : length (drop n zs) ≡ length zs - n = length-drop n zs in
        let few_gap : gap ≤ length (drop n zs) = rw left (omega (arith, f.whole, g.behind, g.whole, t_within, many)) in
        let all_behind = of-back m n d all in
        let q = parted gap (back n d) (drop n zs) all_behind (free-between gap (back n d) p1.0) few_gap in
        let after_gap : drop t.begin ys ≡ arranged order (back gap (back n d)) (drop gap (drop n zs)) =
        behind-item ys s.end t.begin (back n d) (drop n zs) g.behind after_item q.1 in
        let left_gap : length (drop gap (drop n zs)) ≡ length zs - n - gap = length-drop gap (drop n zs) ∙ ap (λ (j : ℕ). j - gap) left in
        let next = cut-is more s.end t (back gap (back n d)) (drop gap (drop n zs)) ys f.others p1.1 (of-back m gap (back n d) all_behind) after_gap
        (rw left_gap (omega (arith, f.whole, g.behind, many, few, few_gap, left))) in
        let both : drop gap (drop n zs) ≡ drop (n + gap) zs = drop-drop gap n zs in
        let gap_text : take gap (drop s.end ys) ≡ take gap (drop n zs) =
        ap (λ (us : List X). take gap us) after_item ∙ free-take gap (back n d) (drop n zs) p1.0 few_gap in
        let rest_at = span_of (cut_items (back gap (back n d)) (t ∷ more)) in
        let on : n + gap + rest_at ≡ n + (gap + rest_at) = omega arith in
        record {
          texts = ap (λ (us : List X). take n us ∷ map (text_of ys) (t ∷ more)) at ∙ ap (λ (us : List X). us ∷ map (text_of ys) (t ∷ more)) p.0
              ∙ ap (λ (us : List (List X)). arranged order (front n d) (take n zs) ∷ us)
              (next.texts ∙ ap (λ (us : List X). items_of order (cut_items (back gap (back n d)) (t ∷ more)) us) both);
          gaps = ap (λ (us : List X). us ∷ between ys (t ∷ more)) gap_text
              ∙ ap (λ (us : List (List X)). take gap (drop n zs) ∷ us)
              (next.gaps ∙ ap (λ (us : List X). gaps_of (cut_items (back gap (back n d)) (t ∷ more)) us) both);
          rest = next.rest ∙ ap (λ (us : List X). arranged order (rest_of (back gap (back n d)) (t ∷ more)) us)
              (ap (λ (us : List X). drop rest_at us) both ∙ drop-drop rest_at (n + gap) zs ∙ ap (λ (j : ℕ). drop j zs) on);
        }

    -- a list in front of a cut: it changes in the text in which those of the cut have changed
    one-more : (s : Span) (more : List Span) (c : Cut) (xs : List X) → stand_in_order 0 (length xs) (s ∷ more) ≡ true
        → is_around (s ∷ more) c ≡ true → AreOf m c
        → reordered order (s ∷ more) (arranged order c xs) ≡ arranged order (with_list (s ∷ more) c) xs
    unfolding reordered arranged
    one-more s more c xs order_is h all =
        let ys = arranged order c xs in
        let same : length ys ≡ length xs = length-arranged m order c xs is_order all in
        let p = and_parts (is_free s.begin c) (holds_items (back s.begin c) (s ∷ more)) h in
        let f = first_stands 0 (length xs) s more order_is in
        let within = from_within s.end (length xs) more f.others in
        let few : s.begin ≤ length xs = omega (arith, f.whole, within) in
        let q = parted s.begin c xs all (free-between s.begin c p.0) few in
        let left : length (drop s.begin xs) ≡ length xs - s.begin = length-drop s.begin xs in
        let cut = cut-is more 0 s (back s.begin c) (drop s.begin xs) ys (rw same order_is) p.1 (of-back m s.begin c all) q.1 (rw (left, same) (omega (arith, few))) in
        rw (free-take s.begin c xs p.0 few, cut.texts, cut.gaps, cut.rest) refl

of-items : (m : ℕ) (more : List Span) (s : Span) (d : Cut) → AreOf m d → AreItemsOf m (cut_items d (s ∷ more)) × AreOf m (rest_of d (s ∷ more))
unfolding cut_items rest_of
of-items m [] s d all = ((of-front m (s.end - s.begin) d all, tt), of-back m (s.end - s.begin) d all)
of-items m (t ∷ more) s d all =
    let behind = of-back m (t.begin - s.end) (back (s.end - s.begin) d) (of-back m (s.end - s.begin) d all) in
    let next = of-items m more t (back (t.begin - s.end) (back (s.end - s.begin) d)) behind in
    ((of-front m (s.end - s.begin) d all, next.0), next.1)

count-items : (more : List Span) (s : Span) (d : Cut) → count_of (cut_items d (s ∷ more)) ≡ length (s ∷ more)
unfolding cut_items count_of
count-items [] s d = refl
count-items (t ∷ more) s d =
    let next = count-items more t (back (t.begin - s.end) (back (s.end - s.begin) d)) in
    omega (arith, next)

of-list : (m : ℕ) (l : List Span) (c : Cut) → length l ≡ m → AreOf m c → AreOf m (with_list l c)
of-list m [] c many all = all
of-list m (s ∷ more) c many all =
    let items = of-items m more s (back s.begin c) (of-back m s.begin c all) in
    (count-items more s (back s.begin c) ∙ many, items.0, items.1)

-- the same of a list that fits the text, in any case
one-list : {X : Type 0} (order : List ℕ) (l : List Span) (c : Cut) (xs : List X) → IsOrder (length order) order → fits order l (length xs) ≡ true
    → is_around l c ≡ true → AreOf (length order) c → rearranged order l (arranged order c xs) ≡ arranged order (with_list l c) xs
unfolding reordered
one-list order [] c xs is fit h all =
    let same = length-arranged (length order) order c xs is all in
    rw (same, fit) refl
one-list order (s ∷ more) c xs is fit h all =
    let same = length-arranged (length order) order c xs is all in
    let p = and_parts (length (s ∷ more) == length order) (stand_in_order 0 (length xs) (s ∷ more)) fit in
    let so = one-more order (length order) is s more c xs p.1 h all in
    rw (same, fit) so

pub all-as-cut : {X : Type 0} (order : List ℕ) (lists : List (List Span)) (xs : List X) → IsOrder (length order) order
    → list_all (λ l. fits order l (length xs)) lists ≡ true → are_nested lists ≡ true
    → (all_rearranged order lists xs ≡ arranged order (cut_of lists) xs) × AreOf (length order) (cut_of lists)
unfolding all_rearranged cut_of are_nested arranged
all-as-cut order [] xs is fit nested = (refl, tt)
all-as-cut order (l ∷ lists) xs is fit nested =
    let f = and_parts (fits order l (length xs)) (list_all (λ m. fits order m (length xs)) lists) fit in
    let n = and_parts (is_around l (cut_of lists)) (are_nested lists) nested in
    let g = and_parts (length l == length order) (stand_in_order 0 (length xs) l) f.0 in
    let many : length l ≡ length order = eqb-true (length l) (length order) g.0 in
    let rest = all-as-cut order lists xs is f.1 n.1 in (
      ap (λ (ys : List _). rearranged order l ys) rest.0 ∙ one-list order l (cut_of lists) xs is f.0 n.0 rest.1,
      of-list (length order) l (cut_of lists) many rest.1,
    )

pub lists-as-cuts : {X : Type 0} (order : List ℕ) (lists : List (List Span)) (xs : List X) → IsOrder (length order) order
    → list_all (λ l. fits order l (length xs)) lists ≡ true → are_nested lists ≡ true
    → all_rearranged order lists xs ≡ arranged order (cut_of lists) xs
lists-as-cuts order lists xs is fit nested = (all-as-cut order lists xs is fit nested).0
