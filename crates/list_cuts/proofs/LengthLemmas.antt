-- Lists keep their length when their items change places.
use Rattle.std.proofs.Common.{ℕ, ◌+◌, ◌-◌, ◌≡◌, ◌<◌, ◌≤◌, true, List, [], ◌∷◌, ◌++◌, length, take, drop, map, get_or, refl, sym, ap, ◌∙◌, inl, inr, arith, length-append, length-drop, length-take-le, append-nil}
use Rattle.std.specs.Prelude.{◌==◌, sum_by}
use Rattle.std.proofs.lemmas.Bool.{cases_Bool, and_parts, and_from, eqb-true, eq-eqb}
use Rattle.std.proofs.lemmas.List.{length-map, drop-drop, drop_all, drop_more, take_all}
use Rattle.std.proofs.lemmas.List.Sorted.{sum_by-IsPermutation, length_permutation}
use Rattle.std.proofs.lemmas.List.Sums.{sum_by-cons}
use Rattle.list_cuts.specs.declared.spans.Span.{Span}
use Rattle.list_cuts.specs.Cuts.{IsOrder, picked, woven}
use Rattle.list_cuts.specs.Spans.{text_of, between, end_of, stand_in_order, fits, reordered, rearranged, all_rearranged}
use Rattle.list_cuts.proofs.OrderLemmas.{picked_permutes}
use Rattle.list_cuts.proofs.SpanLemmas.{no_span, first_stands, from_within, length-between}

-- how many elements some lists have together
abbrev pub total : {X : Type 0} → List (List X) → ℕ
total xss = sum_by length xss

pub total-cons : {X : Type 0} (x : List X) (xss : List (List X)) → total (x ∷ xss) ≡ length x + total xss
total-cons x xss = sum_by-cons length x xss

pub length-woven : {X : Type 0} (items gaps : List (List X)) → length items ≡ length gaps
    → length (woven items gaps) ≡ total items + total gaps
unfolding woven
length-woven [] [] e = refl
length-woven [] (g ∷ gaps) e = absurd (omega (arith, e))
length-woven (i ∷ items) [] e = absurd (omega (arith, e))
length-woven (i ∷ items) (g ∷ gaps) e =
    let rest = length-woven items gaps (omega (arith, e)) in
    length-append i (g ++ woven items gaps) ∙ ap (λ (n : ℕ). length i + n) (length-append g (woven items gaps))
    ∙ omega (arith, total-cons i items, total-cons g gaps, rest)

-- a part that lies within a text has as many elements as it is long
pub length-part : {X : Type 0} (xs : List X) (b e : ℕ) → b ≤ e → e ≤ length xs → length (take (e - b) (drop b xs)) ≡ e - b
length-part xs b e le within =
    length-take-le (e - b) (drop b xs) (rw (length-drop b xs) (omega (arith, le, within)))

-- the last item ends behind the first one's begin and within the text
pub end_within : (from size : ℕ) (s : Span) (more : List Span) → stand_in_order from size (s ∷ more) ≡ true
    → (s.end ≤ end_of s more) × (end_of s more ≤ size)
unfolding end_of
end_within from size s [] h =
    let f = first_stands from size s [] h in
    (omega arith, from_within s.end size [] f.others)
end_within from size s (t ∷ more) h =
    let f = first_stands from size s (t ∷ more) h in
    let g = first_stands s.end size t more f.others in
    let rest = end_within s.end size t more f.others in
    (omega (arith, g.behind, g.whole, rest.0), rest.1)

-- the items and what stands between them fill the text from the first begin to the last end
pub filled : {X : Type 0} (xs : List X) (from : ℕ) (s : Span) (more : List Span) → stand_in_order from (length xs) (s ∷ more) ≡ true
    → s.begin + (total (map (text_of xs) (s ∷ more)) + total (between xs (s ∷ more))) ≡ end_of s more
unfolding between end_of
filled xs from s [] h =
    let f = first_stands from (length xs) s [] h in
    let within = from_within s.end (length xs) [] f.others in
    let here = length-part xs s.begin s.end f.whole within in
    omega (arith, here, f.whole)
filled xs from s (t ∷ more) h =
    let f = first_stands from (length xs) s (t ∷ more) h in
    let g = first_stands s.end (length xs) t more f.others in
    let ends = end_within s.end (length xs) t more f.others in
    let here = length-part xs s.begin s.end f.whole (omega (arith, g.behind, g.whole, ends.0, ends.1)) in
    let gap = length-part xs s.end t.begin g.behind (omega (arith, g.whole, ends.0, ends.1)) in
    let rest = filled xs s.end t more f.others in
    let texts = total-cons (text_of xs s) (map (text_of xs) (t ∷ more)) in
    let gaps = total-cons (take (t.begin - s.end) (drop s.end xs)) (between xs (t ∷ more)) in
    rw (texts, gaps) (omega (arith, here, gap, rest, f.whole, g.behind))

-- the woven items are as long as the list was
pub woven_length : {X : Type 0} (order : List ℕ) (xs : List X) (s : Span) (more : List Span)
    → stand_in_order 0 (length xs) (s ∷ more) ≡ true → IsOrder (length (s ∷ more)) order
    → s.begin + length (woven (picked order (map (text_of xs) (s ∷ more))) (between xs (s ∷ more))) ≡ end_of s more
woven_length order xs s more h is =
    let items = map (text_of xs) (s ∷ more) in
    let gaps = between xs (s ∷ more) in
    let many : length items ≡ length (s ∷ more) = length-map (s ∷ more) (text_of xs) in
    let moved = picked_permutes order items (rw many is) in
    let same : total (picked order items) ≡ total items = sum_by-IsPermutation length items (picked order items) moved in
    let fits : length (picked order items) ≡ length gaps =
    length_permutation items (picked order items) moved ∙ many ∙ sym (length-between xs (s ∷ more)) in
    let long = length-woven (picked order items) gaps fits in
    let all = filled xs 0 s more h in
    rw long (rw same all)

-- a list that stands in order keeps the length of the text
pub length-reordered : {X : Type 0} (order : List ℕ) (xs : List X) (l : List Span)
    → stand_in_order 0 (length xs) l ≡ true → IsOrder (length l) order → length (reordered order l xs) ≡ length xs
unfolding reordered
length-reordered order xs [] h is = refl
length-reordered order xs (s ∷ more) h is =
    let text = woven (picked order (map (text_of xs) (s ∷ more))) (between xs (s ∷ more)) in
    let long : s.begin + length text ≡ end_of s more = woven_length order xs s more h is in
    let first = first_stands 0 (length xs) s more h in
    let ends = end_within 0 (length xs) s more h in
    let before : length (take s.begin xs) ≡ s.begin = length-take-le s.begin xs (omega (arith, first.whole, ends.0, ends.1)) in
    rw (length-append (take s.begin xs) (text ++ drop (end_of s more) xs), length-append text (drop (end_of s more) xs), length-drop (end_of s more) xs, before)
    (omega (arith, long, ends.1))

pub length-rearranged : {X : Type 0} (order : List ℕ) (l : List Span) (xs : List X) → IsOrder (length order) order
    → length (rearranged order l xs) ≡ length xs
length-rearranged order l xs is = elim (cases_Bool (fits order l (length xs))) [
  | inl fit ↦
      let p = and_parts (length l == length order) (stand_in_order 0 (length xs) l) fit in
      let same : length l ≡ length order = eqb-true (length l) (length order) p.0 in
      rw fit (length-reordered order xs l p.1 (rw same is))
  | inr not ↦ rw not refl
]

-- ---- the bytes that a list takes

pub no_list : {X : Type 0} (l : List Span) → length l < 1 → (order : List ℕ) (xs : List X) → xs ≡ rearranged order l xs
unfolding reordered
no_list [] few order xs = elim (cases_Bool (fits order [] (length xs))) [ inl fit ↦ rw fit refl | inr not ↦ rw not refl ]
no_list (s ∷ more) few order xs = absurd (omega (arith, few))

-- The list fits, and this is its text in the new order.
pub record IsText {X : Type 0} (order : List ℕ) (l : List Span) (xs text : List X) : Type 0 where
  pub permutes : IsOrder (length order) order
  pub alike : length l ≡ length order
  pub in_order : stand_in_order 0 (length xs) l ≡ true
  pub some : 0 < length l
  pub made : text ≡ woven (picked order (map (text_of xs) l)) (between xs l)

pub text_long : {X : Type 0} (order : List ℕ) (l : List Span) (xs text : List X) → IsText order l xs text
    → (get_or l 0 no_span).begin + length text ≤ length xs
text_long order [] xs text is = absurd (omega (arith, is.some))
text_long order (s ∷ more) xs text is =
    let long = woven_length order xs s more is.in_order (rw is.alike is.permutes) in
    let ends = end_within 0 (length xs) s more is.in_order in
    rw is.made (omega (arith, long, ends.1))

pub text_put : {X : Type 0} (order : List ℕ) (l : List Span) (xs text : List X) (n : ℕ) → IsText order l xs text → n ≡ length text
    → take (get_or l 0 no_span).begin xs ++ (text ++ drop n (drop (get_or l 0 no_span).begin xs)) ≡ rearranged order l xs
unfolding reordered
text_put order [] xs text n is e = absurd (omega (arith, is.some))
text_put order (s ∷ more) xs text n is e =
    let long = woven_length order xs s more is.in_order (rw is.alike is.permutes) in
    let fit : fits order (s ∷ more) (length xs) ≡ true = and_from (length (s ∷ more) == length order) (stand_in_order 0 (length xs) (s ∷ more)) (eq-eqb (length (s ∷ more)) (length order) is.alike) is.in_order in
    let many : s.begin + n ≡ end_of s more = rw (e, is.made) long in
    rw (fit, drop-drop n s.begin xs, many, is.made) refl

-- a text that is put in the place of a whole one of its length
pub whole_put : {X : Type 0} (n : ℕ) (xs ys : List X) → length ys ≡ length xs → n ≡ length xs → take n (ys ++ drop (length ys) xs) ≡ ys
whole_put n xs ys same all =
    let none : drop (length ys) xs ≡ [] = drop_all (length ys) xs (omega (arith, same)) in
    rw (none, append-nil ys) (take_all n ys (omega (arith, same, all)))

-- ---- all lists, from the last one on

pub all_rearranged_none : {X : Type 0} (order : List ℕ) (lists : List (List Span)) (xs : List X)
    → all_rearranged order (drop (length lists) lists) xs ≡ xs
unfolding all_rearranged
all_rearranged_none order lists xs =
    let none : drop (length lists) lists ≡ [] = drop_all (length lists) lists (omega arith) in
    rw none refl

pub all_rearranged_more : {X : Type 0} (order : List ℕ) (lists : List (List Span)) (xs : List X) (left : ℕ) (l : List Span)
    → left < length lists → l ≡ get_or lists left l
    → all_rearranged order (drop left lists) xs ≡ rearranged order l (all_rearranged order (drop (left + 1) lists) xs)
unfolding all_rearranged
all_rearranged_more order lists xs left l below is =
    let next : drop left lists ≡ l ∷ drop (left + 1) lists = drop_more lists left l below ∙ ap (λ (m : List Span). m ∷ drop (left + 1) lists) (sym is) in
    rw next refl
