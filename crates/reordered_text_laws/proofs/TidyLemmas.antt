-- A cut in which elements that stay are told together does what it did.
use Rattle.std.proofs.Common.{◌≡◌, ℕ, zero, suc, ◌+◌, ◌-◌, ◌<◌, ◌≤◌, List, ◌∷◌, ◌++◌, take, drop, refl, ap, sym, subst, ◌∙◌, arith, append_assoc, take-add, take-append-drop}
use Rattle.std.proofs.lemmas.List.{drop-drop}
use Rattle.list_cuts.specs.Cuts.{Cut, done, keep, list, Items, ended, item, count_of, span_of, picked, woven, gaps_of, arranged, items_of, AreOf, AreItemsOf}
use Rattle.reordered_text_laws.specs.Marks.{ends_of, marks_of, marks_in, EndsWith, IsMarked, AreMarked, HasMarks, ItemsHaveMarks, tidied, tidied_items}
use Rattle.reordered_text_laws.specs.MarkedCuts.{CutsAreTidied, TidiedCutsArrange}

span_tidied : (is : Items) → span_of (tidied_items is) ≡ span_of is
unfolding span_of tidied_items
span_tidied ended = refl
span_tidied (item n c gap more) = ap (λ (k : ℕ). n + (gap + k)) (span_tidied more)

count_tidied : (is : Items) → count_of (tidied_items is) ≡ count_of is
unfolding count_of tidied_items
count_tidied ended = refl
count_tidied (item n c gap more) = ap (λ (k : ℕ). k + 1) (count_tidied more)

ends_tidied : (at : ℕ) (is : Items) → ends_of at (tidied_items is) ≡ ends_of at is
unfolding ends_of tidied_items
ends_tidied at ended = refl
ends_tidied at (item n c gap more) = ap (λ (ms : List ℕ). (at + n) ∷ ms) (ends_tidied (at + (n + gap)) more)

mutual
  unfolding marks_of marks_in tidied tidied_items

  marks_tidied : (at n : ℕ) (c : Cut) → marks_of at (tidied n c) ≡ marks_of (at + n) c
  marks_tidied at n done = refl
  marks_tidied at n (keep k c) = let on : at + (n + k) ≡ at + n + k = omega arith in marks_tidied at (n + k) c ∙ ap (λ (i : ℕ). marks_of i c) on
  marks_tidied at n (list is c) =
      let none : at + n + span_of is + 0 ≡ at + n + span_of is = omega arith in
      ap (λ (ms : List ℕ). ((at + n - 1) ∷ ms) ∷ (marks_in (at + n) (tidied_items is) ++ marks_of (at + n + span_of (tidied_items is)) (tidied 0 c))) (ends_tidied (at + n) is)
      ∙ ap (λ (ls : List (List ℕ)). ((at + n - 1) ∷ ends_of (at + n) is) ∷ (ls ++ marks_of (at + n + span_of (tidied_items is)) (tidied 0 c))) (marks_in_tidied (at + n) is)
      ∙ ap (λ (k : ℕ). ((at + n - 1) ∷ ends_of (at + n) is) ∷ (marks_in (at + n) is ++ marks_of (at + n + k) (tidied 0 c))) (span_tidied is)
      ∙ ap (λ (ls : List (List ℕ)). ((at + n - 1) ∷ ends_of (at + n) is) ∷ (marks_in (at + n) is ++ ls))
      (marks_tidied (at + n + span_of is) 0 c ∙ ap (λ (i : ℕ). marks_of i c) none)

  marks_in_tidied : (at : ℕ) (is : Items) → marks_in at (tidied_items is) ≡ marks_in at is
  marks_in_tidied at ended = refl
  marks_in_tidied at (item n c gap more) =
      let none : at + 0 ≡ at = omega arith in
      ap (λ (ls : List (List ℕ)). ls ++ marks_in (at + (n + gap)) (tidied_items more)) (marks_tidied at 0 c ∙ ap (λ (i : ℕ). marks_of i c) none)
      ∙ ap (λ (ls : List (List ℕ)). marks_of at c ++ ls) (marks_in_tidied (at + (n + gap)) more)

mutual
  unfolding tidied tidied_items

  of_tidied : (k n : ℕ) (c : Cut) → AreOf k c → AreOf k (tidied n c)
  of_tidied k n done h = tt
  of_tidied k n (keep m c) h = of_tidied k (n + m) c h
  of_tidied k n (list is c) h = (count_tidied is ∙ h.0, items_tidied k is h.1, of_tidied k 0 c h.2)

  items_tidied : (k : ℕ) (is : Items) → AreItemsOf k is → AreItemsOf k (tidied_items is)
  items_tidied k ended h = tt
  items_tidied k (item n c gap more) h = (of_tidied k 0 c h.0, items_tidied k more h.1)

gap_tidied : (gap : ℕ) (is : Items) → EndsWith gap is → EndsWith gap (tidied_items is)
unfolding tidied_items
gap_tidied gap ended h = h
gap_tidied gap (item n c further more) h = h

mutual
  unfolding tidied tidied_items span_of

  marked_tidied : (from at limit n w : ℕ) (c : Cut) → at ≡ w + n → w ≤ from → HasMarks from at limit c → IsMarked from w limit (tidied n c)
  marked_tidied from at limit n w done e le h = tt
  marked_tidied from at limit n w (keep k c) e le h = marked_tidied from (at + k) limit (n + k) w c (omega (arith, e)) le h
  marked_tidied from at limit zero w (list is c) e le h = let lt = h.0 in absurd (omega (arith, e, le, lt))
  marked_tidied from at limit (suc k) w (list is c) e le h =
      let lt = h.0 in
      let high = h.3 in
      let span = span_tidied is in
      let place : at + span_of is ≡ w + suc k + span_of (tidied_items is) = omega (arith, e, span) in (
        omega (arith, e, lt),
        subst (λ (i : ℕ). 0 < i) (sym (count_tidied is)) h.1,
        subst (λ (i : ℕ). AreMarked i (tidied_items is)) e (are_marked_tidied at is h.2),
        omega (arith, place, high),
        subst (λ (i : ℕ). IsMarked (i + 1) i limit (tidied 0 c)) place (marked_tidied (at + span_of is + 1) (at + span_of is) limit 0 (at + span_of is) c (omega arith) (omega arith) h.4),
      )

  are_marked_tidied : (at : ℕ) (is : Items) → ItemsHaveMarks at is → AreMarked at (tidied_items is)
  are_marked_tidied at ended h = tt
  are_marked_tidied at (item n c gap more) h =
      (marked_tidied at at (at + n) 0 at c (omega arith) (omega arith) h.0, gap_tidied gap more h.1, are_marked_tidied (at + (n + gap)) more h.2)

pub cuts_are_tidied : CutsAreTidied
cuts_are_tidied = λ c. record {
  marks = λ at. let none : at + 0 ≡ at = omega arith in marks_tidied at 0 c ∙ ap (λ (i : ℕ). marks_of i c) none;
  each = λ n h. of_tidied n 0 c h;
  marked = λ from at limit le h. marked_tidied from at limit 0 at c (omega arith) le h;
}

module _ {X : Type 0} (order : List ℕ) where
  gaps_tidied : (is : Items) (xs : List X) → gaps_of (tidied_items is) xs ≡ gaps_of is xs
  unfolding tidied_items gaps_of
  gaps_tidied ended xs = refl
  gaps_tidied (item n c gap more) xs = ap (λ (ls : List (List X)). take gap (drop n xs) ∷ ls) (gaps_tidied more (drop (n + gap) xs))

  mutual
    unfolding tidied tidied_items arranged items_of

    arranged_tidied : (n : ℕ) (c : Cut) (xs : List X) → arranged order (tidied n c) xs ≡ take n xs ++ arranged order c (drop n xs)
    arranged_tidied n done xs = sym (take-append-drop n xs)
    arranged_tidied n (keep k c) xs =
        arranged_tidied (n + k) c xs
        ∙ ap (λ (l : List X). l ++ arranged order c (drop (n + k) xs)) (take-add n k xs)
        ∙ append_assoc (take n xs) (take k (drop n xs)) (arranged order c (drop (n + k) xs))
        ∙ ap (λ (l : List X). take n xs ++ (take k (drop n xs) ++ arranged order c l)) (sym (drop-drop k n xs))
    arranged_tidied n (list is c) xs =
        let ys : List X = drop n xs in
        ap (λ (l : List X). take n xs ++ l)
        (ap (λ (ls : List (List X)). woven (picked order ls) (gaps_of (tidied_items is) ys) ++ arranged order (tidied 0 c) (drop (span_of (tidied_items is)) ys)) (items_arranged is ys)
        ∙ ap (λ (ls : List (List X)). woven (picked order (items_of order is ys)) ls ++ arranged order (tidied 0 c) (drop (span_of (tidied_items is)) ys)) (gaps_tidied is ys)
        ∙ ap (λ (k : ℕ). woven (picked order (items_of order is ys)) (gaps_of is ys) ++ arranged order (tidied 0 c) (drop k ys)) (span_tidied is)
        ∙ ap (λ (l : List X). woven (picked order (items_of order is ys)) (gaps_of is ys) ++ l) (arranged_tidied 0 c (drop (span_of is) ys)))

    items_arranged : (is : Items) (xs : List X) → items_of order (tidied_items is) xs ≡ items_of order is xs
    items_arranged ended xs = refl
    items_arranged (item n c gap more) xs =
        ap (λ (l : List X). l ∷ items_of order (tidied_items more) (drop (n + gap) xs)) (arranged_tidied 0 c (take n xs))
        ∙ ap (λ (ls : List (List X)). arranged order c (take n xs) ∷ ls) (items_arranged more (drop (n + gap) xs))

pub tidied_cuts_arrange : {X : Type 0} → TidiedCutsArrange X
tidied_cuts_arrange = λ order c xs. arranged_tidied order 0 c xs
