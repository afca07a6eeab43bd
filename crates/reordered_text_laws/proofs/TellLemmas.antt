-- The marks of its lists tell a cut.
use Rattle.std.proofs.Common.{◌≡◌, ℕ, suc, ◌+◌, ◌-◌, ◌<◌, ◌≤◌, List, ◌++◌, refl, ap, sym, subst, ◌∙◌, arith, append_assoc}
use Rattle.list_cuts.specs.Cuts.{Cut, done, keep, list, Items, ended, item, span_of}
use Rattle.reordered_text_laws.specs.Marks.{ends_of, marks_of, marks_in, first_of, EndsWith, IsMarked, AreMarked, Each}
use Rattle.reordered_text_laws.specs.MarkedCuts.{MarksTellCuts}
use Rattle.reordered_text_laws.proofs.EachLemmas.{each_map, each_join, one_seam}
use Rattle.reordered_text_laws.proofs.MarkLemmas.{Within, cut_within, items_within}

abbrev pub IsBefore : ℕ → List ℕ → Type 0
IsBefore p l = first_of l < p

abbrev pub IsFrom : ℕ → List ℕ → Type 0
IsFrom p l = p ≤ first_of l

same_gap : (at at2 gap gap2 : ℕ) (is js : Items) → ends_of at is ≡ ends_of at2 js → EndsWith gap is → EndsWith gap2 js → gap ≡ gap2
unfolding ends_of
same_gap at at2 gap gap2 ended ended e a b = a ∙ sym b
same_gap at at2 gap gap2 ended (item m d g more) e a b = absurd (cc)
same_gap at at2 gap gap2 (item n c g more) ended e a b = absurd (cc)
same_gap at at2 gap gap2 (item n c g more) (item m d g2 more2) e a b = a ∙ sym b

before_all : (at p : ℕ) (ls : List (List ℕ)) → Each (Within at p) ls → Each (IsBefore p) ls
before_all at p ls h = each_map (Within at p) (IsBefore p) ls (λ l w. let a = w.some in let b = w.before in omega (arith, a, b)) h

from_all : (low high p : ℕ) → p ≤ low → (ls : List (List ℕ)) → Each (Within low high) ls → Each (IsFrom p) ls
from_all low high p le ls h = each_map (Within low high) (IsFrom p) ls (λ l w. let a = w.from in omega (arith, a, le)) h

further : (p q : ℕ) → q ≤ p → (ls : List (List ℕ)) → Each (IsFrom p) ls → Each (IsFrom q) ls
further p q le ls h = each_map (IsFrom p) (IsFrom q) ls (λ l a. omega (arith, a, le)) h

mutual
  unfolding marks_of marks_in ends_of span_of

  cut_tells : (from from2 at limit limit2 : ℕ) (c d : Cut) → IsMarked from at limit c → IsMarked from2 at limit2 d → marks_of at c ≡ marks_of at d → c ≡ d
  cut_tells from from2 at limit limit2 done done w v e = refl
  cut_tells from from2 at limit limit2 done (keep (suc m) (list js d)) w v e = absurd (cc)
  cut_tells from from2 at limit limit2 (keep (suc k) (list is c)) done w v e = absurd (cc)
  cut_tells from from2 at limit limit2 (keep (suc k) (list is c)) (keep (suc m) (list js d)) w v e =
      let first : at + suc k - 1 ≡ at + suc m - 1 = cc in
      let same : m ≡ k = omega (arith, first) in
      let ends : ends_of (at + suc k) is ≡ ends_of (at + suc m) js = cc in
      let rest : marks_in (at + suc k) is ++ marks_of (at + suc k + span_of is) c ≡ marks_in (at + suc m) js ++ marks_of (at + suc m + span_of js) d = cc in
      let v2 : AreMarked (at + suc k) js = subst (λ (i : ℕ). AreMarked (at + suc i) js) same v.2 in
      let v4 : IsMarked (at + suc k + span_of js + 1) (at + suc k + span_of js) limit2 d = subst (λ (i : ℕ). IsMarked (at + suc i + span_of js + 1) (at + suc i + span_of js) limit2 d) same v.4 in
      let r = items_tell (at + suc k) is js (marks_of (at + suc k + span_of is) c) (marks_of (at + suc k + span_of js) d) w.2 v2
      (ends ∙ ap (λ (i : ℕ). ends_of (at + suc i) js) same) (rest ∙ ap (λ (i : ℕ). marks_in (at + suc i) js ++ marks_of (at + suc i + span_of js) d) same)
      (from_all (at + suc k + span_of is + 1) limit (at + suc k + span_of is) (omega arith) (marks_of (at + suc k + span_of is) c) (cut_within (at + suc k + span_of is + 1) (at + suc k + span_of is) limit c w.4))
      (from_all (at + suc k + span_of js + 1) limit2 (at + suc k + span_of js) (omega arith) (marks_of (at + suc k + span_of js) d) (cut_within (at + suc k + span_of js + 1) (at + suc k + span_of js) limit2 d v4)) in
      let v5 : IsMarked (at + suc k + span_of is + 1) (at + suc k + span_of is) limit2 d =
      subst (λ (x : Items). IsMarked (at + suc k + span_of x + 1) (at + suc k + span_of x) limit2 d) (sym r.0) v4 in
      let rest_is : marks_of (at + suc k + span_of is) c ≡ marks_of (at + suc k + span_of is) d = r.1 ∙ ap (λ (x : Items). marks_of (at + suc k + span_of x) d) (sym r.0) in
      let c_is : c ≡ d = cut_tells (at + suc k + span_of is + 1) (at + suc k + span_of is + 1) (at + suc k + span_of is) limit limit2 c d w.4 v5 rest_is in
      ap (λ (x : Cut). keep (suc k) (list is x)) c_is ∙ ap (λ (x : Items). keep (suc k) (list x d)) r.0 ∙ ap (λ (i : ℕ). keep (suc i) (list js d)) (sym same)
  cut_tells from from2 at limit limit2 done d w v e = absurd v
  cut_tells from from2 at limit limit2 (keep (suc k) (list is c)) d w v e = absurd v
  cut_tells from from2 at limit limit2 c d w v e = absurd w

  items_tell : (at : ℕ) (is js : Items) (xs ys : List (List ℕ)) → AreMarked at is → AreMarked at js → ends_of at is ≡ ends_of at js → marks_in at is ++ xs ≡ marks_in at js ++ ys
      → Each (IsFrom (at + span_of is)) xs → Each (IsFrom (at + span_of js)) ys → (is ≡ js) × (xs ≡ ys)
  items_tell at ended ended xs ys w v ends e a b = (refl, e)
  items_tell at ended (item m d gap2 more2) xs ys w v ends e a b = absurd (cc)
  items_tell at (item n c gap more) ended xs ys w v ends e a b = absurd (cc)
  items_tell at (item n c gap more) (item m d gap2 more2) xs ys w v ends e a b =
      let first : at + n ≡ at + m = cc in
      let n_is : m ≡ n = omega (arith, first) in
      let ends2 : ends_of (at + (n + gap)) more ≡ ends_of (at + (m + gap2)) more2 = cc in
      let gap_is : gap2 ≡ gap = sym (same_gap (at + (n + gap)) (at + (m + gap2)) gap gap2 more more2 ends2 w.1 v.1) in
      let place : at + (m + gap2) ≡ at + (n + gap) = omega (arith, n_is, gap_is) in
      let v2 : AreMarked (at + (n + gap)) more2 = subst (λ (i : ℕ). AreMarked i more2) place v.2 in
      let v0 : IsMarked at at (at + n) d = subst (λ (i : ℕ). IsMarked at at (at + i) d) n_is v.0 in
      let all : marks_of at c ++ (marks_in (at + (n + gap)) more ++ xs) ≡ marks_of at d ++ (marks_in (at + (n + gap)) more2 ++ ys) =
      sym (append_assoc (marks_of at c) (marks_in (at + (n + gap)) more) xs) ∙ e
      ∙ append_assoc (marks_of at d) (marks_in (at + (m + gap2)) more2) ys ∙ ap (λ (i : ℕ). marks_of at d ++ (marks_in i more2 ++ ys)) place in
      let seam = one_seam (IsBefore (at + n)) (IsFrom (at + n)) (marks_of at c) (marks_in (at + (n + gap)) more ++ xs) (marks_of at d) (marks_in (at + (n + gap)) more2 ++ ys)
      (λ l p q. omega (arith, p, q))
      (before_all at (at + n) (marks_of at c) (cut_within at at (at + n) c w.0))
      (each_join (IsFrom (at + n)) (marks_in (at + (n + gap)) more) xs
      (from_all (at + (n + gap)) (at + (n + gap) + span_of more) (at + n) (omega arith) (marks_in (at + (n + gap)) more) (items_within (at + (n + gap)) more w.2))
      (further (at + (n + (gap + span_of more))) (at + n) (omega arith) xs a))
      (before_all at (at + n) (marks_of at d) (cut_within at at (at + n) d v0))
      (each_join (IsFrom (at + n)) (marks_in (at + (n + gap)) more2) ys
      (from_all (at + (n + gap)) (at + (n + gap) + span_of more2) (at + n) (omega arith) (marks_in (at + (n + gap)) more2) (items_within (at + (n + gap)) more2 v2))
      (further (at + (m + (gap2 + span_of more2))) (at + n) (omega (arith, n_is)) ys b))
      all in
      let c_is : c ≡ d = cut_tells at at at (at + n) (at + n) c d w.0 v0 seam.0 in
      let far : at + (n + (gap + span_of more)) ≡ at + (n + gap) + span_of more = omega arith in
      let far2 : at + (m + (gap2 + span_of more2)) ≡ at + (n + gap) + span_of more2 = omega (arith, place) in
      let r = items_tell (at + (n + gap)) more more2 xs ys w.2 v2 (ends2 ∙ ap (λ (i : ℕ). ends_of i more2) place) seam.1
      (further (at + (n + (gap + span_of more))) (at + (n + gap) + span_of more) (omega (arith, far)) xs a)
      (further (at + (m + (gap2 + span_of more2))) (at + (n + gap) + span_of more2) (omega (arith, far2)) ys b) in (
        ap (λ (x : Cut). item n x gap more) c_is ∙ ap (λ (x : Items). item n d gap x) r.0 ∙ ap (λ (i : ℕ). item i d gap more2) (sym n_is) ∙ ap (λ (i : ℕ). item m d i more2) (sym gap_is),
        r.1,
      )

pub marks_tell_cuts : MarksTellCuts
marks_tell_cuts = λ from from2 at limit limit2 c d w v e. cut_tells from from2 at limit limit2 c d w v e
