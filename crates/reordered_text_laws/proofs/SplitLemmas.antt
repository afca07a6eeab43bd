-- A cut falls into two parts where the marks of each list stand on one side.
use Rattle.std.proofs.Common.{◌≡◌, ℕ, suc, ◌+◌, ◌-◌, ◌<◌, ◌≤◌, inl, inr, true, false, List, ◌∷◌, ◌++◌, refl, ap, sym, subst, ◌∙◌, arith, append_assoc}
use Rattle.std.specs.Prelude.{nat_le}
use Rattle.std.proofs.lemmas.Bool.{le-leb, lt-leb}
use Rattle.list_cuts.specs.Cuts.{Cut, done, keep, list, Items, count_of, span_of}
use Rattle.list_cuts.specs.CutOf.{front, back, is_between, is_free}
use Rattle.reordered_text_laws.specs.Marks.{ends_of, marks_of, marks_in, IsMarked, AreMarked, Each}
use Rattle.reordered_text_laws.specs.MarkedCuts.{IsBeside, IsSplit, MarkedCutsSplit}
use Rattle.reordered_text_laws.proofs.EachLemmas.{each_later}
use Rattle.reordered_text_laws.proofs.MarkLemmas.{items_last}
use Rattle.reordered_text_laws.proofs.TellLemmas.{IsFrom}

-- a list whose marks all stand behind an element
before_all : (from at limit p k : ℕ) (is : Items) (c : Cut) → IsMarked from at limit (keep (suc k) (list is c)) → at ≤ p → p ≤ at + k → IsSplit from at limit p (keep (suc k) (list is c))
unfolding front back is_between marks_of
before_all from at limit p k is c w le short =
    let n : ℕ = p - at in
    let few : nat_le n (suc k) ≡ true = le-leb n (suc k) (omega (arith, short)) in
    let less : suc k - n ≡ suc (k - n) = omega (arith, short, le) in
    let place : at + suc k ≡ p + suc (k - n) = omega (arith, short, le) in
    let Rest : ℕ → Type 0 = λ i. (0 < count_of is) × AreMarked i is × (i + span_of is < limit) × IsMarked (i + span_of is + 1) (i + span_of is) limit c in
    let moved : Rest (p + suc (k - n)) = subst Rest place (w.1, w.2, w.3, w.4) in
    let second : IsMarked p p limit (keep (suc (k - n)) (list is c)) = (omega arith, moved.0, moved.1, moved.2, moved.3) in
    record {
      between = rw few refl;
      marks = rw (few, less) (ap (λ (i : ℕ). marks_of i (list is c)) place);
      first = rw few tt;
      second = rw (few, less) second;
    }

-- a list whose marks all stand before it
behind_all : (from at limit p k : ℕ) (is : Items) (c : Cut) → IsMarked from at limit (keep (suc k) (list is c)) → at + suc k + span_of is < p
    → IsSplit (at + suc k + span_of is + 1) (at + suc k + span_of is) limit p c → IsSplit from at limit p (keep (suc k) (list is c))
unfolding front back is_between marks_of
behind_all from at limit p k is c w far s =
    let n : ℕ = p - at in
    let span : ℕ = span_of is in
    let past : nat_le n (suc k) ≡ false = lt-leb n (suc k) (omega (arith, far)) in
    let whole : nat_le span (n - suc k) ≡ true = le-leb span (n - suc k) (omega (arith, far)) in
    let less : n - suc k - span ≡ p - (at + suc k + span) = omega (arith, far) in
    let rest : Cut = front (p - (at + suc k + span)) c in
    let own : List ℕ = (at + suc k - 1) ∷ ends_of (at + suc k) is in
    let all : own ∷ (marks_in (at + suc k) is ++ marks_of (at + suc k + span) c) ≡ (own ∷ (marks_in (at + suc k) is ++ marks_of (at + suc k + span) rest)) ++ marks_of p (back (p - (at + suc k + span)) c) =
    ap (λ (ls : List (List ℕ)). own ∷ (marks_in (at + suc k) is ++ ls)) s.marks
    ∙ ap (λ (ls : List (List ℕ)). own ∷ ls) (sym (append_assoc (marks_in (at + suc k) is) (marks_of (at + suc k + span) rest) (marks_of p (back (p - (at + suc k + span)) c)))) in
    let first : IsMarked from at p (keep (suc k) (list is rest)) = (w.0, w.1, w.2, far, s.first) in
    record {
      between = rw (past, whole, less) s.between;
      marks = rw (past, whole, less) all;
      first = rw (past, whole, less) first;
      second = rw (past, whole, less) s.second;
    }

pub cut_split : (from at limit p : ℕ) (c : Cut) → IsMarked from at limit c → at ≤ p → Each (IsBeside p) (marks_of at c) → IsSplit from at limit p c
unfolding front back is_between marks_of
cut_split from at limit p done w le beside = record { between = refl; marks = refl; first = tt; second = tt }
cut_split from at limit p (keep (suc k) (list is c)) w le beside =
    let last = items_last (at + suc k - 1) (at + suc k) is w.1 w.2 in
    elim beside.0 [
      | inl far ↦
          let past : at + suc k + span_of is < p = omega (arith, last, far) in
          behind_all from at limit p k is c w past
          (cut_split (at + suc k + span_of is + 1) (at + suc k + span_of is) limit p c w.4 (omega (arith, past)) (each_later (IsBeside p) (marks_in (at + suc k) is) (marks_of (at + suc k + span_of is) c) beside.1))
      | inr near ↦ before_all from at limit p k is c w le (omega (arith, near))
    ]
cut_split from at limit p c w le beside = absurd w

pub marked_cuts_split : MarkedCutsSplit
marked_cuts_split = λ from at limit p c w le beside. cut_split from at limit p c w le beside

-- no list stands before the first mark
pub free_of : (from at limit p : ℕ) (c : Cut) → IsMarked from at limit c → at ≤ p → Each (IsFrom p) (marks_of at c) → is_free (p - at) c ≡ true
unfolding is_free marks_of
free_of from at limit p done w le h = refl
free_of from at limit p (keep (suc k) (list is c)) w le h =
    let near = h.0 in
    let few : nat_le (p - at) (suc k) ≡ true = le-leb (p - at) (suc k) (omega (arith, near)) in
    rw few refl
free_of from at limit p c w le h = absurd w

-- marks that begin later
pub raised : (from from2 at limit : ℕ) (c : Cut) → IsMarked from at limit c → Each (IsFrom from2) (marks_of at c) → IsMarked from2 at limit c
unfolding marks_of
raised from from2 at limit done w h = tt
raised from from2 at limit (keep (suc k) (list is c)) w h = let near = h.0 in (omega (arith, near), w.1, w.2, w.3, w.4)
raised from from2 at limit c w h = absurd w
