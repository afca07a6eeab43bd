-- Lists that are nested by their marks have a cut.
use Rattle.std.proofs.Common.{◌≡◌, ℕ, suc, ◌+◌, ◌-◌, ◌<◌, ◌≤◌, ◌⊎◌, inl, inr, true, List, [], ◌∷◌, ◌++◌, map, refl, ap, sym, subst, ◌∙◌, arith, append_assoc}
use Rattle.std.specs.Prelude.{◌&&◌}
use Rattle.std.proofs.lemmas.Bool.{and_from}
use Rattle.list_cuts.specs.Cuts.{Cut, keep, list, Items, ended, item, count_of, span_of}
use Rattle.list_cuts.specs.CutOf.{front, back, is_between, is_free, cut_items, rest_of, cut_of, holds_items, are_nested}
use Rattle.reordered_text_laws.specs.Marks.{ends_of, marks_of, marks_in, first_of, last_after, last_of, EndsWith, IsMarked, AreMarked, Each, StandFrom, AreOfList, StandBy, AreNested, spans_by}
use Rattle.reordered_text_laws.specs.MarkedCuts.{IsBeside, HasCut, NestedMarksHaveCuts}
use Rattle.reordered_text_laws.proofs.EachLemmas.{each_map, each_two, each_first, each_later}
use Rattle.reordered_text_laws.proofs.MarkLemmas.{Within, cut_within}
use Rattle.reordered_text_laws.proofs.TellLemmas.{IsBefore, IsFrom}
use Rattle.reordered_text_laws.proofs.SplitLemmas.{cut_split, free_of, raised}

none_both : (P Q : List ℕ → Type 0) (ls : List (List ℕ)) → ((l : List ℕ) → P l → Q l → ⊥) → Each P ls → Each Q ls → ls ≡ []
none_both P Q [] no_both a b = refl
none_both P Q (l ∷ ls) no_both a b = absurd (no_both l a.0 b.0)

-- ---- where all marks stand behind an element

-- the part behind it
record AllBehind (at limit p : ℕ) (c : Cut) : Type 0 where
  free : is_free (p - at) c ≡ true
  marks : marks_of p (back (p - at) c) ≡ marks_of at c
  marked : IsMarked p p limit (back (p - at) c)

all_behind : (from at limit p : ℕ) (c : Cut) → IsMarked from at limit c → at ≤ p → Each (IsFrom p) (marks_of at c) → AllBehind at limit p c
all_behind from at limit p c w le h =
    let s = cut_split from at limit p c w le (each_map (IsFrom p) (IsBeside p) (marks_of at c) (λ l a. inr a) h) in
    let both : Each (IsFrom p) (marks_of at (front (p - at) c) ++ marks_of p (back (p - at) c)) = subst (λ (ls : List (List ℕ)). Each (IsFrom p) ls) s.marks h in
    let none = none_both (IsBefore p) (IsFrom p) (marks_of at (front (p - at) c)) (λ l a b. omega (arith, a, b))
    (before_first (front (p - at) c) s.first) (each_first (IsFrom p) (marks_of at (front (p - at) c)) (marks_of p (back (p - at) c)) both) in
    record {
      free = free_of from at limit p c w le h;
      marks = sym (s.marks ∙ ap (λ (ls : List (List ℕ)). ls ++ marks_of p (back (p - at) c)) none);
      marked = s.second;
    }
  where
    before_first : (d : Cut) → IsMarked from at p d → Each (IsBefore p) (marks_of at d)
    before_first d v = each_map (Within from p) (IsBefore p) (marks_of at d) (λ l x. let a = x.some in let b = x.before in omega (arith, a, b)) (cut_within from at p d v)

-- ---- the items of a list

-- the items between marks, in front of a cut of what follows the first mark
record HasItems (m k : ℕ) (ms : List ℕ) (limit : ℕ) (d : Cut) : Type 0 where
  holds : holds_items d (spans_by (m ∷ k ∷ ms)) ≡ true
  some : 0 < count_of (cut_items d (spans_by (m ∷ k ∷ ms)))
  marked : AreMarked (m + 1) (cut_items d (spans_by (m ∷ k ∷ ms)))
  ends : ends_of (m + 1) (cut_items d (spans_by (m ∷ k ∷ ms))) ≡ k ∷ ms
  span : m + 1 + span_of (cut_items d (spans_by (m ∷ k ∷ ms))) ≡ last_after k ms
  rest : IsMarked (last_after k ms + 1) (last_after k ms) limit (rest_of d (spans_by (m ∷ k ∷ ms)))
  marks : marks_in (m + 1) (cut_items d (spans_by (m ∷ k ∷ ms))) ++ marks_of (last_after k ms) (rest_of d (spans_by (m ∷ k ∷ ms))) ≡ marks_of (m + 1) d

-- an element at the first mark behind an item
beside : (m k : ℕ) (ms l : List ℕ) → StandBy (m ∷ k ∷ ms) l → ((last_of l < k) ⊎ StandBy (k ∷ ms) l)
beside m k ms l (inl h) = inl h.1
beside m k ms l (inr h) = inr h

pub behind_mark : (k : ℕ) (ms l : List ℕ) → StandFrom 0 (k ∷ ms) → StandBy (k ∷ ms) l → k < first_of l
behind_mark k [] l stand h = h
behind_mark k (j ∷ ms) l stand (inl h) = h.0
behind_mark k (j ∷ ms) l stand (inr h) =
    let next = stand.1.0 in
    let far = behind_mark j ms l (omega arith, stand.1.1) h in
    omega (arith, next, far)

record Passed (m k : ℕ) (ms : List ℕ) (limit : ℕ) (d : Cut) : Type 0 where
  between : is_between (k - (m + 1)) d ≡ true
  first : IsMarked (m + 1) (m + 1) (m + 1 + (k - (m + 1))) (front (k - (m + 1)) d)
  seam : m + 1 + (k - (m + 1)) ≡ k
  second : IsMarked (k + 1) k limit (back (k - (m + 1)) d)
  marks : marks_of (m + 1) d ≡ marks_of (m + 1) (front (k - (m + 1)) d) ++ marks_of k (back (k - (m + 1)) d)
  behind : Each (λ l. StandBy (k ∷ ms) l × (k + 1 ≤ first_of l)) (marks_of k (back (k - (m + 1)) d))

passed : (m k : ℕ) (ms : List ℕ) (limit : ℕ) (d : Cut) → IsMarked (m + 1) (m + 1) limit d → StandFrom 0 (m ∷ k ∷ ms) → Each (StandBy (m ∷ k ∷ ms)) (marks_of (m + 1) d) → Passed m k ms limit d
passed m k ms limit d w stand by =
    let le : m + 1 ≤ k = stand.1.0 in
    let tail : StandFrom 0 (k ∷ ms) = (omega arith, stand.1.1) in
    let s = cut_split (m + 1) (m + 1) limit k d w le
    (each_map (StandBy (m ∷ k ∷ ms)) (IsBeside k) (marks_of (m + 1) d)
    (λ l h. elim (beside m k ms l h) [ inl a ↦ inl a | inr b ↦ inr (let c = behind_mark k ms l tail b in omega (arith, c)) ]) by) in
    let n : ℕ = k - (m + 1) in
    let both : Each (StandBy (m ∷ k ∷ ms)) (marks_of (m + 1) (front n d) ++ marks_of k (back n d)) = subst (λ (ls : List (List ℕ)). Each (StandBy (m ∷ k ∷ ms)) ls) s.marks by in
    let later = each_later (StandBy (m ∷ k ∷ ms)) (marks_of (m + 1) (front n d)) (marks_of k (back n d)) both in
    let within = cut_within k k limit (back n d) s.second in
    let all = each_map (λ l. StandBy (m ∷ k ∷ ms) l × Within k limit l) (λ l. StandBy (k ∷ ms) l × (k + 1 ≤ first_of l)) (marks_of k (back n d))
    (λ l h. elim (beside m k ms l h.0) [
      | inl a ↦ let v = h.1 in let p = v.from in let q = v.some in absurd (omega (arith, a, p, q))
      | inr b ↦ (b, let c = behind_mark k ms l tail b in omega (arith, c))
    ]) (each_two (StandBy (m ∷ k ∷ ms)) (Within k limit) (marks_of k (back n d)) later within) in
    let seam : m + 1 + (k - (m + 1)) ≡ k = omega (arith, le) in
    record {
      between = s.between;
      first = subst (λ (i : ℕ). IsMarked (m + 1) (m + 1) i (front n d)) (sym seam) s.first;
      seam = seam;
      second = raised k (k + 1) k limit (back n d) s.second (each_map (λ l. StandBy (k ∷ ms) l × (k + 1 ≤ first_of l)) (IsFrom (k + 1)) (marks_of k (back n d)) (λ l h. h.1) all);
      marks = s.marks;
      behind = all;
    }

items_of_marks : (m k : ℕ) (ms : List ℕ) (limit : ℕ) (d : Cut) → IsMarked (m + 1) (m + 1) limit d → StandFrom 0 (m ∷ k ∷ ms) → Each (StandBy (m ∷ k ∷ ms)) (marks_of (m + 1) d) → HasItems m k ms limit d
unfolding cut_items rest_of holds_items ends_of marks_in span_of count_of
items_of_marks m k [] limit d w stand by =
    let p = passed m k [] limit d w stand by in
    let n : ℕ = k - (m + 1) in
    let seam = p.seam in
    record {
      holds = p.between;
      some = omega arith;
      marked = (p.first, refl, tt);
      ends = ap (λ (i : ℕ). i ∷ []) seam;
      span = omega (arith, seam);
      rest = p.second;
      marks = ap (λ (ls : List (List ℕ)). ls ++ marks_of k (back n d)) (nil_end (marks_of (m + 1) (front n d))) ∙ sym p.marks;
    }
  where
    nil_end : (ls : List (List ℕ)) → ls ++ [] ≡ ls
    nil_end [] = refl
    nil_end (l ∷ ls) = ap (λ (xs : List (List ℕ)). l ∷ xs) (nil_end ls)
items_of_marks m k (j ∷ ms) limit d w stand by =
    let p = passed m k (j ∷ ms) limit d w stand by in
    let n : ℕ = k - (m + 1) in
    let seam = p.seam in
    let b = all_behind (k + 1) k limit (k + 1) (back n d) p.second (omega arith)
    (each_map (λ l. StandBy (k ∷ j ∷ ms) l × (k + 1 ≤ first_of l)) (IsFrom (k + 1)) (marks_of k (back n d)) (λ l h. h.1) p.behind) in
    let e : Cut = back (k + 1 - k) (back n d) in
    let stands : Each (StandBy (k ∷ j ∷ ms)) (marks_of (k + 1) e) =
    subst (λ (ls : List (List ℕ)). Each (StandBy (k ∷ j ∷ ms)) ls) (sym b.marks)
    (each_map (λ l. StandBy (k ∷ j ∷ ms) l × (k + 1 ≤ first_of l)) (StandBy (k ∷ j ∷ ms)) (marks_of k (back n d)) (λ l h. h.0) p.behind) in
    let r = items_of_marks k j ms limit e b.marked (omega arith, stand.1.1) stands in
    let one : k + 1 - k ≡ 1 = omega arith in
    let next : m + 1 + (n + (k + 1 - k)) ≡ k + 1 = omega (arith, seam) in
    let inner : Items = cut_items e (spans_by (k ∷ j ∷ ms)) in
    let span = r.span in
    record {
      holds = and_from (is_between n d) _ p.between (and_from (is_free (k + 1 - k) (back n d)) (holds_items e (spans_by (k ∷ j ∷ ms))) b.free r.holds);
      some = omega arith;
      marked = (p.first, ends_with inner r.some, subst (λ (i : ℕ). AreMarked i inner) (sym next) r.marked);
      ends = ap (λ (i : ℕ). i ∷ ends_of (m + 1 + (n + (k + 1 - k))) inner) seam ∙ ap (λ (i : ℕ). k ∷ ends_of i inner) next ∙ ap (λ (l : List ℕ). k ∷ l) r.ends;
      span = omega (arith, next, span);
      rest = r.rest;
      marks =
          append_assoc (marks_of (m + 1) (front n d)) (marks_in (m + 1 + (n + (k + 1 - k))) inner) (marks_of (last_after j ms) (rest_of e (spans_by (k ∷ j ∷ ms))))
          ∙ ap (λ (i : ℕ). marks_of (m + 1) (front n d) ++ (marks_in i inner ++ marks_of (last_after j ms) (rest_of e (spans_by (k ∷ j ∷ ms))))) next
          ∙ ap (λ (ls : List (List ℕ)). marks_of (m + 1) (front n d) ++ ls) (r.marks ∙ b.marks)
          ∙ sym p.marks;
    }
  where
    ends_with : (is : Items) → 0 < count_of is → EndsWith (k + 1 - k) is
    ends_with ended some = absurd (omega (arith, some))
    ends_with (item a c g more) some = omega arith

-- ---- all lists

of_marks : (limit : ℕ) (ls : List (List ℕ)) → Each (AreOfList limit) ls → AreNested ls → HasCut limit ls
unfolding cut_of are_nested marks_of
of_marks limit [] each nested = record { nested = refl; marked = tt; marks = refl }
of_marks limit ([] ∷ ls) each nested = absurd each.0
of_marks limit ((m ∷ []) ∷ ls) each nested = absurd each.0
of_marks limit ((m ∷ k ∷ ms) ∷ ls) each nested =
    let h = of_marks limit ls each.1 nested.1 in
    let c : Cut = cut_of (map spans_by ls) in
    let stand : StandFrom 0 (m ∷ k ∷ ms) = each.0.0 in
    let last : last_after k ms < limit = each.0.1 in
    let by : Each (StandBy (m ∷ k ∷ ms)) (marks_of 0 c) = subst (λ (l : List (List ℕ)). Each (StandBy (m ∷ k ∷ ms)) l) (sym h.marks) nested.0 in
    let b = all_behind 0 0 limit (m + 1) c h.marked (omega arith)
    (each_map (StandBy (m ∷ k ∷ ms)) (IsFrom (m + 1)) (marks_of 0 c) (λ l x. let far = behind_mark m (k ∷ ms) l stand x in omega (arith, far)) by) in
    let none : m + 1 - 0 ≡ m + 1 = omega arith in
    let d : Cut = back (m + 1) c in
    let marked : IsMarked (m + 1) (m + 1) limit d = subst (λ (i : ℕ). IsMarked (m + 1) (m + 1) limit (back i c)) none b.marked in
    let same : marks_of (m + 1) d ≡ marks_of 0 c = ap (λ (i : ℕ). marks_of (m + 1) (back i c)) (sym none) ∙ b.marks in
    let r = items_of_marks m k ms limit d marked stand (subst (λ (l : List (List ℕ)). Each (StandBy (m ∷ k ∷ ms)) l) (sym same) by) in
    let is : Items = cut_items d (spans_by (m ∷ k ∷ ms)) in
    let rest : Cut = rest_of d (spans_by (m ∷ k ∷ ms)) in
    let span = r.span in
    let one : m + 1 ≡ suc m = omega arith in
    let at1 : m + 1 ≡ 0 + suc m = omega arith in
    let at2 : 0 + (m + 1) ≡ m + 1 = omega arith in
    let far : 0 + suc m + span_of is ≡ last_after k ms = omega (arith, span) in
    let whole : IsMarked 0 0 limit (keep (suc m) (list is rest)) = (
      omega arith,
      r.some,
      subst (λ (i : ℕ). AreMarked i is) at1 r.marked,
      omega (arith, far, last),
      subst (λ (i : ℕ). IsMarked (i + 1) i limit rest) (sym far) r.rest,
    ) in
    let less : 0 + (m + 1) - 1 ≡ m = omega arith in
    let far2 : 0 + (m + 1) + span_of is ≡ last_after k ms = omega (arith, span) in
    record {
      nested = and_from (is_free (m + 1) c && holds_items d (spans_by (m ∷ k ∷ ms))) (are_nested (map spans_by ls))
          (and_from (is_free (m + 1) c) (holds_items d (spans_by (m ∷ k ∷ ms))) (subst (λ (i : ℕ). is_free i c ≡ true) none b.free) r.holds) h.nested;
      marked = subst (λ (i : ℕ). IsMarked 0 0 limit (keep i (list is rest))) (sym one) whole;
      marks =
          ap (λ (i : ℕ). (i ∷ ends_of (0 + (m + 1)) is) ∷ (marks_in (0 + (m + 1)) is ++ marks_of (0 + (m + 1) + span_of is) rest)) less
          ∙ ap (λ (i : ℕ). (m ∷ ends_of i is) ∷ (marks_in i is ++ marks_of (0 + (m + 1) + span_of is) rest)) at2
          ∙ ap (λ (l : List ℕ). (m ∷ l) ∷ (marks_in (m + 1) is ++ marks_of (0 + (m + 1) + span_of is) rest)) r.ends
          ∙ ap (λ (i : ℕ). (m ∷ k ∷ ms) ∷ (marks_in (m + 1) is ++ marks_of i rest)) far2
          ∙ ap (λ (l : List (List ℕ)). (m ∷ k ∷ ms) ∷ l) (r.marks ∙ same ∙ h.marks);
    }

pub nested_marks_have_cuts : NestedMarksHaveCuts
nested_marks_have_cuts = λ limit ls each nested. of_marks limit ls each nested
