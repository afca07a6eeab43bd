-- The lists of the classes: what makes them, class by class.
use Rattle.std.proofs.Common.{◌≡◌, ℕ, zero, suc, ◌+◌, ◌-◌, ◌<◌, ◌≤◌, List, [], ◌∷◌, ◌++◌, length, take, get_or, Some, slice_get, inl, inr, refl, sym, ap, ◌∙◌, subst, arith}
use Rattle.std.specs.Prelude.{◌⊎◌}
use Rattle.std.specs.Cmp.{IsTotalOrder}
use Rattle.std.specs.List.{Contains, AllAdjacentBelow}
use Rattle.std.specs.List.Sorted.{IsPermutation, IsStrictlySortedBy}
use Rattle.std.specs.Ordering.{nat_cmp, ordering_reverse, ordering_then}
use Rattle.std.specs.Cmp.Lexicographic.{slice_cmp}
use Rattle.std.specs.declared.cmp.Ordering.{Ordering}
use Rattle.std.specs.declared.cmp.Ordering.TheVariants.{Less, Equal}
use Rattle.std.proofs.lemmas.Bool.{cases_lt}
use Rattle.std.proofs.lemmas.Cmp.{then_total, on_total, nat_list_cmp_total, nat_cmp_total, tied_itself}
use Rattle.std.proofs.lemmas.List.{append-nil, get_or_append_left, get_or_default, get_or_push, length-append}
use Rattle.std.proofs.lemmas.List.Sorted.{Contains-permutation, IsPermutation-sym, all_adjacent_more}
use Rattle.std.proofs.lemmas.Map.Keys.{Less-from_sorted, sorted_from_all_adjacent}
use Rattle.std.proofs.lemmas.Option.{slice_get_within, slice_get-get_or, get_or_from_slice_get}
use Rattle.cs_base.specs.declared.positions.Part.{Part}
use Rattle.cs_base.specs.declared.positions.Pos.{Pos}
use Rattle.eclass_map.specs.ClassTable.{Table, HasParts, class_in, members_of}
use Rattle.include_tree.specs.Below.source_files.Files.{Table as Files}
use Rattle.analysis.specs.Analysis.{AnalysisValue}
use Rattle.analysis.specs.Analysed.{ClassLists, class_lists, AreLists}
use Rattle.analysis.specs.Classes.{AreItsClasses}
use Rattle.analysis.specs.Parts.{IsFirst, AreMembers, AreFirsts, part_cmp}
use Rattle.analysis.specs.Places.{path_at, place_cmp}
use Rattle.analysis.specs.Listing.{AreOfClass, AreFirstsBelow, AreListed, AreBelow, with_class}
use Rattle.analysis.proofs.ClassLemmas.{part_told, part_held, walked_member, member_walked}
use Rattle.analysis.proofs.PushedLemmas.{pushed_own}

-- ---- lists

contains_at : {X : Type 0} (xs : List X) (k : ℕ) (x : X) → slice_get xs k ≡ Some x → Contains xs x
contains_at xs k x at = (k, slice_get_within xs k x at, get_or_from_slice_get xs k x x at)

at_contained : {X : Type 0} (xs : List X) (x : X) → Contains xs x → (k : ℕ) × (slice_get xs k ≡ Some x)
at_contained xs x h = (h.0, slice_get-get_or xs h.0 x h.1 ∙ ap Some h.2)

-- what is moved stands somewhere
moved : {X : Type 0} (xs ys : List X) → IsPermutation xs ys → (k : ℕ) (x : X) → slice_get xs k ≡ Some x → (j : ℕ) × (slice_get ys j ≡ Some x)
moved xs ys p k x at = at_contained ys x (Contains-permutation xs ys x p (contains_at xs k x at))

moved_back : {X : Type 0} (xs ys : List X) → IsPermutation xs ys → (k : ℕ) (x : X) → slice_get ys k ≡ Some x → (j : ℕ) × (slice_get xs j ≡ Some x)
moved_back xs ys p k x at = moved ys xs (IsPermutation-sym xs ys p) k x at

pub pushed_cases : {X : Type 0} (xs : List X) (y : X) (k : ℕ) (x : X) → slice_get (xs ++ y ∷ []) k ≡ Some x → (slice_get xs k ≡ Some x) ⊎ (y ≡ x)
pushed_cases [] y zero x at = inr (cc)
pushed_cases [] y (suc k) x at = absurd (cc)
pushed_cases (z ∷ xs) y zero x at = inl at
pushed_cases (z ∷ xs) y (suc k) x at = pushed_cases xs y k x at

pub pushed_kept : {X : Type 0} (xs : List X) (y : X) (k : ℕ) (x : X) → slice_get xs k ≡ Some x → slice_get (xs ++ y ∷ []) k ≡ Some x
pushed_kept [] y k x at = absurd (cc)
pushed_kept (z ∷ xs) y zero x at = at
pushed_kept (z ∷ xs) y (suc k) x at = pushed_kept xs y k x at

-- ---- the order of places

pub part_cmp-total : (a : AnalysisValue) → IsTotalOrder (part_cmp a)
part_cmp-total a =
    then_total (on_total (λ (p : Part). path_at a.table p.start.file) nat_list_cmp_total) (on_total (λ (p : Part). p.start.at) nat_cmp_total)

-- in one file the place in it decides
pub in_one_file : (table : Files) (p q : Pos) → p.file ≡ q.file → place_cmp table p q ≡ nat_cmp p.at q.at
in_one_file table p q same =
    let tie : slice_cmp nat_cmp (path_at table p.file) (path_at table q.file) ≡ Equal =
    ap (λ (n : ℕ). slice_cmp nat_cmp (path_at table p.file) (path_at table n)) (sym same) ∙ tied_itself nat_list_cmp_total (path_at table p.file) in
    ap (λ (o : Ordering). ordering_then o (nat_cmp p.at q.at)) tie

-- each part comes before the next
pub in_order : (a : AnalysisValue) (parts : List Part) (n : ℕ) → AllAdjacentBelow (λ part other. part_cmp a part other ≡ Less) parts n
    → length parts ≤ n → IsStrictlySortedBy (part_cmp a) parts
in_order a parts n adjacent most =
    let none : Part = record { start = record { file = 0; at = 0 }; len = 0 } in
    sorted_from_all_adjacent (part_cmp-total a) parts none (λ k below. adjacent k none (omega arith))

-- the next one too
pub in_order_more : (a : AnalysisValue) (parts : List Part) (i : ℕ) (x y : Part) → 1 ≤ i → i < length parts
    → AllAdjacentBelow (λ part other. part_cmp a part other ≡ Less) parts i → part_cmp a (get_or parts (i - 1) x) (get_or parts i y) ≡ Less
    → AllAdjacentBelow (λ part other. part_cmp a part other ≡ Less) parts (i + 1)
in_order_more a parts i x y some within adjacent here =
    all_adjacent_more parts (λ part other. part_cmp a part other ≡ Less) i some adjacent (λ d.
    ap (λ (p : Part). part_cmp a p (get_or parts i d)) (get_or_default parts (i - 1) d x (omega arith))
    ∙ ap (part_cmp a (get_or parts (i - 1) x)) (get_or_default parts i d y within)
    ∙ here)

-- what comes first comes before the others
head_less : (a : AnalysisValue) (p : Part) (ps : List Part) (k : ℕ) (q : Part) → IsStrictlySortedBy (part_cmp a) (p ∷ ps)
    → slice_get ps k ≡ Some q → part_cmp a p q ≡ Less
head_less a p ps k q sorted at =
    let within : k < length ps = slice_get_within ps k q at in
    let less : part_cmp a p (get_or ps k p) ≡ Less = Less-from_sorted (part_cmp a) (p ∷ ps) 0 (suc k) p sorted (omega arith) (omega arith) in
    let is : get_or ps k p ≡ q = get_or_from_slice_get ps k q p at in
    ap (part_cmp a p) (sym is) ∙ less

not_before_itself : (a : AnalysisValue) (p : Part) → part_cmp a p p ≡ Less → ⊥
not_before_itself a p less = let e = tied_itself (part_cmp-total a) p in cc

not_before_first : (a : AnalysisValue) (p q : Part) → part_cmp a p q ≡ Less → part_cmp a q p ≡ Less → ⊥
not_before_first a p q less back =
    let e : part_cmp a q p ≡ ordering_reverse Less = (part_cmp-total a).antisymm q p ∙ ap ordering_reverse less in
    cc

-- ---- one class

-- the parts of a walk in another order
pub of_class : (a : AnalysisValue) (t : Table) (c : ℕ) (parts sorted : List Part) → HasParts t → parts ≡ members_of t c
    → IsPermutation parts sorted → IsStrictlySortedBy (part_cmp a) sorted → AreOfClass a t c sorted
of_class a t c parts sorted h walk p order = record {
  each = λ k part at.
      let was = moved_back parts sorted p k part at in
      let P : List Part → Type 0 = λ l. slice_get l was.0 ≡ Some part in
      h.walked part c was.0 (subst P walk was.1);
  all = λ part is.
      let at = h.member part c is in
      let P : List Part → Type 0 = λ l. slice_get l at.0 ≡ Some part in
      moved parts sorted p at.0 part (subst P (sym walk) at.1);
  sorted = order;
}

pub are_members : (a : AnalysisValue) (t : Table) → AreItsClasses a t → (part : Part) (c : ℕ) (parts : List Part)
    → class_in t part ≡ Some c → AreOfClass a t c parts → AreMembers a part parts
are_members a t h part c parts is of = record {
  each = λ k other at. let n = h.parts.member other c (of.each k other at) in walked_member a t h part other c n.0 is n.1;
  all = λ other m. let w = member_walked a t h part other c is m in of.all other (h.parts.walked other c w.0 w.1);
  sorted = of.sorted;
}

none_before : (a : AnalysisValue) (p : Part) (ps : List Part) → IsStrictlySortedBy (part_cmp a) (p ∷ ps) → (other : Part) (k : ℕ)
    → slice_get (p ∷ ps) k ≡ Some other → part_cmp a other p ≡ Less → ⊥
none_before a p ps sorted other zero at less = let same : p ≡ other = cc in not_before_itself a p (ap (λ (q : Part). part_cmp a q p) same ∙ less)
none_before a p ps sorted other (suc k) at less = not_before_first a p other (head_less a p ps k other sorted at) less

first_of : (a : AnalysisValue) (t : Table) → AreItsClasses a t → (c : ℕ) (p : Part) (ps : List Part) → AreOfClass a t c (p ∷ ps) → IsFirst a p
first_of a t h c p ps of =
    let is = of.each 0 p refl in
    let members = are_members a t h p c (p ∷ ps) is of in
    record {
      is_part = part_told a t h p (h.parts.told p c is);
      first = λ other m less. (let at = members.all other m in none_before a p ps of.sorted other at.0 at.1 less);
    }

-- the only one
first_only : (a : AnalysisValue) (t : Table) → AreItsClasses a t → (c : ℕ) (p : Part) (ps : List Part) → AreOfClass a t c (p ∷ ps)
    → (part : Part) (k : ℕ) → slice_get (p ∷ ps) k ≡ Some part → IsFirst a part → p ≡ part
first_only a t h c p ps of part zero at first = cc
first_only a t h c p ps of part (suc k) at first =
    let is = of.each (suc k) part at in
    let members = are_members a t h part c (p ∷ ps) is of in
    absurd (first.first p (members.each 0 p refl) (head_less a p ps k part of.sorted at))

-- ---- the first members

pub firsts_more : (a : AnalysisValue) (t : Table) → AreItsClasses a t → (n : ℕ) (firsts parts : List Part) → AreFirstsBelow a t n firsts
    → AreOfClass a t n parts → AreFirstsBelow a t (n + 1) (firsts ++ take 1 parts)
firsts_more a t h n firsts [] before of =
    let P : List Part → Type 0 = λ l. AreFirstsBelow a t (n + 1) l in
    subst P (sym (append-nil firsts)) (record {
      each = before.each;
      all = λ part c below is first. elim (cases_lt c n) [
        | inl less ↦ before.all part c less is first
        | inr most ↦
            let same : c ≡ n = omega arith in
            let at = of.all part (is ∙ ap Some same) in
            absurd (cc (at.1))
      ];
    })
firsts_more a t h n firsts (p ∷ ps) before of = record {
  each = λ k part at. elim (pushed_cases firsts p k part at) [
    | inl old ↦ before.each k part old
    | inr new ↦ let P : Part → Type 0 = λ q. IsFirst a q in subst P new (first_of a t h n p ps of)
  ];
  all = λ part c below is first. elim (cases_lt c n) [
    | inl less ↦ let at = before.all part c less is first in (at.0, pushed_kept firsts p at.0 part at.1)
    | inr most ↦
        let same : c ≡ n = omega arith in
        let at = of.all part (is ∙ ap Some same) in
        let one = first_only a t h n p ps of part at.0 at.1 first in
        (length firsts, pushed_own firsts p ∙ ap Some one)
  ];
}

-- put in order, they are all
firsts_all : (a : AnalysisValue) (t : Table) → AreItsClasses a t → (n : ℕ) (firsts sorted : List Part) → AreFirstsBelow a t n firsts
    → AreBelow t n → IsPermutation firsts sorted → IsStrictlySortedBy (part_cmp a) sorted → AreFirsts a sorted
firsts_all a t h n firsts sorted before below p order = record {
  each = λ k part at. let was = moved_back firsts sorted p k part at in before.each was.0 part was.1;
  all = λ part first.
      let d = h.parts.each part (part_held a t h part first.is_part) in
      let at = before.all part d.0 (below part d.0 d.1) d.1 first in
      moved firsts sorted p at.0 part at.1;
  sorted = order;
}

-- ---- all lists

pub listed_more : (a : AnalysisValue) (t : Table) → AreItsClasses a t → (n : ℕ) (lists : ClassLists) (parts : List Part) → AreListed a t n lists
    → AreOfClass a t n parts → AreListed a t (n + 1) (with_class parts lists)
listed_more a t h n lists parts before of = record {
  count = length-append lists.members (parts ∷ []) ∙ ap (λ (m : ℕ). m + 1) before.count;
  members = λ c below. elim (cases_lt c n) [
    | inl less ↦
        let P : List Part → Type 0 = λ l. AreOfClass a t c l in
        let count = before.count in
        subst P (sym (get_or_append_left lists.members (parts ∷ []) [] c (omega arith))) (before.members c less)
    | inr most ↦
        let same : c ≡ n = omega arith in
        let P : List Part → Type 0 = λ l. AreOfClass a t c l in
        let Q : ℕ → Type 0 = λ m. AreOfClass a t m parts in
        subst P (sym (get_or_push lists.members parts [] c (before.count ∙ sym same))) (subst Q (sym same) of)
  ];
  firsts = firsts_more a t h n lists.firsts parts before.firsts of;
}

-- with the first members in order
pub listed_all : (a : AnalysisValue) (t : Table) → AreItsClasses a t → (n : ℕ) (lists : ClassLists) (sorted : List Part) → AreListed a t n lists
    → AreBelow t n → IsPermutation lists.firsts sorted → IsStrictlySortedBy (part_cmp a) sorted → AreLists a t (class_lists lists.members sorted)
listed_all a t h n lists sorted before below p order = record {
  members = λ part c is. are_members a t h part c (get_or lists.members c []) is (before.members c (below part c is));
  firsts = firsts_all a t h n lists.firsts sorted before.firsts below p order;
}
