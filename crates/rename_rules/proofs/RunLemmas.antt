-- The members of a class by their files.
use Rattle.std.proofs.Common.{◌≡◌, ℕ, zero, suc, ◌+◌, ◌-◌, ◌<◌, ◌≤◌, true, false, List, [], ◌∷◌, take, drop, Some, slice_get, inl, inr, refl, sym, ap, ◌∙◌, subst, arith, add-one}
use Rattle.std.specs.Prelude.{◌==◌, nat_lt}
use Rattle.std.specs.List.{prefix_len}
use Rattle.std.specs.List.Sorted.{IsStrictlySortedBy}
use Rattle.std.specs.Ordering.{nat_cmp}
use Rattle.std.specs.declared.cmp.Ordering.TheVariants.{Less, Equal, Greater}
use Rattle.std.proofs.lemmas.Bool.{cases_Bool, cases_lt, eq-eqb, eqb-true, ltb-true}
use Rattle.std.proofs.lemmas.Map.Keys.{Less-from_sorted, sorted_tail}
use Rattle.cs_base.specs.declared.positions.Part.{Part}
use Rattle.cs_base.specs.declared.positions.Pos.{Pos}
use Rattle.cs_base.proofs.NumberLemmas.{one-add}
use Rattle.cs_base.proofs.PlaceLemmas.{pos_is as same_pos}
use Rattle.analysis.specs.Below.eclass_map.Positions.{along}
use Rattle.part_respell.specs.Order.{AreInOrder}
use Rattle.analysis.specs.Analysis.{AnalysisValue}
use Rattle.analysis.specs.Parts.{IsStart, IsPart, AreMembers, part_cmp}
use Rattle.analysis.proofs.ListingLemmas.{in_one_file}
use Rattle.rename_rules.specs.Runs.{with_member, runs, is_in, run_length, AreApart}

-- ---- members of one file are apart

no_inside : (a : AnalysisValue) (x y : Part) → IsPart a x → IsPart a y → x.start.file ≡ y.start.file → x.start.at < y.start.at
    → y.start.at < x.start.at + x.len → ⊥
no_inside a x y is other file less inside =
    let o = y.start.at - x.start.at in
    let here : along x.start o ≡ y.start = same_pos (along x.start o) y.start file (omega (arith, less)) in
    let P : Pos → Type 0 = IsStart a in
    (is.goes_on o (omega (arith, less)) (omega (arith, less, inside))).1 (subst P (sym here) other.start)

less_at : (m n : ℕ) → nat_cmp m n ≡ Less → m < n
less_at m n e =
    elim (cases_Bool (nat_lt m n)) [
      | inl less ↦ ltb-true m n less
      | inr not_less ↦ elim (cases_Bool (m == n)) [
        | inl same ↦ let f : Equal ≡ Less = rw (not_less, same) at e in absurd (cc)
        | inr apart ↦ let f : Greater ≡ Less = rw (not_less, apart) at e in absurd (cc)
      ]
    ]

pub apart_from : (a : AnalysisValue) (ms : List Part) → ((k : ℕ) (m : Part) → slice_get ms k ≡ Some m → IsPart a m)
    → IsStrictlySortedBy (part_cmp a) ms → AreApart ms
apart_from a [] parts sorted = tt
apart_from a (m ∷ []) parts sorted = (parts 0 m refl).some
apart_from a (m ∷ n ∷ ms) parts sorted = (
  (parts 0 m refl).some,
  λ same.
      let less : m.start.at < n.start.at = less_at m.start.at n.start.at (sym (in_one_file a.table m.start n.start (sym same)) ∙ Less-from_sorted (part_cmp a) (m ∷ n ∷ ms) 0 1 m sorted (omega arith) (omega arith)) in
      elim (cases_lt n.start.at (m.start.at + m.len)) [
        | inl inside ↦ absurd (no_inside a m n (parts 0 m refl) (parts 1 n refl) (sym same) less inside)
        | inr past ↦ past
      ],
  apart_from a (n ∷ ms) (λ k p at. parts (suc k) p at) (sorted_tail (part_cmp a) m (n ∷ ms) sorted),
)

pub members_apart : (a : AnalysisValue) (part : Part) (ms : List Part) → AreMembers a part ms → AreApart ms
members_apart a part ms are = apart_from a ms (λ k m at. (are.each k m at).is_part) are.sorted

-- ---- a run of members

run_in_order : (file from : ℕ) (n : Part) (ms : List Part) → n.start.file ≡ file → from ≤ n.start.at → AreApart (n ∷ ms)
    → AreInOrder file from (n ∷ take (prefix_len (is_in file) ms) ms)
run_in_order file from n [] same begins apart = (same, begins, apart, tt)
run_in_order file from n (o ∷ os) same begins apart =
    elim (cases_Bool (is_in file o)) [
      | inl passes ↦
          let here : o.start.file ≡ file = eqb-true o.start.file file passes in
          rw (passes, one-add (prefix_len (is_in file) os)) (same, begins, apart.0, run_in_order file (n.start.at + n.len) o os here (apart.1 (here ∙ sym same)) apart.2)
      | inr fails ↦ rw fails (same, begins, apart.0, tt)
    ]

pub run_order : (m : Part) (ms : List Part) → AreApart (m ∷ ms) → AreInOrder m.start.file 0 (take (run_length (m ∷ ms)) (m ∷ ms))
run_order m ms apart = rw (add-one (prefix_len (is_in m.start.file) ms)) (run_in_order m.start.file 0 m ms refl (omega arith) apart)

apart_rest : (m : Part) (ms : List Part) → AreApart (m ∷ ms) → AreApart ms
apart_rest m [] apart = tt
apart_rest m (n ∷ ms) apart = apart.2

pub apart_drop : (k : ℕ) (ms : List Part) → AreApart ms → AreApart (drop k ms)
apart_drop zero ms apart = apart
apart_drop (suc k) [] apart = tt
apart_drop (suc k) (m ∷ ms) apart = apart_drop k ms (apart_rest m ms apart)

runs-front : (file : ℕ) (m : Part) (ms : List Part) → m.start.file ≡ file
    → runs (m ∷ ms) ≡ (m ∷ take (prefix_len (is_in file) ms) ms) ∷ runs (drop (prefix_len (is_in file) ms) ms)
unfolding runs
runs-front file m [] same = refl
runs-front file m (n ∷ ns) same =
    elim (cases_Bool (is_in file n)) [
      | inl passes ↦
          let here : n.start.file ≡ file = eqb-true n.start.file file passes in
          let k = prefix_len (is_in file) ns in
          let joins : (n.start.file == m.start.file) ≡ true = eq-eqb n.start.file m.start.file (here ∙ sym same) in
          let whole : with_member m ((n ∷ take k ns) ∷ runs (drop k ns)) ≡ (m ∷ n ∷ take k ns) ∷ runs (drop k ns) = rw joins refl in
          rw (passes, one-add k) (ap (with_member m) (runs-front file n ns here) ∙ whole)
      | inr fails ↦
          let k = prefix_len (is_in n.start.file) ns in
          let alone : (n.start.file == m.start.file) ≡ false = rw same fails in
          let later = runs-front n.start.file n ns refl in
          let whole : with_member m ((n ∷ take k ns) ∷ runs (drop k ns)) ≡ (m ∷ []) ∷ (n ∷ take k ns) ∷ runs (drop k ns) = rw alone refl in
          rw fails (ap (with_member m) later ∙ whole ∙ ap (λ (rs : List (List Part)). (m ∷ []) ∷ rs) (sym later))
    ]

pub runs-split : (m : Part) (ms : List Part)
    → runs (m ∷ ms) ≡ take (run_length (m ∷ ms)) (m ∷ ms) ∷ runs (drop (run_length (m ∷ ms)) (m ∷ ms))
runs-split m ms = rw (add-one (prefix_len (is_in m.start.file) ms)) (runs-front m.start.file m ms refl)

pub runs-none : runs [] ≡ []
unfolding runs
runs-none = refl
