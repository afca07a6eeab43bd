-- Positions in order, each once.
use Rattle.std.proofs.Common.{◌≡◌, ℕ, ◌&&◌, Bool, true, false, List, Some, slice_get, inl, inr, refl, sym, ap, ◌∙◌, subst}
use Rattle.std.specs.Prelude.{nat_eq}
use Rattle.std.specs.Cmp.{IsEquivalence, IsTotalOrder, unsigned_tied}
use Rattle.std.specs.Cmp.Lexicographic.{slice_cmp}
use Rattle.std.specs.Fn.{Called}
use Rattle.std.specs.List.{Contains, dedup}
use Rattle.std.specs.List.Sorted.{IsPermutation, IsSorted, IsSortedByClosure, IsStrictlySortedBy}
use Rattle.std.specs.Ordering.{eq_by_cmp, is_eq, is_lt, nat_cmp, ordering_then}
use Rattle.std.specs.declared.cmp.Ordering.{Ordering}
use Rattle.std.specs.declared.cmp.Ordering.TheVariants.{Less, Equal, Greater}
use Rattle.std.proofs.lemmas.Bool.{cases_Bool, eqb-true}
use Rattle.std.proofs.lemmas.Cmp.{eq_by_cmp_equiv, then_total, on_total, nat_list_cmp_total, nat_cmp_total, tied_itself}
use Rattle.std.proofs.lemmas.Fn.{always_returns_same}
use Rattle.std.proofs.lemmas.List.Kept.{Contains-dedup, Contains-from_dedup, IsStrictlySortedBy-dedup}
use Rattle.std.proofs.lemmas.List.Sorted.{Contains-permutation, IsPermutation-sym, ranks_by}
use Rattle.std.proofs.lemmas.Option.{slice_get_within, slice_get-get_or, get_or_from_slice_get}
use denote.Param.Members.{Mut}
use denote.Ref.{Bor}
use Rattle.cs_base.specs.declared.positions.Pos.{Pos}
use Rattle.analysis.specs.Below.source_files.Files.{Table}
use Rattle.unused_names.specs.Lines.{HaveSame, is_position}
use Rattle.unused_names.specs.Order.{path_of, position_cmp}
use Rattle.unused_names.proofs.LineLemmas.{position_itself, position_same}

pub position_cmp-total : (table : Table) → IsTotalOrder (position_cmp table)
position_cmp-total table =
    then_total (on_total (λ (p : Pos). path_of table p.file) nat_list_cmp_total)
    (then_total (on_total (λ (p : Pos). p.file) nat_cmp_total) (on_total (λ (p : Pos). p.at) nat_cmp_total))

-- ---- positions tie only where they are one

then_ties : (o p : Ordering) → is_eq (ordering_then o p) ≡ (is_eq o && is_eq p)
then_ties Less p = refl
then_ties Equal p = refl
then_ties Greater p = refl

other_path : (b c : Bool) → (b && (false && c)) ≡ false
other_path true c = refl
other_path false c = refl

all_ties : (table : Table) (p q : Pos) → eq_by_cmp (position_cmp table) p q
    ≡ (is_eq (slice_cmp nat_cmp (path_of table p.file) (path_of table q.file)) && (nat_eq p.file q.file && nat_eq p.at q.at))
all_ties table p q =
    let paths = slice_cmp nat_cmp (path_of table p.file) (path_of table q.file) in
    then_ties paths (ordering_then (nat_cmp p.file q.file) (nat_cmp p.at q.at))
    ∙ ap (λ (b : Bool). is_eq paths && b)
    (then_ties (nat_cmp p.file q.file) (nat_cmp p.at q.at)
    ∙ ap (λ (b : Bool). b && is_eq (nat_cmp p.at q.at)) (unsigned_tied p.file q.file)
    ∙ ap (λ (b : Bool). nat_eq p.file q.file && b) (unsigned_tied p.at q.at))

pub position_ties : (table : Table) (p q : Pos) → is_position p q ≡ eq_by_cmp (position_cmp table) p q
position_ties table p q =
    elim (cases_Bool (nat_eq p.file q.file)) [
      | inl same ↦
          let file : p.file ≡ q.file = eqb-true p.file q.file same in
          let tie : slice_cmp nat_cmp (path_of table p.file) (path_of table q.file) ≡ Equal =
          subst (λ (n : ℕ). slice_cmp nat_cmp (path_of table p.file) (path_of table n) ≡ Equal) file (tied_itself nat_list_cmp_total (path_of table p.file)) in
          sym (all_ties table p q ∙ ap (λ (o : Ordering). is_eq o && (nat_eq p.file q.file && nat_eq p.at q.at)) tie)
      | inr apart ↦
          let paths = slice_cmp nat_cmp (path_of table p.file) (path_of table q.file) in
          let none : (is_eq paths && (nat_eq p.file q.file && nat_eq p.at q.at)) ≡ false =
          ap (λ (b : Bool). is_eq paths && (b && nat_eq p.at q.at)) apart ∙ other_path (is_eq paths) (nat_eq p.at q.at) in
          ap (λ (b : Bool). b && nat_eq p.at q.at) apart ∙ sym (all_ties table p q ∙ none)
    ]

position_equiv : (table : Table) → IsEquivalence is_position
position_equiv table =
    let e = eq_by_cmp_equiv (position_cmp-total table) in
    let ties = position_ties table in
    record {
      refl = position_itself;
      symm = λ p q. ties p q ∙ e.symm p q ∙ sym (ties q p);
      congr = λ p q r h. ties p r ∙ e.congr p q r (sym (ties p q) ∙ h) ∙ sym (ties q r);
    }

-- ---- a list that is sorted, and has each element once

pub sorted_by : (cmp : Pos → Pos → Ordering) {F : Type 0} {g : Mut F (Bor Pos × (Bor Pos × Unit {0})) Ordering} {f : F} (ys : List Pos)
    → IsTotalOrder cmp → IsSortedByClosure g f ys
    → ((a : Bor Pos × (Bor Pos × Unit {0})) (r : Ordering) (f' : F) → Called g f a r f' → (r ≡ cmp a.0.now a.1.0.now) × (f' ≡ f))
    → IsSorted cmp ys
sorted_by cmp {g = g} {f = f} ys total sorted called =
    sorted (λ p q. is_lt (cmp p q)) (ranks_by total (λ (p : Pos). p))
    (always_returns_same g (λ a r. is_lt r ≡ is_lt (cmp a.0.now a.1.0.now)) f (λ a r f' k. (ap is_lt (called a r f' k).0, (called a r f' k).1)))

pub once : (table : Table) (sorted : List Pos) → IsSorted (position_cmp table) sorted → IsStrictlySortedBy (position_cmp table) (dedup is_position sorted)
once table sorted h = IsStrictlySortedBy-dedup (position_cmp-total table) (position_ties table) sorted h

contains_at : (xs : List Pos) (k : ℕ) (p : Pos) → slice_get xs k ≡ Some p → Contains xs p
contains_at xs k p at = (k, slice_get_within xs k p at, get_or_from_slice_get xs k p p at)

at_contained : (xs : List Pos) (p : Pos) → Contains xs p → (k : ℕ) × (slice_get xs k ≡ Some p)
at_contained xs p h = (h.0, slice_get-get_or xs h.0 p h.1 ∙ ap Some h.2)

pub have_same : (table : Table) (all sorted : List Pos) → IsPermutation all sorted → HaveSame all (dedup is_position sorted)
have_same table all sorted moved = record {
  kept = λ k p at.
      at_contained (dedup is_position sorted) p
      (Contains-dedup (position_equiv table) position_same sorted p (Contains-permutation all sorted p moved (contains_at all k p at)));
  only = λ j p at.
      at_contained all p
      (Contains-permutation sorted all p (IsPermutation-sym all sorted moved)
      (Contains-from_dedup is_position sorted p (contains_at (dedup is_position sorted) j p at)));
}
