-- Numbers one after another, and what is asked or found at each.
use Rattle.std.proofs.Common.{◌≡◌, ℕ, ◌+◌, ◌-◌, ◌<◌, ◌≤◌, Bool, true, false, List, [], ◌∷◌, ◌++◌, length, get_or, take, Option, refl, sym, ap, ◌∙◌, arith}
use Rattle.std.specs.List.{flat_map, list_any, list_all}
use Rattle.std.proofs.lemmas.List.{take_all}
use Rattle.std.proofs.lemmas.List.Folds.{list_any_more, list_all_more, list_any_at, list_all_at}
use Rattle.std.proofs.Math.Bool.{or-false}
use Rattle.cs_base.specs.declared.causes.Cause.{Cause}
use Rattle.cs_base.specs.declared.positions.Pos.{Pos}
use Rattle.analysis.specs.Below.source_files.Files.{Table}
use Rattle.offences.specs.declared.firsts.Offence.{Offence}
use Rattle.offences.specs.First.{standing, FirstThen}
use Rattle.offences.proofs.FirstLemmas.{then_none, then_next, then_all}
use Rattle.list_cuts.specs.Cuts.{numbers}
use Rattle.list_cuts.proofs.OrderLemmas.{length-numbers, get_or-numbers}

-- number k, if they begin with one
pub number_at : (from n k d : ℕ) → from ≤ k → k < from + n → get_or (numbers from n) (k - from) d ≡ k
number_at from n k d low high = get_or-numbers n from (k - from) d (omega (arith, low, high)) ∙ omega (arith, low)

within : (from n k : ℕ) → from ≤ k → k < from + n → k - from < length (numbers from n)
within from n k low high = rw (length-numbers n from) (omega (arith, low, high))

-- ---- tests

module _ {X : Type 0} (p : X → Bool) (xs : List X) (k : ℕ) (x : X) (lt : k < length xs) (is : x ≡ get_or xs k x) where
  pub any_here : p x ≡ true → list_any p xs ≡ true
  any_here here = list_any_at p xs k x lt (ap p (sym is) ∙ here)

  pub all_here : p x ≡ false → list_all p xs ≡ false
  all_here here = list_all_at p xs k x lt (ap p (sym is) ∙ here)

  pub any_still : p x ≡ false → list_any p (take k xs) ≡ false → list_any p (take (k + 1) xs) ≡ false
  any_still here before = list_any_more p xs k x lt ∙ rw before (ap p (sym is) ∙ here)

  pub all_still : p x ≡ true → list_all p (take k xs) ≡ true → list_all p (take (k + 1) xs) ≡ true
  all_still here before = list_all_more p xs k x lt ∙ rw before (ap p (sym is) ∙ here)

module _ (p : ℕ → Bool) (from n : ℕ) where
  pub any_at : (k : ℕ) → from ≤ k → k < from + n → p k ≡ true → list_any p (numbers from n) ≡ true
  any_at k low high here = list_any_at p (numbers from n) (k - from) 0 (within from n k low high) (rw (number_at from n k 0 low high) here)

  pub all_at : (k : ℕ) → from ≤ k → k < from + n → p k ≡ false → list_all p (numbers from n) ≡ false
  all_at k low high here = list_all_at p (numbers from n) (k - from) 0 (within from n k low high) (rw (number_at from n k 0 low high) here)

  pub any_next : (k : ℕ) → from ≤ k → k < from + n → p k ≡ false → list_any p (take (k - from) (numbers from n)) ≡ false
      → list_any p (take (k + 1 - from) (numbers from n)) ≡ false
  any_next k low high here before =
      let on : k + 1 - from ≡ k - from + 1 = omega (arith, low) in
      rw (on, list_any_more p (numbers from n) (k - from) 0 (within from n k low high), before, number_at from n k 0 low high) here

  pub all_next : (k : ℕ) → from ≤ k → k < from + n → p k ≡ true → list_all p (take (k - from) (numbers from n)) ≡ true
      → list_all p (take (k + 1 - from) (numbers from n)) ≡ true
  all_next k low high here before =
      let on : k + 1 - from ≡ k - from + 1 = omega (arith, low) in
      rw (on, list_all_more p (numbers from n) (k - from) 0 (within from n k low high), before, number_at from n k 0 low high) here

  pub any_all : (k : ℕ) → from + n ≤ k → list_any p (take (k - from) (numbers from n)) ≡ false → list_any p (numbers from n) ≡ false
  any_all k past before =
      let len = length-numbers n from in
      rw (← take_all (k - from) (numbers from n) (rw len (omega (arith, past)))) before

  pub all_all : (k : ℕ) → from + n ≤ k → list_all p (take (k - from) (numbers from n)) ≡ true → list_all p (numbers from n) ≡ true
  all_all k past before =
      let len = length-numbers n from in
      rw (← take_all (k - from) (numbers from n) (rw len (omega (arith, past)))) before

  pub any_first : list_any p (take (from - from) (numbers from n)) ≡ false
  any_first = let none : from - from ≡ 0 = omega arith in rw none refl

  pub any_past : (k : ℕ) → from ≤ k → n ≤ k - from → list_any p (take (k - from) (numbers from n)) ≡ false → list_any p (numbers from n) ≡ false
  any_past k low past before =
      let len = length-numbers n from in
      rw (← take_all (k - from) (numbers from n) (rw len past)) before

-- ---- offences

module _ (table : Table) (cause : Cause) (f : ℕ → List Pos) (from n : ℕ) where
  pub then_number : (k : ℕ) (a b c : Option Offence) → from ≤ k → k < from + n
      → FirstThen table (standing cause (flat_map f (take (k - from) (numbers from n)))) a b → FirstThen table (standing cause (f k)) b c
      → FirstThen table (standing cause (flat_map f (take (k + 1 - from) (numbers from n)))) a c
  then_number k a b c low high before here =
      let on : k + 1 - from ≡ k - from + 1 = omega (arith, low) in
      rw on (then_next table cause f (numbers from n) (k - from) k a b c (within from n k low high) (sym (number_at from n k k low high)) before here)

  pub then_numbers : (k : ℕ) (a b : Option Offence) → from + n ≤ k
      → FirstThen table (standing cause (flat_map f (take (k - from) (numbers from n)))) a b
      → FirstThen table (standing cause (flat_map f (numbers from n))) a b
  then_numbers k a b past before =
      let len = length-numbers n from in
      then_all table cause f (numbers from n) (k - from) a b (rw len (omega (arith, past))) before

  pub then_first_number : (a : Option Offence) → FirstThen table (standing cause (flat_map f (take (from - from) (numbers from n)))) a a
  then_first_number a = let none : from - from ≡ 0 = omega arith in rw none (then_none table a)

  pub then_no_numbers : (a : Option Offence) → n ≡ 0 → FirstThen table (standing cause (flat_map f (numbers from n))) a a
  unfolding numbers
  then_no_numbers a none = rw none (then_none table a)
