-- Walks over ranges, files and units, which add what is found at each step.
use Rattle.std.proofs.Common.{◌≡◌, ℕ, zero, suc, ◌+◌, ◌-◌, ◌<◌, ◌≤◌, List, [], ◌∷◌, ◌++◌, length, get_or, take, drop, Option, Some, None, slice_get, refl, sym, ap, subst, ◌∙◌, append_assoc, append-nil, arith}
use Rattle.std.specs.List.{flat_map}
use Rattle.std.specs.Option.{option_map_or}
use Rattle.std.proofs.lemmas.Grind.{flat_map-append}
use Rattle.std.proofs.lemmas.List.{at_drop_more, at_drop_all, get_or_default, take_more, take_all}
use Rattle.std.proofs.lemmas.Option.{slice_get-get_or, slice_get_past}
use Rattle.cs_base.specs.declared.positions.Pos.{Pos}
use Rattle.cs_base.specs.Token.{Token, origin_at}
use Rattle.cs_base.proofs.ListLemmas.{next as taken-more}
use Rattle.list_cuts.specs.Cuts.{numbers}
use Rattle.analysis.specs.Below.source_files.Files.{Table, Entry, Absent, entry}
use Rattle.analysis.specs.Below.source_files.KeptFiles.{KeptValue, kept_at}
use Rattle.offences.specs.declared.firsts.Offence.{Offence}
use Rattle.offences.specs.First.{offence, IsFirst, FirstThen}
use Rattle.macro_rules.specs.Files.{found_from}

-- ---- ranges

numbers-length : (from n : ℕ) → length (numbers from n) ≡ n
unfolding numbers
numbers-length from zero = refl
numbers-length from (suc n) = ap suc (numbers-length (from + 1) n)

numbers-more : (from n j : ℕ) → j < n → take (j + 1) (numbers from n) ≡ take j (numbers from n) ++ (from + j) ∷ []
unfolding numbers
numbers-more from zero j lt = absurd (omega (arith, lt))
numbers-more from (suc n) zero lt = let same : from + 0 ≡ from = omega arith in rw same refl
numbers-more from (suc n) (suc j) lt =
    let on : from + suc j ≡ (from + 1) + j = omega arith in
    let one : suc j + 1 ≡ suc (j + 1) = omega arith in
    rw (on, one) (ap (λ (ks : List ℕ). from ∷ ks) (numbers-more (from + 1) n j (omega (arith, lt))))

module _ {A : Type 0} (f : ℕ → List A) (from n : ℕ) where
  pub range_first : (out : List A) → out ≡ out ++ flat_map f (take (from - from) (numbers from n))
  range_first out = let none : from - from ≡ 0 = omega arith in rw (none, append-nil out) refl

  pub range_next : (k : ℕ) (first before now : List A) → from ≤ k → k - from < n
      → before ≡ first ++ flat_map f (take (k - from) (numbers from n)) → now ≡ before ++ f k
      → now ≡ first ++ flat_map f (take ((k + 1) - from) (numbers from n))
  range_next k first before now low high so_far here =
      let on : (k + 1) - from ≡ (k - from) + 1 = omega (arith, low) in
      let same : from + (k - from) ≡ k = omega (arith, low) in
      let more : take ((k - from) + 1) (numbers from n) ≡ take (k - from) (numbers from n) ++ k ∷ [] =
      numbers-more from n (k - from) high ∙ ap (λ (j : ℕ). take (k - from) (numbers from n) ++ j ∷ []) same in
      rw (on, more, flat_map-append f (take (k - from) (numbers from n)) (k ∷ []), append-nil (f k))
      (here ∙ ap (λ (xs : List A). xs ++ f k) so_far ∙ append_assoc first (flat_map f (take (k - from) (numbers from n))) (f k))

  pub range_all : (k : ℕ) (first now : List A) → from ≤ k → n ≤ k - from
      → now ≡ first ++ flat_map f (take (k - from) (numbers from n)) → now ≡ first ++ flat_map f (numbers from n)
  range_all k first now low past so_far =
      let long : length (numbers from n) ≤ k - from = omega (arith, numbers-length from n, past) in
      rw (← take_all (k - from) (numbers from n) long) so_far

  pub range_none : (out : List A) → n ≡ 0 → out ≡ out ++ flat_map f (numbers from n)
  unfolding numbers
  range_none out none = rw (none, append-nil out) refl

-- ---- what is looked up past the end

pub nothing_past : {X Y : Type 0} (f : X → List Y) (xs : List X) (k : ℕ) (out : List Y) → length xs ≤ k → out ≡ out ++ option_map_or f (slice_get xs k) []
nothing_past f xs k out past = rw (slice_get_past xs k past, append-nil out) refl

-- ---- files

module _ {A : Type 0} (find : KeptValue → List A) where
  pub found-more : (table : Table) (k : ℕ) → k < length table
      → found_from find k (drop k table) ≡ option_map_or find (kept_at table k) [] ++ found_from find (k + 1) (drop (k + 1) table)
  unfolding found_from
  found-more table k within =
      let d : Entry = entry [] Absent in
      let there = slice_get-get_or table k d within in
      at_drop_more (found_from find k) table k d within ∙ rw there refl

  pub files_next : (table : Table) (k : ℕ) (before now whole : List A) → k < length table
      → before ++ found_from find k (drop k table) ≡ whole → now ≡ before ++ option_map_or find (kept_at table k) []
      → now ++ found_from find (k + 1) (drop (k + 1) table) ≡ whole
  files_next table k before now whole within so_far here =
      let one = option_map_or find (kept_at table k) [] in
      let rest = found_from find (k + 1) (drop (k + 1) table) in
      ap (λ (xs : List A). xs ++ rest) here ∙ append_assoc before one rest
      ∙ ap (λ (xs : List A). before ++ xs) (sym (found-more table k within)) ∙ so_far

  pub files_all : (table : Table) (k : ℕ) (now whole : List A) → length table ≤ k
      → now ++ found_from find k (drop k table) ≡ whole → now ≡ whole
  unfolding found_from
  files_all table k now whole past so_far =
      sym (append-nil now) ∙ ap (λ (xs : List A). now ++ xs) (sym (at_drop_all (found_from find k) table k past)) ∙ so_far

-- ---- units

pub units_next : {X A : Type 0} (g : X → List A) (xs : List X) (k : ℕ) (x : X) (first before now : List A) → slice_get xs k ≡ Some x
    → before ≡ first ++ flat_map g (take k xs) → now ≡ before ++ g x → now ≡ first ++ flat_map g (take (k + 1) xs)
units_next {A = A} g xs k x first before now at so_far here =
    rw (taken-more xs k x at, flat_map-append g (take k xs) (x ∷ []), append-nil (g x))
    (here ∙ ap (λ (ys : List A). ys ++ g x) so_far ∙ append_assoc first (flat_map g (take k xs)) (g x))

-- ---- characters of a token

module _ {A : Type 0} (f : Option Pos → List A) (t : Token) where
  origin_is : (k : ℕ) → k < length t.origins → origin_at t k ≡ get_or t.origins k None
  origin_is k within = rw (slice_get-get_or t.origins k None within) refl

  pub origins_next : (k : ℕ) (first before now : List A) → k < length t.origins → before ≡ first ++ flat_map f (take k t.origins)
      → now ≡ before ++ f (origin_at t k) → now ≡ first ++ flat_map f (take (k + 1) t.origins)
  origins_next k first before now within so_far here =
      let o = get_or t.origins k None in
      rw (take_more t.origins k None within, flat_map-append f (take k t.origins) (o ∷ []), append-nil (f o))
      (here ∙ ap (λ (p : Option Pos). before ++ f p) (origin_is k within) ∙ ap (λ (xs : List A). xs ++ f o) so_far
      ∙ append_assoc first (flat_map f (take k t.origins)) (f o))

  pub origins_all : (k : ℕ) (first now : List A) → length t.origins ≤ k → now ≡ first ++ flat_map f (take k t.origins) → now ≡ first ++ flat_map f t.origins
  origins_all k first now past so_far = rw (← take_all k t.origins past) so_far

-- ---- the first offence

first_next : (table : Table) (os : List Offence) (k : ℕ) (o : Offence) (before now : Option Offence) → k < length os → o ≡ get_or os k o
    → IsFirst table (take k os) before → FirstThen table (offence o.cause o.at ∷ []) before now → IsFirst table (take (k + 1) os) now
first_next table os k o before now within is so_far here =
    let more : take (k + 1) os ≡ take k os ++ o ∷ [] = take_more os k o within ∙ ap (λ (p : Offence). take k os ++ p ∷ []) (sym is) in
    rw more (here.goes_on (take k os) so_far)

pub first_next_or : (table : Table) (os : List Offence) (k : ℕ) (d : Offence) (before now : Option Offence) → k < length os
    → IsFirst table (take k os) before → FirstThen table (offence (get_or os k d).cause (get_or os k d).at ∷ []) before now → IsFirst table (take (k + 1) os) now
first_next_or table os k d before now within so_far here =
    first_next table os k (get_or os k d) before now within (get_or_default os k d (get_or os k d) within) so_far here

pub first_all : (table : Table) (os : List Offence) (k : ℕ) (now : Option Offence) → length os ≤ k → IsFirst table (take k os) now → IsFirst table os now
first_all table os k now past so_far = subst (λ (ps : List Offence). IsFirst table ps now) (take_all k os past) so_far
