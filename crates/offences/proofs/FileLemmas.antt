-- Files in which members of a class stand, by the remainders of their numbers.
use Rattle.std.proofs.Common.{◌≡◌, ◌≢◌, ℕ, ◌+◌, ◌<◌, ◌≤◌, Bool, true, false, List, length, get_or, slice_set, Some, inl, inr, ap, sym, subst, ◌∙◌, arith}
use Rattle.std.specs.Prelude.{◌%◌, slice_get}
use Rattle.std.proofs.lemmas.Bool.{both_ways, cases_eq}
use Rattle.std.proofs.lemmas.List.{get_or-set_same, get_or-set_other, length-set}
use Rattle.std.proofs.lemmas.Option.{same_Some, slice_get_within}
use Rattle.cs_base.specs.declared.positions.Part.{Part}
use Rattle.analysis.specs.Below.eclass_map.Positions.{holds}
use Rattle.analysis.proofs.Below.eclass_map.TokenFacts.{holding}
use Rattle.offences.specs.Class.{HoldFiles, IsFree}
use Rattle.offences.proofs.ClassLemmas.{find_no}

-- So it is with the first members.
pub record HoldTo (members : List Part) (files : List Bool) (n : ℕ) : Type 0 where
  pub all : length files ≡ 256
  pub each : (k : ℕ) (m : Part) → k < n → slice_get members k ≡ Some m → get_or files (m.start.file % 256) false ≡ true

true_stays : (files : List Bool) (i j : ℕ) → i < length files → get_or files j false ≡ true → get_or (slice_set files i true) j false ≡ true
true_stays files i j within h = elim (cases_eq j i) [
  | inl same ↦ subst (λ (k : ℕ). get_or (slice_set files i true) k false ≡ true) (sym same) (get_or-set_same files i true false within)
  | inr other ↦ get_or-set_other files i j true false other ∙ h
]

pub holds_more : (members : List Part) (files more : List Bool) (i j : ℕ) (part : Part) → slice_get members i ≡ Some part
    → j ≡ part.start.file % 256 → j < 256 → more ≡ slice_set files j true → HoldTo members files i → HoldTo members more (i + 1)
holds_more members files more i j part here is small set held = record {
  all = ap length set ∙ length-set files j true ∙ held.all;
  each = λ k m less at. elim (cases_eq k i) [
    | inl same ↦
        let one : part ≡ m = same_Some part m (sym here ∙ ap (λ (n : ℕ). slice_get members n) (sym same) ∙ at) in
        let entry : j ≡ m.start.file % 256 = is ∙ ap (λ (p : Part). p.start.file % 256) one in
        subst (λ (n : ℕ). get_or more n false ≡ true) entry
        (ap (λ (fs : List Bool). get_or fs j false) set ∙ get_or-set_same files j true false within)
    | inr other ↦
        ap (λ (fs : List Bool). get_or fs (m.start.file % 256) false) set
        ∙ true_stays files j (m.start.file % 256) within (held.each k m (omega (arith, less, other)) at)
  ];
}
  where
    within : j < length files
    within = let all = held.all in omega (arith, all, small)

pub held_all : (members : List Part) (files : List Bool) (n : ℕ) → length members ≤ n → HoldTo members files n → HoldFiles members files
held_all members files n past held = record {
  all = held.all;
  each = λ k m at. held.each k m (let less = slice_get_within members k m at in omega (arith, past, less)) at;
}

-- No member stands in a file of which the table says no.
pub free_file : (members : List Part) (files : List Bool) (file : ℕ) → HoldFiles members files → get_or files (file % 256) false ≡ false
    → IsFree members file
free_file members files file held none = λ p at.
    find_no (λ m. holds m p) members (λ j m is h.
    let there = held.each j m is in
    let same : m.start.file ≡ file = (holding m p h).file ∙ at in
    both_ways (get_or files (file % 256) false) none (subst (λ (n : ℕ). get_or files (n % 256) false ≡ true) same there))

-- where none of the members stands in the file
pub all_apart : (members : List Part) (file n : ℕ) → length members ≤ n
    → ((k : ℕ) (m : Part) → k < n → slice_get members k ≡ Some m → m.start.file ≢ file) → IsFree members file
all_apart members file n past apart = λ p at.
    find_no (λ m. holds m p) members (λ j m is h.
    apart j m (let less = slice_get_within members j m is in omega (arith, past, less)) is ((holding m p h).file ∙ at))
