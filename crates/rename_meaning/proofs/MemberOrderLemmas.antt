-- The members of a class that lie in one file stand together.
use Rattle.std.proofs.Common.{◌≡◌, ℕ, zero, suc, ◌<◌, true, ◌==◌, List, [], ◌∷◌, length, drop, Option, Some, None, inl, inr, refl, sym, ap, ◌∙◌, arith}
use Rattle.std.specs.Prelude.{slice_get}
use Rattle.std.specs.List.{prefix_len}
use Rattle.std.specs.List.Sorted.{IsStrictlySortedBy}
use Rattle.std.specs.Option.{option_and_then}
use Rattle.std.specs.Ordering.{nat_cmp, is_eq}
use Rattle.std.specs.Cmp.Lexicographic.{slice_cmp}
use Rattle.std.specs.declared.cmp.Ordering.TheVariants.{Less}
use Rattle.std.proofs.lemmas.Bool.{cases_Bool, both_ways, eq-eqb, eqb-true}
use Rattle.std.proofs.lemmas.Cmp.{nat_list_cmp_total}
use Rattle.std.proofs.lemmas.Map.Keys.{Less-from_sorted, sorted_tail}
use Rattle.std.proofs.lemmas.Map.Text.{is_eq-slice_cmp}
use Rattle.std.proofs.lemmas.Option.{none-some, slice_get_within}
use Rattle.cs_base.specs.declared.positions.Part.{Part}
use Rattle.cs_base.proofs.FileMapLemmas.{bytes_eq-same}
use Rattle.cs_base.proofs.OrderLemmas.{first_decides, tied}
use Rattle.cs_base.proofs.NumberLemmas.{one-add}
use Rattle.source_files.specs.Files.{Entry, Table}
use Rattle.source_files.specs.KeptFiles.{KeptValue, kept_in, kept_at}
use Rattle.source_files.specs.Tables.{paths_in, HasEachOnce}
use Rattle.analysis.specs.Analysed.{Analysed}
use Rattle.analysis.specs.Analysis.{AnalysisValue}
use Rattle.analysis.specs.Parts.{part_cmp}
use Rattle.analysis.specs.Places.{path_at}
use Rattle.rename_rules.specs.Runs.{is_in}
use Rattle.rename_meaning.specs.Allowed.{IsAllowed}
use Rattle.rename_meaning.proofs.CharacterLemmas.{character_file}
use Rattle.offences.proofs.PlaceLemmas.{one_place}
use Rattle.rename_meaning.proofs.NoneLemmas.{none_stand, no_line}

-- ---- each path once

path_there : (table : Table) (n : ℕ) → n < length table → slice_get (paths_in table) n ≡ Some (path_at table n)
path_there [] n within = absurd (omega (arith, within))
path_there (e ∷ table) zero within = refl
path_there (e ∷ table) (suc n) within = path_there table n (omega (arith, within))

kept_entry : (n : ℕ) (o : Option Entry) (f : KeptValue) → option_and_then (kept_in n) o ≡ Some f → (e : Entry) × (o ≡ Some e)
kept_entry n None f h = absurd (none-some f h)
kept_entry n (Some e) f h = (e, refl)

kept_within : (table : Table) (n : ℕ) (f : KeptValue) → kept_at table n ≡ Some f → n < length table
kept_within table n f h = let r = kept_entry n (slice_get table n) f h in slice_get_within table n r.0 r.1

-- kept files of one path have one number
one_number : (table : Table) (n k : ℕ) (f g : KeptValue) → HasEachOnce table → kept_at table n ≡ Some f → kept_at table k ≡ Some g → path_at table n ≡ path_at table k → n ≡ k
one_number table n k f g once first second same =
    one_place (paths_in table) n k (path_at table n) once (path_there table n (kept_within table n f first))
    (path_there table k (kept_within table k g second) ∙ ap (λ (p : List ℕ). Some p) (sym same))

-- ---- order

-- a member's file is kept
abbrev AreKept : Table → List Part → Type 0
AreKept table ms = (k : ℕ) (m : Part) → slice_get ms k ≡ Some m → (f : KeptValue) × (kept_at table m.start.file ≡ Some f)

-- each comes before the next by the path, unless they lie in one file
abbrev pub AreByPath : Table → List Part → Type 0
AreByPath table [] = Unit {0}
AreByPath table (m ∷ []) = Unit {0}
AreByPath table (m ∷ n ∷ ms) = ((n.start.file ≡ m.start.file → ⊥) → slice_cmp nat_cmp (path_at table m.start.file) (path_at table n.start.file) ≡ Less) × AreByPath table (n ∷ ms)

by_path : (a : AnalysisValue) (ms : List Part) → HasEachOnce a.table → AreKept a.table ms → IsStrictlySortedBy (part_cmp a) ms → AreByPath a.table ms
by_path a [] once are sorted = tt
by_path a (m ∷ []) once are sorted = tt
by_path a (m ∷ n ∷ ms) once are sorted = (
  λ apart.
      let less : part_cmp a m n ≡ Less = Less-from_sorted (part_cmp a) (m ∷ n ∷ ms) 0 1 m sorted (omega arith) (omega arith) in
      let f = are 0 m refl in
      let g = are 1 n refl in
      first_decides (slice_cmp nat_cmp (path_at a.table m.start.file) (path_at a.table n.start.file)) (nat_cmp m.start.at n.start.at) less
      (λ equal. apart (sym (one_number a.table m.start.file n.start.file f.0 g.0 once f.1 g.1
      (tied (path_at a.table m.start.file) (path_at a.table n.start.file) equal)))),
  by_path a (n ∷ ms) once (λ k p at. are (suc k) p at) (sorted_tail (part_cmp a) m (n ∷ ms) sorted),
)

-- the paths of all these come behind this one
abbrev AllBehind : Table → List ℕ → List Part → Type 0
AllBehind table path [] = Unit {0}
AllBehind table path (m ∷ ms) = (slice_cmp nat_cmp path (path_at table m.start.file) ≡ Less) × AllBehind table path ms

behind_on : (table : Table) (path : List ℕ) (m : Part) (ms : List Part) → AreByPath table (m ∷ ms) → slice_cmp nat_cmp path (path_at table m.start.file) ≡ Less
    → AllBehind table path (m ∷ ms)
behind_on table path m [] order less = (less, tt)
behind_on table path m (n ∷ ms) order less = (
  less,
  elim (cases_Bool (n.start.file == m.start.file)) [
    | inl same ↦
        let one : m.start.file ≡ n.start.file = sym (eqb-true n.start.file m.start.file same) in
        behind_on table path n ms order.1 (ap (λ (k : ℕ). slice_cmp nat_cmp path (path_at table k)) (sym one) ∙ less)
    | inr other ↦
        let apart : n.start.file ≡ m.start.file → ⊥ = λ e. both_ways (n.start.file == m.start.file) other (eq-eqb n.start.file m.start.file e) in
        behind_on table path n ms order.1 (nat_list_cmp_total.trans path (path_at table m.start.file) (path_at table n.start.file) less (order.0 apart))
  ],
)

behind_run : (table : Table) (file : ℕ) (m : Part) (ms : List Part) → m.start.file ≡ file → AreByPath table (m ∷ ms)
    → AllBehind table (path_at table file) (drop (prefix_len (is_in file) ms) ms)
behind_run table file m [] same order = tt
behind_run table file m (n ∷ ns) same order =
    elim (cases_Bool (is_in file n)) [
      | inl passes ↦
          let here : n.start.file ≡ file = eqb-true n.start.file file passes in
          rw (passes, one-add (prefix_len (is_in file) ns)) (behind_run table file n ns here order.1)
      | inr fails ↦
          let apart : n.start.file ≡ m.start.file → ⊥ = λ e. both_ways (n.start.file == file) fails (eq-eqb n.start.file file (e ∙ same)) in
          rw fails (behind_on table (path_at table file) n ns order.1 (ap (λ (k : ℕ). slice_cmp nat_cmp (path_at table k) (path_at table n.start.file)) (sym same) ∙ order.0 apart))
    ]

-- none of these lies in the file
abbrev pub NoneIn : ℕ → List Part → Type 0
NoneIn file [] = Unit {0}
NoneIn file (m ∷ ms) = (m.start.file ≡ file → ⊥) × NoneIn file ms

not_less : (path : List ℕ) → slice_cmp nat_cmp path path ≡ Less → ⊥
not_less path less =
    let equal : is_eq (slice_cmp nat_cmp path path) ≡ true = is_eq-slice_cmp path path ∙ bytes_eq-same path in
    let wrong : is_eq Less ≡ true = ap is_eq (sym less) ∙ equal in
    cc

behind_none : (table : Table) (file : ℕ) (ms : List Part) → AllBehind table (path_at table file) ms → NoneIn file ms
behind_none table file [] h = tt
behind_none table file (m ∷ ms) h = (
  (λ same. not_less (path_at table file) (ap (λ (k : ℕ). slice_cmp nat_cmp (path_at table file) (path_at table k)) (sym same) ∙ h.0)),
  behind_none table file ms h.1,
)

-- Members of one file stand together: behind the first of them that stand together none stands in it.
abbrev pub StandTogether : List Part → Type 0
StandTogether [] = Unit {0}
StandTogether (m ∷ ms) = NoneIn m.start.file (drop (prefix_len (is_in m.start.file) ms) ms) × StandTogether ms

rest_by_path : (table : Table) (m : Part) (ms : List Part) → AreByPath table (m ∷ ms) → AreByPath table ms
rest_by_path table m [] order = tt
rest_by_path table m (n ∷ ms) order = order.1

together_by : (table : Table) (ms : List Part) → AreByPath table ms → StandTogether ms
together_by table [] order = tt
together_by table (m ∷ ms) order = (
  behind_none table m.start.file (drop (prefix_len (is_in m.start.file) ms) ms) (behind_run table m.start.file m ms refl order),
  together_by table ms (rest_by_path table m ms order),
)

pub members_together : (a : Analysed) (members : List Part) (name : List ℕ) (h : IsAllowed a members name) → HasEachOnce a.value.table → StandTogether members
members_together a members name h once =
    let listed = h.class.listed in
    let are : AreKept a.value.table members = λ k m at.
    (let part = (listed.each k m at).is_part in
    let r = character_file a.value h.source h.workspace h.accepted m.start part.held (no_line a.value members name (none_stand a.value members name h.first) m (k, at)) in
    (r.1.file, r.1.is_kept)) in
    together_by a.value.table members (by_path a.value members once are listed.sorted)
