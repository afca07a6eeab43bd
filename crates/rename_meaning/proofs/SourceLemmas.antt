-- Files in which members are respelled hold the edited bytes of each path.
use Rattle.std.proofs.Common.{◌≡◌, ℕ, zero, suc, ◌≤◌, ◌==◌, true, false, List, [], ◌∷◌, length, Option, Some, None, inl, inr, refl, sym, ap, ◌∙◌, arith}
use Rattle.std.specs.Prelude.{slice_get}
use Rattle.std.specs.Option.{option_map, option_and_then}
use Rattle.std.proofs.lemmas.Bool.{cases_Bool, both_ways, eq-eqb, eqb-true}
use Rattle.std.proofs.lemmas.Option.{none-some, same_Some}
use Rattle.cs_base.specs.declared.positions.Part.{Part}
use Rattle.cs_base.proofs.ListLemmas.{any_at}
use Rattle.source_files.specs.Files.{Source, Entry}
use Rattle.source_files.specs.KeptFiles.{KeptValue, kept_in, kept_at}
use Rattle.source_files.specs.Tables.{paths_in, HasEachOnce}
use Rattle.source_files.proofs.KeptLemmas.{path_in as path_of_entry}
use Rattle.part_respell.specs.Respelled.{respelled}
use Rattle.offences.specs.First.{IsAmong}
use Rattle.rename_rules.specs.Runs.{runs, file_of, is_edited}
use Rattle.rename_rules.proofs.RunLemmas.{runs-none}
use Rattle.analysis.specs.Analysed.{Analysed}
use Rattle.rename_meaning.specs.Allowed.{IsAllowed}
use Rattle.rename_meaning.proofs.CharacterLemmas.{character_file}
use Rattle.rename_meaning.proofs.DirectiveLemmas.{in_drop}
use Rattle.edited_unit_laws.proofs.ListLemmas.{In}
use Rattle.offences.proofs.PlaceLemmas.{one_place, kept_of, kept_there}
use Rattle.rename_meaning.proofs.NoneLemmas.{none_stand, no_line}
use Rattle.rename_meaning.proofs.KeptFileLemmas.{respelled_same}
use Rattle.rename_meaning.proofs.MemberOrderLemmas.{StandTogether, members_together}
use Rattle.rename_meaning.proofs.RunLemmas.{run_of, rest_of, runs_are, rest_less, rest_together, rest_edited, run_respelled, rest_respelled}
use Rattle.rename_meaning.specs.EditedSource.{RespelledFilesHoldEdited}
use Rattle.renamed.specs.Rename.{HoldsMembers, AreRespelled}

-- ---- runs of members

-- the first of a run is a member
head_by : (len : ℕ) (ms : List Part) → length ms ≤ len → (k : ℕ) (m : Part) (run : List Part) → slice_get (runs ms) k ≡ Some (m ∷ run) → In m ms
head_by len [] less k m run at = absurd (none-some (m ∷ run) (ap (λ (rs : List (List Part)). slice_get rs k) (sym runs-none) ∙ at))
head_by zero (x ∷ ms) less k m run at = absurd (omega (arith, less))
head_by (suc len) (x ∷ ms) less zero m run at =
    let here : Some (run_of x ms) ≡ Some (m ∷ run) = ap (λ (rs : List (List Part)). slice_get rs 0) (sym (runs_are x ms)) ∙ at in
    (0, ap head_of (same_Some (run_of x ms) (m ∷ run) here))
  where
    head_of : List Part → Option Part
    head_of [] = None
    head_of (y ∷ ys) = Some y
head_by (suc len) (x ∷ ms) less (suc k) m run at =
    let later : slice_get (runs (rest_of x ms)) k ≡ Some (m ∷ run) = ap (λ (rs : List (List Part)). slice_get rs (suc k)) (sym (runs_are x ms)) ∙ at in
    let rest = rest_less x ms in
    let i = in_drop m _ ms (head_by len (rest_of x ms) (omega (arith, less, rest)) k m run later) in
    (suc i.0, i.1)

pub head_in : (ms : List Part) (m : Part) (run : List Part) → IsAmong (runs ms) (m ∷ run) → In m ms
head_in ms m run among = head_by (length ms) ms (omega arith) among.0 m run among.1

-- the run of a file in which a member stands: the file is respelled by it as by all
record IsRunOf (ms : List Part) (name : List ℕ) (file : ℕ) : Type 0 where
  first : Part
  rest : List Part
  among : IsAmong (runs ms) (first ∷ rest)
  own : first.start.file ≡ file
  same : (bytes : List ℕ) → respelled ms name file bytes ≡ respelled (first ∷ rest) name file bytes

run_by : (len : ℕ) (ms : List Part) (name : List ℕ) (file : ℕ) → length ms ≤ len → StandTogether ms → is_edited ms file ≡ true → IsRunOf ms name file
run_by len [] name file less h edited_is = absurd (cc)
run_by zero (m ∷ ms) name file less h edited_is = absurd (omega (arith, less))
run_by (suc len) (m ∷ ms) name file less h edited_is = elim (cases_Bool (m.start.file == file)) [
  | inl is ↦
      let own : m.start.file ≡ file = eqb-true m.start.file file is in
      record {
        first = m;
        rest = _;
        among = (0, ap (λ (rs : List (List Part)). slice_get rs 0) (runs_are m ms));
        own = own;
        same = λ bytes. run_respelled m ms name bytes file own h;
      }
  | inr other ↦
      let apart : m.start.file ≡ file → ⊥ = λ e. both_ways (m.start.file == file) other (eq-eqb m.start.file file e) in
      let rest = rest_less m ms in
      let later = run_by len (rest_of m ms) name file (omega (arith, less, rest)) (rest_together m ms h) (sym (rest_edited m ms file apart) ∙ edited_is) in
      let among = later.among in
      record {
        first = later.first;
        rest = later.rest;
        among = (suc among.0, ap (λ (rs : List (List Part)). slice_get rs (suc among.0)) (runs_are m ms) ∙ among.1);
        own = later.own;
        same = λ bytes. rest_respelled m ms name bytes file apart ∙ later.same bytes;
      }
]

-- a member of an edited file
edited_in : (ms : List Part) (file : ℕ) → is_edited ms file ≡ true → (m : Part) × In m ms × (m.start.file ≡ file)
edited_in [] file h = absurd (cc)
edited_in (m ∷ ms) file h = elim (cases_Bool (m.start.file == file)) [
  | inl is ↦ (m, (0, refl), eqb-true m.start.file file is)
  | inr other ↦
      let later : is_edited ms file ≡ true = rw other at h in
      let r = edited_in ms file later in
      (r.0, (suc r.1.0, r.1.1), r.2)
]

not_edited_in : (ms : List Part) (file : ℕ) → is_edited ms file ≡ false → (m : Part) → In m ms → m.start.file ≡ file → ⊥
not_edited_in ms file h m i e =
    both_ways (is_edited ms file) h (any_at (λ (p : Part). p.start.file == file) ms i.0 m i.1 (eq-eqb m.start.file file e))

-- ---- the files

module _ (a : Analysed) (members : List Part) (name : List ℕ) (h : IsAllowed a members name) (once : HasEachOnce a.value.table) (now : Source)
    (r : AreRespelled a.value members name h.source now) where
  -- the file of a member is kept
  member_kept : (m : Part) → In m members → (f : KeptValue) × (kept_at a.value.table m.start.file ≡ Some f)
  member_kept m i =
      let listed = h.class.listed in
      let part = (listed.each i.0 m i.1).is_part in
      let c = character_file a.value h.source h.workspace h.accepted m.start part.held (no_line a.value members name (none_stand a.value members name h.first) m i) in
      (c.1.file, c.1.is_kept)

  -- a path of another number is none of a file that holds members
  path_apart : (n : ℕ) (e : Entry) → slice_get a.value.table n ≡ Some e → is_edited members n ≡ false → (run : List Part) (f : KeptValue)
      → HoldsMembers a.value members run f → f.path ≡ e.path → ⊥
  path_apart n e at free [] f holds same = absurd (none-some f holds.1)
  path_apart n e at free (m ∷ run) f holds same =
      let i = head_in members m run holds.0 in
      let there : slice_get (paths_in a.value.table) m.start.file ≡ Some e.path =
      kept_there a.value.table m.start.file f holds.1 ∙ ap (λ (p : List ℕ). Some p) same in
      not_edited_in members n free m i
      (one_place (paths_in a.value.table) m.start.file n e.path once there (path_of_entry a.value.table n e at))

  same_map : (n : ℕ) → is_edited members n ≡ false → (o : Option (List ℕ)) → o ≡ option_map (respelled members name n) o
  same_map n free None = refl
  same_map n free (Some bytes) = ap (λ (w : List ℕ). Some w) (sym (respelled_same members name n bytes (not_edited_in members n free)))

  edited_holds : (n : ℕ) (e : Entry) → slice_get a.value.table n ≡ Some e → is_edited members n ≡ true
      → now e.path ≡ option_map (respelled members name n) (h.source e.path)
  edited_holds n e at edited_is =
      let m = edited_in members n edited_is in
      let k = member_kept m.0 m.1 in
      let f : KeptValue = k.0 in
      let here : kept_at a.value.table n ≡ Some f = ap (kept_at a.value.table) (sym m.2) ∙ k.1 in
      let own : kept_in n e ≡ Some f = ap (option_and_then (kept_in n)) (sym at) ∙ here in
      let of = kept_of n e f own in
      let run = run_by (length members) members name n (omega arith) (members_together a members name h once) edited_is in
      let file : file_of a.value (run.first ∷ run.rest) ≡ Some f = ap (kept_at a.value.table) run.own ∙ here in
      let held = r.edited (run.first ∷ run.rest) f (run.among, file) in
      let new : now e.path ≡ Some (respelled (run.first ∷ run.rest) name f.number f.bytes) = ap now (sym of.path) ∙ held.1 in
      let by_number : Some (respelled (run.first ∷ run.rest) name f.number f.bytes) ≡ Some (respelled (run.first ∷ run.rest) name n f.bytes) =
      ap (λ (j : ℕ). Some (respelled (run.first ∷ run.rest) name j f.bytes)) of.number in
      let by_all : Some (respelled (run.first ∷ run.rest) name n f.bytes) ≡ Some (respelled members name n f.bytes) =
      ap (λ (w : List ℕ). Some w) (sym (run.same f.bytes)) in
      let old : Some f.bytes ≡ h.source e.path = sym held.0 ∙ ap h.source of.path in
      new ∙ by_number ∙ by_all ∙ ap (option_map (respelled members name n)) old

  each_holds : (n : ℕ) (e : Entry) → slice_get a.value.table n ≡ Some e → now e.path ≡ option_map (respelled members name n) (h.source e.path)
  each_holds n e at = elim (cases_Bool (is_edited members n)) [
    | inl edited_is ↦ edited_holds n e at edited_is
    | inr free ↦ r.others e.path (path_apart n e at free) ∙ same_map n free (h.source e.path)
  ]

pub respelled_files_hold_edited : RespelledFilesHoldEdited
respelled_files_hold_edited = λ a members name h once now r number e at. each_holds a members name h once now r number e at
