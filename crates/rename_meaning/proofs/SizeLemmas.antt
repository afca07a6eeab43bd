-- The edited files are within the limits.
use Rattle.std.proofs.Common.{◌≡◌, ℕ, zero, suc, ◌+◌, ◌≤◌, ◌^◌, ◌==◌, Bool, true, false, cond, List, [], ◌∷◌, length, Option, Some, None, inl, inr, refl, sym, ap, subst, ◌∙◌, arith, nat_lt}
use Rattle.std.specs.Prelude.{eqb, slice_get}
use Rattle.std.specs.List.{flat_map, list_any, starts_with}
use Rattle.std.specs.Option.{option_map, option_map_or, option_and_then}
use Rattle.std.proofs.lemmas.Bool.{cases_Bool, cases_lt, both_ways, eq-eqb, eqb-true, lt-ltb, ltb-true, or_left, or_right, false_from_ne_true}
use Rattle.std.proofs.lemmas.Option.{same_Some}
use Rattle.cs_base.specs.declared.positions.Part.{Part}
use Rattle.cs_base.specs.Limits.{most_bytes}
use Rattle.cs_base.proofs.ListLemmas.{any_at, front_none as nil_left, nil_behind as nil_right}
use Rattle.source_files.specs.Files.{Found, Lines, Absent, Unopened, Opened, Made, Entry, entry, Table, opened_bytes, more_bytes, bytes_opened}
use Rattle.source_files.specs.KeptFiles.{KeptValue, kept, kept_bytes, kept_in, kept_at}
use Rattle.include_tree.specs.PseudoFiles.{is_pseudo}
use Rattle.part_respell.specs.Respelled.{respelled}
use Rattle.analysis.specs.Analysed.{Analysed}
use Rattle.analysis.specs.Analysis.{AnalysisValue}
use Rattle.analysis.specs.Places.{is_read_only, is_read_only_path}
use Rattle.analysis.proofs.NamingLemmas.{any_in}
use Rattle.analysis.proofs.PlaceNameLemmas.{kept_number}
use Rattle.analysis.specs.Below.eclass_map.Chain.{here}
use Rattle.rename_rules.specs.Offences.{large_place, full_place, too_large_places}
use Rattle.rename_rules.specs.Runs.{runs, is_edited, new_size, new_sizes, size_of, kept_size, kept_sizes, new_size_of_all}
use Rattle.rename_meaning.specs.Allowed.{IsAllowed}
use Rattle.edited_unit_laws.proofs.ListLemmas.{In}
use Rattle.rename_meaning.proofs.NoneLemmas.{NoneStand, none_stand, writable}
use Rattle.rename_meaning.specs.Limits.{EditedFilesAreWithinLimits}
use Rattle.rename_meaning.proofs.FoundLemmas.{AreReal, IsReal, analysis_real}
use Rattle.rename_meaning.proofs.KeptFileLemmas.{respelled_same}
use Rattle.rename_meaning.proofs.MemberOrderLemmas.{StandTogether, members_together}
use Rattle.rename_meaning.proofs.RunLemmas.{run_of, rest_of, runs_are, rest_less, rest_together, rest_respelled, rest_edited, size_by, run_size, sizes_small, cond_none, not_more}
use Rattle.analysis.specs.Changed.{edited_found, edited_from}

-- ---- sizes of all edited files

module _ (a : AnalysisValue) (name : List ℕ) where
  abbrev edited_size : List Part → ℕ → KeptValue → ℕ
  edited_size ms number f = cond (is_edited ms number) (size_by a name ms f) 0

  abbrev edited_sizes : List Part → ℕ → Table → ℕ
  edited_sizes ms number [] = 0
  edited_sizes ms number (e ∷ table) = option_map_or (edited_size ms number) (kept_in number e) 0 + edited_sizes ms (number + 1) table

  none_size : (number : ℕ) (o : Option KeptValue) → option_map_or (edited_size [] number) o 0 ≡ 0
  none_size number None = refl
  none_size number (Some f) = refl

  none_sizes : (number : ℕ) (table : Table) → edited_sizes [] number table ≡ 0
  none_sizes number [] = refl
  none_sizes number (e ∷ table) =
      let first = none_size number (kept_in number e) in
      let rest = none_sizes (number + 1) table in
      omega (arith, first, rest)

  -- the file of the first run, if it is still to come
  abbrev to_come : ℕ → ℕ → ℕ → ℕ
  to_come file number size = cond (nat_lt file number) 0 size

  other_size : (m : Part) (ms : List Part) (number : ℕ) (o : Option KeptValue) → ((f : KeptValue) → o ≡ Some f → f.number ≡ number) → (m.start.file ≡ number → ⊥)
      → option_map_or (edited_size (m ∷ ms) number) o 0 ≡ option_map_or (edited_size (rest_of m ms) number) o 0
  other_size m ms number None own apart = refl
  other_size m ms number (Some f) own apart =
      let file = own f refl in
      ap (λ (b : Bool). cond b (size_by a name (m ∷ ms) f) 0) (rest_edited m ms number apart)
      ∙ ap (λ (w : List ℕ). cond (is_edited (rest_of m ms) number) (size_of f w) 0) (rest_respelled m ms name f.bytes f.number (λ e. apart (e ∙ file)))

  own_size : (m : Part) (ms : List Part) (number : ℕ) (o : Option KeptValue) → StandTogether (m ∷ ms) → ((f : KeptValue) → o ≡ Some f → f.number ≡ number) → m.start.file ≡ number
      → kept_at a.table number ≡ o → option_map_or (edited_size (m ∷ ms) number) o 0 ≤ new_size a name (run_of m ms)
  own_size m ms number None h own file is = omega arith
  own_size m ms number (Some f) h own file is =
      let at : kept_at a.table m.start.file ≡ Some f = ap (kept_at a.table) file ∙ is in
      let size = run_size a name m ms f at (file ∙ sym (own f refl)) h in
      within (is_edited (m ∷ ms) number) size
    where
      within : (b : Bool) → new_size a name (run_of m ms) ≡ size_by a name (m ∷ ms) f → cond b (size_by a name (m ∷ ms) f) 0 ≤ new_size a name (run_of m ms)
      within true e = omega (arith, e)
      within false e = omega arith

  less_next : (file number : ℕ) → (file ≡ number → ⊥) → nat_lt file (number + 1) ≡ nat_lt file number
  less_next file number apart = elim (cases_lt file number) [
    | inl less ↦ lt-ltb file (number + 1) (omega (arith, less)) ∙ sym (lt-ltb file number less)
    | inr more ↦ elim (cases_lt file (number + 1)) [
      | inl less ↦ absurd (apart (omega (arith, less, more)))
      | inr past ↦
          false_from_ne_true (nat_lt file (number + 1)) (λ e. (let l = ltb-true file (number + 1) e in omega (arith, l, past)))
          ∙ sym (false_from_ne_true (nat_lt file number) (λ e. (let l = ltb-true file number e in omega (arith, l, more))))
    ]
  ]

  entry_number : (number : ℕ) (e : Entry) (f : KeptValue) → kept_in number e ≡ Some f → f.number ≡ number
  entry_number number e f is = by (kept_bytes e.found) is
    where
      by : (o : Option (List ℕ)) → option_map (kept number e.path) o ≡ Some f → f.number ≡ number
      by None k = absurd (cc)
      by (Some bytes) k = ap (λ (g : KeptValue). g.number) (sym (same_Some (kept number e.path bytes) f k))

  sizes_step : (m : Part) (ms : List Part) → StandTogether (m ∷ ms) → (number : ℕ) (table : Table) → ((k : ℕ) (e : Entry) → slice_get table k ≡ Some e → slice_get a.table (number + k) ≡ Some e)
      → edited_sizes (m ∷ ms) number table ≤ to_come m.start.file number (new_size a name (run_of m ms)) + edited_sizes (rest_of m ms) number table
  sizes_step m ms h number [] at = omega arith
  sizes_step m ms h number (e ∷ table) at =
      let y : ℕ = new_size a name (run_of m ms) in
      let later = sizes_step m ms h (number + 1) table (λ k x i. (let on : number + 1 + k ≡ number + suc k = omega arith in ap (slice_get a.table) on ∙ at (suc k) x i)) in
      let own : (f : KeptValue) → kept_in number e ≡ Some f → f.number ≡ number = λ f is. entry_number number e f is in
      let x : ℕ = option_map_or (edited_size (m ∷ ms) number) (kept_in number e) 0 in
      let z : ℕ = option_map_or (edited_size (rest_of m ms) number) (kept_in number e) 0 in
      let A : ℕ = edited_sizes (m ∷ ms) (number + 1) table in
      let B : ℕ = edited_sizes (rest_of m ms) (number + 1) table in
      elim (cases_Bool (m.start.file == number)) [
        | inl same ↦
            let file : m.start.file ≡ number = eqb-true m.start.file number same in
            let zero_on : number + 0 ≡ number = omega arith in
            let here_at : slice_get a.table number ≡ Some e = ap (slice_get a.table) (sym zero_on) ∙ at 0 e refl in
            let is : kept_at a.table number ≡ kept_in number e = ap (option_and_then (kept_in number)) here_at in
            let size : x ≤ y = own_size m ms number (kept_in number e) h own file is in
            let now : to_come m.start.file number y ≡ y =
            ap (λ (b : Bool). cond b 0 y) (false_from_ne_true (nat_lt m.start.file number) (λ e2. (let l = ltb-true m.start.file number e2 in omega (arith, l, file)))) in
            let next : to_come m.start.file (number + 1) y ≡ 0 = ap (λ (b : Bool). cond b 0 y) (lt-ltb m.start.file (number + 1) (omega (arith, file))) in
            join_own x y z A B (to_come m.start.file number y) (to_come m.start.file (number + 1) y) size now next later
        | inr other ↦
            let apart : m.start.file ≡ number → ⊥ = λ e2. both_ways (m.start.file == number) other (eq-eqb m.start.file number e2) in
            let size : x ≡ z = other_size m ms number (kept_in number e) own apart in
            let next : to_come m.start.file (number + 1) y ≡ to_come m.start.file number y = ap (λ (b : Bool). cond b 0 y) (less_next m.start.file number apart) in
            join_other x z A B (to_come m.start.file number y) (to_come m.start.file (number + 1) y) size next later
      ]
    where
      join_own : (x y z A B now next : ℕ) → x ≤ y → now ≡ y → next ≡ 0 → A ≤ next + B → x + A ≤ now + (z + B)
      join_own x y z A B now next size is none later = omega (arith, size, is, none, later)

      join_other : (x z A B now next : ℕ) → x ≡ z → next ≡ now → A ≤ next + B → x + A ≤ now + (z + B)
      join_other x z A B now next size is later = omega (arith, size, is, later)

  -- all edited files have at most the sizes of the runs
  sizes_of_runs : (len : ℕ) (ms : List Part) → length ms ≤ len → StandTogether ms → edited_sizes ms 0 a.table ≤ new_sizes a name (runs ms)
  sizes_of_runs len [] less h = let none = none_sizes 0 a.table in omega (arith, none)
  sizes_of_runs zero (m ∷ ms) less h = absurd (omega (arith, less))
  sizes_of_runs (suc len) (m ∷ ms) less h =
      let y : ℕ = new_size a name (run_of m ms) in
      let rest = rest_less m ms in
      let later = sizes_of_runs len (rest_of m ms) (omega (arith, less, rest)) (rest_together m ms h) in
      let step = sizes_step m ms h 0 a.table (λ k e i. (let on : 0 + k ≡ k = omega arith in ap (slice_get a.table) on ∙ i)) in
      let first : to_come m.start.file 0 y ≡ y = ap (λ (b : Bool). cond b 0 y) (false_from_ne_true (nat_lt m.start.file 0) (λ e. (let l = ltb-true m.start.file 0 e in omega (arith, l)))) in
      let all : new_sizes a name (runs (m ∷ ms)) ≡ y + new_sizes a name (runs (rest_of m ms)) = ap (new_sizes a name) (runs_are m ms) in
      join (edited_sizes (m ∷ ms) 0 a.table) (to_come m.start.file 0 y) y (edited_sizes (rest_of m ms) 0 a.table) (new_sizes a name (runs (rest_of m ms))) (new_sizes a name (runs (m ∷ ms))) step first later all
    where
      join : (E t y R S N : ℕ) → E ≤ t + R → t ≡ y → R ≤ S → N ≡ y + S → E ≤ N
      join E t y R S N step first later all = omega (arith, step, first, later, all)

  -- ---- the bytes that are opened

  real_size : (f : KeptValue) (bytes : List ℕ) → is_pseudo f.path ≡ false → size_of f bytes ≡ length bytes
  real_size f bytes real = ap (λ (b : Bool). cond b 0 (length bytes)) real

  not_edited : (members : List Part) (number : ℕ) → is_edited members number ≡ false → (m : Part) → In m members → m.start.file ≡ number → ⊥
  not_edited members number none m i file =
      both_ways (is_edited members number) none (any_at (λ (x : Part). x.start.file == number) members i.0 m i.1 (eq-eqb m.start.file number file))

  opened_le : (members : List Part) (number : ℕ) (path bytes : List ℕ) (L K E : ℕ) → is_pseudo path ≡ false → L ≤ K + E
      → L + length (respelled members name number bytes) ≤ (kept_size members number (kept number path bytes) + K) + (edited_size members number (kept number path bytes) + E)
  opened_le members number path bytes L K E real le =
      let f : KeptValue = kept number path bytes in
      let old : size_of f bytes ≡ length bytes = real_size f bytes real in
      let new : size_of f (respelled members name number bytes) ≡ length (respelled members name number bytes) = real_size f (respelled members name number bytes) real in
      by (is_edited members number) refl old new
    where
      by : (b : Bool) → is_edited members number ≡ b → size_of (kept number path bytes) bytes ≡ length bytes
          → size_of (kept number path bytes) (respelled members name number bytes) ≡ length (respelled members name number bytes)
          → L + length (respelled members name number bytes) ≤ (cond b 0 (size_of (kept number path bytes) bytes) + K) + (cond b (size_of (kept number path bytes) (respelled members name number bytes)) 0 + E)
      by true is old new = omega (arith, le, new)
      by false is old new =
          let same : length (respelled members name number bytes) ≡ length bytes = ap length (respelled_same members name number bytes (not_edited members number is)) in
          omega (arith, le, old, same)

  entry_le : (members : List Part) (number : ℕ) (path : List ℕ) (found : Found) (L K E : ℕ) → IsReal path found → L ≤ K + E
      → more_bytes (opened_bytes (edited_found (respelled members name number) found)) L
      ≤ (option_map_or (kept_size members number) (kept_in number (entry path found)) 0 + K) + (option_map_or (edited_size members number) (kept_in number (entry path found)) 0 + E)
  entry_le members number path Lines L K E real le = omega (arith, le)
  entry_le members number path Absent L K E real le = omega (arith, le)
  entry_le members number path (Unopened bytes) L K E real le = omega (arith, le)
  entry_le members number path (Opened bytes) L K E real le = opened_le members number path bytes L K E real le
  entry_le members number path (Made bytes) L K E real le = omega (arith, le)

  bytes_le : (members : List Part) (number : ℕ) (table : Table) → AreReal table
      → bytes_opened (edited_from (respelled members name) number table) ≤ kept_sizes members number table + edited_sizes members number table
  unfolding bytes_opened kept_sizes
  bytes_le members number [] real = omega arith
  bytes_le members number (e ∷ table) real =
      let next : suc number ≡ number + 1 = omega arith in
      let later : bytes_opened (edited_from (respelled members name) (suc number) table) ≤ kept_sizes members (number + 1) table + edited_sizes members (number + 1) table =
      subst (λ (n : ℕ). bytes_opened (edited_from (respelled members name) n table) ≤ kept_sizes members (number + 1) table + edited_sizes members (number + 1) table) (sym next)
      (bytes_le members (number + 1) table real.1) in
      entry_le members number e.path e.found (bytes_opened (edited_from (respelled members name) (suc number) table)) (kept_sizes members (number + 1) table) (edited_sizes members (number + 1) table) real.0 later

-- ---- no offence stands

module _ (a : Analysed) (members : List Part) (name : List ℕ) (h : IsAllowed a members name) where
  none : NoneStand a.value members name
  none = none_stand a.value members name h.first

  large_none : flat_map (large_place a.value name) (runs members) ≡ []
  unfolding too_large_places
  large_none = nil_left (flat_map (large_place a.value name) (runs members)) (full_place a.value name members) none.too_large

  full_none : full_place a.value name members ≡ []
  unfolding too_large_places
  full_none = nil_right (flat_map (large_place a.value name) (runs members)) (full_place a.value name members) none.too_large

  -- the file of a member is no pseudo file
  member_real : (n : ℕ) (f : KeptValue) (m : Part) → kept_at a.value.table n ≡ Some f → In m members → m.start.file ≡ n → is_pseudo f.path ≡ false
  member_real n f m is i file =
      let prefixes : List (List ℕ) = a.value.workspace.readonly in
      let at : kept_at a.value.table m.start.file ≡ Some f = ap (kept_at a.value.table) file ∙ is in
      false_from_ne_true (is_pseudo f.path) (λ pseudo.
      let path_is : is_read_only_path prefixes f.path ≡ true = or_left (is_pseudo f.path) (list_any (starts_with eqb f.path) prefixes) pseudo in
      let there : option_map_or (λ (g : KeptValue). is_read_only_path prefixes g.path) (kept_at a.value.table m.start.file) false ≡ true =
      ap (λ (o : Option KeptValue). option_map_or (λ (g : KeptValue). is_read_only_path prefixes g.path) o false) at ∙ path_is in
      let read_only : is_read_only a.value.table prefixes m.start.file ≡ true =
      or_right (m.start.file == 0) (option_map_or (λ (g : KeptValue). is_read_only_path prefixes g.path) (kept_at a.value.table m.start.file) false) there in
      both_ways (is_read_only a.value.table prefixes m.start.file) (writable a.value members name none m i) read_only)

  small_file : StandTogether members → (n : ℕ) (f : KeptValue) → kept_at a.value.table n ≡ Some f → length f.bytes ≤ most_bytes → length (respelled members name f.number f.bytes) ≤ most_bytes
  small_file together n f is small =
      let own : f.number ≡ n = kept_number a.value.table n f is in
      elim (cases_Bool (is_edited members n)) [
        | inl edited_is ↦
            let m = any_in (λ (x : Part). x.start.file == n) members edited_is in
            let real = member_real n f m.0 is m.1 (eqb-true m.0.start.file n m.2) in
            let few = sizes_small a.value name (length members) members (omega arith) together large_none n f is (sym own) edited_is in
            let size = real_size a.value name f (respelled members name f.number f.bytes) real in
            subst (λ (k : ℕ). k ≤ most_bytes) size few
        | inr other ↦
            let same = ap length (respelled_same members name f.number f.bytes (λ m i file. not_edited a.value name members n other m i (file ∙ own))) in
            subst (λ (k : ℕ). k ≤ most_bytes) (sym same) small
      ]

  full_by : (ms : List Part) → full_place a.value name ms ≡ [] → (m : Part) → In m ms → new_size_of_all a.value name ms ≤ 2 ^ 28
  full_by [] e m i = absurd (let at = i.1 in cc)
  full_by (x ∷ ms) e m i = not_more (2 ^ 28) (new_size_of_all a.value name (x ∷ ms)) (cond_none (nat_lt (2 ^ 28) (new_size_of_all a.value name (x ∷ ms))) x.start e)

  all_few : StandTogether members → AreReal a.value.table → (m : Part) → In m members → bytes_opened (edited_from (respelled members name) 0 a.value.table) ≤ 2 ^ 28
  unfolding new_size_of_all
  all_few together real m i =
      let all = bytes_le a.value name members 0 a.value.table real in
      let sizes = sizes_of_runs a.value name (length members) members (omega arith) together in
      let total : kept_sizes members 0 a.value.table + new_sizes a.value name (runs members) ≤ 2 ^ 28 = full_by members full_none m i in
      join (bytes_opened (edited_from (respelled members name) 0 a.value.table)) (kept_sizes members 0 a.value.table) (edited_sizes a.value name members 0 a.value.table) (new_sizes a.value name (runs members)) (2 ^ 28) all sizes total
    where
      join : (B K E N most : ℕ) → B ≤ K + E → E ≤ N → K + N ≤ most → B ≤ most
      join B K E N most all sizes total = omega (arith, all, sizes, total)

pub edited_files_are_within_limits : EditedFilesAreWithinLimits
edited_files_are_within_limits = λ a members name path line column h workspace once named.
    let together = members_together a members name h once in
    let real = analysis_real h.source h.workspace a.value workspace h.accepted in
    let listed = h.class.listed in
    let part = listed.all h.class.part (record { is_part = named.2; same = here }) in
    record {
      small = small_file a members name h together;
      few = all_few a members name h together real h.class.part part;
    }
