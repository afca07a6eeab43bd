-- The fields of the table of files, and the table that contracts see.
use Rattle.std.proofs.Common.{◌≡◌, ℕ, zero, suc, ◌+◌, ◌-◌, ◌≤◌, ◌<◌, ◌^◌, Bool, false, not, cond, nat_lt, List, [], ◌∷◌, ◌++◌, length, map, position, true, Option, None, Some, refl, sym, ◌∙◌, ap, subst, arith, slice_get, get_or, inl, inr, ltb-true, ltb-false, length-append}
use Rattle.std.specs.Option.{option_map, option_map_or, option_and_then}
use Rattle.std.specs.List.{position_or_len, prefix_len, list_any, list_all}
use Rattle.std.specs.Str.{bytes_eq, is_utf8, chars}
use Rattle.std.proofs.lemmas.Bool.{cases_Bool}
use Rattle.std.proofs.lemmas.List.Folds.{list_all-append}
use Rattle.std.proofs.Math.ListN.{length-map}
use Rattle.cs_base.proofs.FileMapLemmas.{bytes_eq-equal}
use Rattle.line_shape.specs.MacroLine.{are_distinct}
use Rattle.line_shape.proofs.NameLemmas.{are_distinct-new}
use Rattle.source_files.specs.declared.slot.Slot.{Slot}
use Rattle.source_files.specs.declared.slot.Slot.TheVariants as slot
use Rattle.source_files.specs.Files.{Found, Lines, entry, Table, lines_path, is_absent, is_absent_at, number_of, number_at, found_at, numbered}
use Rattle.source_files.specs.KeptFiles.{KeptValue, kept, kept_in, kept_at}
use Rattle.source_files.specs.Slots.{found_of, kept_of, IsNumbered}
use Rattle.source_files.specs.Tables.{paths_in, HasEachOnce, AreText}
use Rattle.source_files.specs.FileTableFields.{entries_of, table_of, AreNumbered, IsFileTable, Stands}
use Rattle.source_files.proofs.TableLemmas.{not_among}

-- ---- the kept file of a number

same_file : (n : ℕ) (path : List ℕ) (f : KeptValue) → f.number ≡ n → f.path ≡ path → ◌≡◌ {A = Option KeptValue} (Some (kept n path f.bytes)) (Some f)
same_file n path f h k =
    ap (λ (m : ℕ). Some (kept m path f.bytes)) (sym h) ∙ ap (λ (p : List ℕ). Some (kept f.number p f.bytes)) (sym k)

kept_in-slot : (n : ℕ) (path : List ℕ) (s : Slot) → IsNumbered n path s → kept_in n (entry path (found_of s)) ≡ kept_of s
kept_in-slot n path slot.Absent h = refl
kept_in-slot n path (slot.Unopened bytes) h = refl
kept_in-slot n path (slot.Opened f) h = same_file n path f h.0 h.1
kept_in-slot n path (slot.Made f) h = same_file n path f h.0 h.1

kept_at-from : (paths : List (List ℕ)) (slots : List Slot) (k i : ℕ) → length slots ≡ length paths → AreNumbered k paths slots
    → option_and_then (kept_in (k + i)) (slice_get (entries_of paths slots) i) ≡ option_and_then kept_of (slice_get slots i)
kept_at-from [] [] k i each h = refl
kept_at-from [] (s ∷ slots) k i each h = absurd (omega (arith, each))
kept_at-from (p ∷ paths) [] k i each h = absurd (omega (arith, each))
kept_at-from (p ∷ paths) (s ∷ slots) k zero each h =
    let n : k + 0 ≡ k = omega arith in rw n (kept_in-slot k p s h.0)
kept_at-from (p ∷ paths) (s ∷ slots) k (suc i) each h =
    let n : k + suc i ≡ (k + 1) + i = omega arith in
    rw n (kept_at-from paths slots (k + 1) i (omega (arith, each)) h.1)

-- the kept file of a number that is not 0
pub kept_at-slot : (paths : List (List ℕ)) (slots : List Slot) (number : ℕ) → IsFileTable paths slots → (number ≡ 0 → ⊥)
    → kept_at (table_of paths slots) number ≡ option_and_then kept_of (slice_get slots (number - 1))
kept_at-slot paths slots number is some =
    let n : suc (number - 1) ≡ number = omega (arith, some) in
    let m : 1 + (number - 1) ≡ suc (number - 1) = omega arith in
    let at : option_and_then (kept_in (1 + (number - 1))) (slice_get (entries_of paths slots) (number - 1)) ≡ option_and_then kept_of (slice_get slots (number - 1)) =
    kept_at-from paths slots 1 (number - 1) is.each is.numbered in
    let same : kept_at (table_of paths slots) (suc (number - 1)) ≡ option_and_then kept_of (slice_get slots (number - 1)) = rw m at at in
    subst (λ (k : ℕ). kept_at (table_of paths slots) k ≡ option_and_then kept_of (slice_get slots (number - 1))) n same

-- ---- whether no file was there for the path of a number

absent-from : (paths : List (List ℕ)) (slots : List Slot) (i : ℕ) → length slots ≡ length paths
    → option_map_or (λ e. is_absent e.found) (slice_get (entries_of paths slots) i) false ≡ option_map_or (λ s. is_absent (found_of s)) (slice_get slots i) false
absent-from [] [] i each = refl
absent-from [] (s ∷ slots) i each = absurd (omega (arith, each))
absent-from (p ∷ paths) [] i each = absurd (omega (arith, each))
absent-from (p ∷ paths) (s ∷ slots) zero each = refl
absent-from (p ∷ paths) (s ∷ slots) (suc i) each = absent-from paths slots i (omega (arith, each))

-- for that of a number that is not 0
pub absent-slot : (paths : List (List ℕ)) (slots : List Slot) (number : ℕ) → length slots ≡ length paths → (number ≡ 0 → ⊥)
    → is_absent_at (table_of paths slots) number ≡ option_map_or (λ s. is_absent (found_of s)) (slice_get slots (number - 1)) false
absent-slot paths slots zero each some = absurd (some refl)
absent-slot paths slots (suc n) each some =
    let same : suc n - 1 ≡ n = omega arith in
    rw same (absent-from paths slots n each)

-- ---- the path of a number

pub path-from : (paths : List (List ℕ)) (slots : List Slot) (i : ℕ) → length slots ≡ length paths
    → option_map (λ e. e.path) (slice_get (entries_of paths slots) i) ≡ slice_get paths i
path-from [] slots i each = refl
path-from (p ∷ paths) [] i each = absurd (omega (arith, each))
path-from (p ∷ paths) (s ∷ slots) zero each = refl
path-from (p ∷ paths) (s ∷ slots) (suc i) each = path-from paths slots i (omega (arith, each))

keys-at : {K : Type 0} (spelling : K → List ℕ) (ks : List K) (i : ℕ) → slice_get (map spelling ks) i ≡ option_map spelling (slice_get ks i)
keys-at spelling [] i = refl
keys-at spelling (k ∷ ks) zero = refl
keys-at spelling (k ∷ ks) (suc i) = keys-at spelling ks i

-- the path of a number that is not 0
pub path-at : {K : Type 0} (spelling : K → List ℕ) (ks : List K) (slots : List Slot) (number : ℕ) → length slots ≡ length (map spelling ks) → (number ≡ 0 → ⊥)
    → option_map (λ e. e.path) (slice_get (table_of (map spelling ks) slots) number) ≡ option_map spelling (slice_get ks (number - 1))
path-at spelling ks slots zero each some = absurd (some refl)
path-at spelling ks slots (suc n) each some =
    let same : suc n - 1 ≡ n = omega arith in
    rw same (path-from (map spelling ks) slots n each ∙ keys-at spelling ks n)

-- ---- the number of a path

number-from : (path : List ℕ) (paths : List (List ℕ)) (slots : List Slot) → length slots ≡ length paths
    → number_of path (entries_of paths slots) ≡ position_or_len (bytes_eq path) paths
number-from path [] slots each = refl
number-from path (p ∷ paths) [] each = absurd (omega (arith, each))
number-from path (p ∷ paths) (s ∷ slots) each =
    ap (λ (n : ℕ). cond (not (bytes_eq path p)) (1 + n) 0) (number-from path paths slots (omega (arith, each)))

found-first : (path : List ℕ) (paths : List (List ℕ)) (slots : List Slot) (d : Slot) → length slots ≡ length paths
    → position_or_len (bytes_eq path) paths < length paths
    → found_at path (entries_of paths slots) ≡ Some (found_of (get_or slots (position_or_len (bytes_eq path) paths) d))
unfolding found_at
found-first path [] slots d each h = absurd (omega (arith, h))
found-first path (p ∷ paths) [] d each h = absurd (omega (arith, each))
found-first path (p ∷ paths) (s ∷ slots) d each h = elim (cases_Bool (bytes_eq path p)) [
  | inl same ↦ rw same refl
  | inr other ↦
      let l : 1 + position_or_len (bytes_eq path) paths < length (p ∷ paths) = rw other at h in
      let n : 1 + position_or_len (bytes_eq path) paths ≡ suc (position_or_len (bytes_eq path) paths) = omega arith in
      rw other (rw n (found-first path paths slots d (omega (arith, each)) (omega (arith, l))))
]

found-none : (path : List ℕ) (paths : List (List ℕ)) (slots : List Slot) → length slots ≡ length paths
    → length paths ≤ position_or_len (bytes_eq path) paths → found_at path (entries_of paths slots) ≡ None
unfolding found_at
found-none path [] slots each h = refl
found-none path (p ∷ paths) [] each h = absurd (omega (arith, each))
found-none path (p ∷ paths) (s ∷ slots) each h = elim (cases_Bool (bytes_eq path p)) [
  | inl same ↦ absurd (let l : length (p ∷ paths) ≤ 0 = rw same at h in omega (arith, l))
  | inr other ↦
      let l : length (p ∷ paths) ≤ 1 + position_or_len (bytes_eq path) paths = rw other at h in
      rw other (found-none path paths slots (omega (arith, each)) (omega (arith, l)))
]

numbered-at : (paths : List (List ℕ)) (slots : List Slot) (k : ℕ) (path : List ℕ) (d : Slot) → length slots ≡ length paths → AreNumbered k paths slots
    → position_or_len (bytes_eq path) paths < length paths
    → IsNumbered (k + position_or_len (bytes_eq path) paths) path (get_or slots (position_or_len (bytes_eq path) paths) d)
numbered-at [] slots k path d each h l = absurd (omega (arith, l))
numbered-at (p ∷ paths) [] k path d each h l = absurd (omega (arith, each))
numbered-at (p ∷ paths) (s ∷ slots) k path d each h l = elim (cases_Bool (bytes_eq path p)) [
  | inl same ↦
      let n : k + 0 ≡ k = omega arith in
      rw same (rw n (subst (λ (q : List ℕ). IsNumbered k q s) (sym (bytes_eq-equal path p same)) h.0))
  | inr other ↦
      let m : 1 + position_or_len (bytes_eq path) paths < length (p ∷ paths) = rw other at l in
      let n : k + suc (position_or_len (bytes_eq path) paths) ≡ (k + 1) + position_or_len (bytes_eq path) paths = omega arith in
      let one : 1 + position_or_len (bytes_eq path) paths ≡ suc (position_or_len (bytes_eq path) paths) = omega arith in
      rw other (rw (one, n) (numbered-at paths slots (k + 1) path d (omega (arith, each)) h.1 (omega (arith, m))))
]

-- a look-up of a path
pub position-is : {X : Type 0} (p : X → Bool) (xs : List X) (i : ℕ) → position p xs ≡ Some i → (position_or_len p xs ≡ i) × (i < length xs)
position-is p xs i h = elim (cases_Bool (nat_lt (position_or_len p xs) (length xs))) [
  | inl below ↦
      let e : ◌≡◌ {A = Option ℕ} (Some (position_or_len p xs)) (Some i) = rw below at h in
      let same : position_or_len p xs ≡ i = grind (arith, e) in
      (same, omega (arith, ltb-true _ _ below, same))
  | inr past ↦ absurd (let e : ◌≡◌ {A = Option ℕ} None (Some i) = rw past at h in cc)
]

pub position-none : {X : Type 0} (p : X → Bool) (xs : List X) → position p xs ≡ None → length xs ≤ position_or_len p xs
position-none p xs h = elim (cases_Bool (nat_lt (position_or_len p xs) (length xs))) [
  | inl below ↦ absurd (let e : ◌≡◌ {A = Option ℕ} (Some (position_or_len p xs)) None = rw below at h in cc)
  | inr past ↦ ltb-false _ _ past
]

pub stands-at : (paths : List (List ℕ)) (slots : List Slot) (path : List ℕ) (i : ℕ) (s : Slot) → IsFileTable paths slots → bytes_eq path lines_path ≡ false
    → position (bytes_eq path) paths ≡ Some i → s ≡ get_or slots i s → Stands (table_of paths slots) path (i + 1) s
unfolding found_at
stands-at paths slots path i s is other found at =
    let p : (position_or_len (bytes_eq path) paths ≡ i) × (i < length paths) = position-is (bytes_eq path) paths i found in
    let within : position_or_len (bytes_eq path) paths < length paths = omega (arith, p.0, p.1) in
    let same : get_or slots (position_or_len (bytes_eq path) paths) s ≡ s = ap (λ (k : ℕ). get_or slots k s) p.0 ∙ sym at in
    let one : 1 + position_or_len (bytes_eq path) paths ≡ i + 1 = omega (arith, p.0) in
    record {
      number_is = rw other (ap (λ (n : ℕ). 1 + n) (number-from path paths slots is.each) ∙ one);
      found = rw other (found-first path paths slots s is.each within ∙ ap (λ (t : Slot). Some (found_of t)) same);
      numbered = subst (λ (n : ℕ). IsNumbered n path s) one (subst (λ (t : Slot). IsNumbered (1 + position_or_len (bytes_eq path) paths) path t) same (numbered-at paths slots 1 path s is.each is.numbered within));
    }

pub none-at : (paths : List (List ℕ)) (slots : List Slot) (path : List ℕ) → length slots ≡ length paths → bytes_eq path lines_path ≡ false
    → position (bytes_eq path) paths ≡ None → found_at path (table_of paths slots) ≡ None
unfolding found_at
none-at paths slots path each other none = rw other (found-none path paths slots each (position-none (bytes_eq path) paths none))

-- the number of a path, if it has one
pub number_at-lines : (paths : List (List ℕ)) (slots : List Slot) (path : List ℕ) → bytes_eq path lines_path ≡ true → number_at path (table_of paths slots) ≡ Some 0
unfolding found_at
number_at-lines paths slots path same = rw same refl

pub number_at-place : (paths : List (List ℕ)) (slots : List Slot) (path : List ℕ) (i : ℕ) → IsFileTable paths slots → bytes_eq path lines_path ≡ false
    → position (bytes_eq path) paths ≡ Some i → number_at path (table_of paths slots) ≡ Some (i + 1)
unfolding found_at
number_at-place paths slots path i is other at =
    let p : (position_or_len (bytes_eq path) paths ≡ i) × (i < length paths) = position-is (bytes_eq path) paths i at in
    let within : position_or_len (bytes_eq path) paths < length paths = omega (arith, p.0, p.1) in
    let there = found-first path paths slots slot.Absent is.each within in
    let one : 1 + position_or_len (bytes_eq path) paths ≡ i + 1 = omega (arith, p.0) in
    rw other (rw there (ap (λ (n : ℕ). Some (1 + n)) (number-from path paths slots is.each) ∙ ap (λ (n : ℕ). Some n) one))

pub number_at-none : (paths : List (List ℕ)) (slots : List Slot) (path : List ℕ) → IsFileTable paths slots → bytes_eq path lines_path ≡ false
    → position (bytes_eq path) paths ≡ None → number_at path (table_of paths slots) ≡ None
number_at-none paths slots path is other none = rw (none-at paths slots path is.each other none) refl

-- the keys are found by their spellings
prefix_len-map : {K : Type 0} (spelling : K → List ℕ) (p : List ℕ → Bool) (ks : List K) → prefix_len (λ k. p (spelling k)) ks ≡ prefix_len p (map spelling ks)
prefix_len-map spelling p [] = refl
prefix_len-map spelling p (k ∷ ks) = ap (λ (n : ℕ). cond (p (spelling k)) (1 + n) 0) (prefix_len-map spelling p ks)

pub position-map : {K : Type 0} (spelling : K → List ℕ) (p : List ℕ → Bool) (ks : List K)
    → position (λ k. p (spelling k)) ks ≡ position p (map spelling ks)
position-map spelling p ks = rw (← prefix_len-map spelling (λ n. not (p n)) ks) (rw length-map refl)

-- ---- one path more

entries-push : (paths : List (List ℕ)) (slots : List Slot) (path : List ℕ) (s : Slot) → length slots ≡ length paths
    → entries_of (paths ++ path ∷ []) (slots ++ s ∷ []) ≡ entries_of paths slots ++ entry path (found_of s) ∷ []
entries-push [] [] path s each = refl
entries-push [] (t ∷ slots) path s each = absurd (omega (arith, each))
entries-push (p ∷ paths) [] path s each = absurd (omega (arith, each))
entries-push (p ∷ paths) (t ∷ slots) path s each =
    ap (λ (es : Table). entry p (found_of t) ∷ es) (entries-push paths slots path s (omega (arith, each)))

pub table-push : (paths : List (List ℕ)) (slots : List Slot) (path : List ℕ) (s : Slot) → length slots ≡ length paths
    → table_of (paths ++ path ∷ []) (slots ++ s ∷ []) ≡ numbered path (found_of s) (table_of paths slots)
table-push paths slots path s each = ap (λ (es : Table). entry lines_path Lines ∷ es) (entries-push paths slots path s each)

numbered-push : (paths : List (List ℕ)) (slots : List Slot) (k : ℕ) (path : List ℕ) (s : Slot) → length slots ≡ length paths
    → AreNumbered k paths slots → IsNumbered (k + length slots) path s → AreNumbered k (paths ++ path ∷ []) (slots ++ s ∷ [])
numbered-push [] [] k path s each h is = let n : k + 0 ≡ k = omega arith in (rw n at is, tt)
numbered-push [] (t ∷ slots) k path s each h is = absurd (omega (arith, each))
numbered-push (p ∷ paths) [] k path s each h is = absurd (omega (arith, each))
numbered-push (p ∷ paths) (t ∷ slots) k path s each h is =
    let n : k + length (t ∷ slots) ≡ (k + 1) + length slots = omega arith in
    (h.0, numbered-push paths slots (k + 1) path s (omega (arith, each)) h.1 (rw n at is))

pub length-table : (paths : List (List ℕ)) (slots : List Slot) → length slots ≡ length paths → length (table_of paths slots) ≡ length slots + 1
length-table [] [] each = refl
length-table [] (t ∷ slots) each = absurd (omega (arith, each))
length-table (p ∷ paths) [] each = absurd (omega (arith, each))
length-table (p ∷ paths) (t ∷ slots) each =
    let h : length (table_of paths slots) ≡ length slots + 1 = length-table paths slots (omega (arith, each)) in omega (arith, h)

-- the paths that have a number
paths-entries : (paths : List (List ℕ)) (slots : List Slot) → length slots ≡ length paths → paths_in (entries_of paths slots) ≡ paths
paths-entries [] slots each = refl
paths-entries (p ∷ paths) [] each = absurd (omega (arith, each))
paths-entries (p ∷ paths) (s ∷ slots) each = ap (λ (ps : List (List ℕ)). p ∷ ps) (paths-entries paths slots (omega (arith, each)))

paths-table : (paths : List (List ℕ)) (slots : List Slot) → length slots ≡ length paths → paths_in (table_of paths slots) ≡ lines_path ∷ paths
paths-table paths slots each = ap (λ (ps : List (List ℕ)). lines_path ∷ ps) (paths-entries paths slots each)

pub table-once : (paths : List (List ℕ)) (slots : List Slot) → IsFileTable paths slots → HasEachOnce (table_of paths slots)
table-once paths slots is = subst (λ (ps : List (List ℕ)). are_distinct ps ≡ true) (sym (paths-table paths slots is.each)) is.once

lines-text : is_utf8 lines_path ≡ true
unfolding is_utf8 chars lib.Utf8.encode
lines-text = refl

pub table-text : (paths : List (List ℕ)) (slots : List Slot) → IsFileTable paths slots → AreText (table_of paths slots)
table-text paths slots is = subst (λ (ps : List (List ℕ)). list_all is_utf8 ps ≡ true) (sym (paths-table paths slots is.each)) (rw lines-text is.text)

once-push : (paths : List (List ℕ)) (slots : List Slot) (path : List ℕ) → IsFileTable paths slots → found_at path (table_of paths slots) ≡ None
    → are_distinct (lines_path ∷ (paths ++ path ∷ [])) ≡ true
once-push paths slots path is fresh =
    are_distinct-new (lines_path ∷ paths) path is.once
    (subst (λ (ps : List (List ℕ)). list_any (bytes_eq path) ps ≡ false) (paths-table paths slots is.each) (not_among path (table_of paths slots) fresh))

text-push : (paths : List (List ℕ)) (path : List ℕ) → list_all is_utf8 paths ≡ true → is_utf8 path ≡ true → list_all is_utf8 (paths ++ path ∷ []) ≡ true
text-push paths path all text = list_all-append is_utf8 paths (path ∷ []) ∙ rw (all, text) refl

pub file_table-push : (paths : List (List ℕ)) (slots : List Slot) (path : List ℕ) (s : Slot) → IsFileTable paths slots → found_at path (table_of paths slots) ≡ None
    → is_utf8 path ≡ true → IsNumbered (length (table_of paths slots)) path s → length slots < 2 ^ 32 - 2 → IsFileTable (paths ++ path ∷ []) (slots ++ s ∷ [])
file_table-push paths slots path s is fresh text new few =
    let n : length (table_of paths slots) ≡ 1 + length slots = omega (arith, length-table paths slots is.each) in
    record {
      each = omega (arith, is.each, length-append paths (path ∷ []), length-append slots (s ∷ []));
      numbered = numbered-push paths slots 1 path s is.each is.numbered (rw n at new);
      few = omega (arith, few, length-append slots (s ∷ []));
      once = once-push paths slots path is fresh;
      text = text-push paths path is.text text;
    }

any-from : (path : List ℕ) (paths : List (List ℕ)) (slots : List Slot) → length slots ≡ length paths
    → found_at path (entries_of paths slots) ≡ None → list_any (bytes_eq path) paths ≡ false
unfolding found_at
any-from path [] slots each h = refl
any-from path (p ∷ paths) [] each h = absurd (omega (arith, each))
any-from path (p ∷ paths) (s ∷ slots) each h =
    let k : cond (bytes_eq path p) (Some (found_of s)) (found_at path (entries_of paths slots)) ≡ None = h in
    elim (cases_Bool (bytes_eq path p)) [
      | inl same ↦ absurd (let e : ◌≡◌ {A = Option Found} (Some (found_of s)) None = rw same at k in cc)
      | inr other ↦ rw other (any-from path paths slots (omega (arith, each)) (rw other at k))
    ]

-- a path that has no number is none of the paths
pub none-any : (path : List ℕ) (paths : List (List ℕ)) (slots : List Slot) → length slots ≡ length paths
    → found_at path (table_of paths slots) ≡ None → list_any (bytes_eq path) paths ≡ false
unfolding found_at
none-any path paths slots each h =
    let k : cond (bytes_eq path lines_path) (Some Lines) (found_at path (entries_of paths slots)) ≡ None = h in
    elim (cases_Bool (bytes_eq path lines_path)) [
      | inl same ↦ absurd (let e : ◌≡◌ {A = Option Found} (Some Lines) None = rw same at k in cc)
      | inr other ↦ any-from path paths slots each (rw other at k)
    ]

-- what was pushed, by the new fields
pub table-pushed : (paths paths' : List (List ℕ)) (slots slots' : List Slot) (path : List ℕ) (s : Slot) → IsFileTable paths slots
    → paths' ≡ paths ++ path ∷ [] → slots' ≡ slots ++ s ∷ [] → table_of paths' slots' ≡ numbered path (found_of s) (table_of paths slots)
table-pushed paths paths' slots slots' path s is h k = rw (h, k) (table-push paths slots path s is.each)

pub file_table-pushed : (paths paths' : List (List ℕ)) (slots slots' : List Slot) (path : List ℕ) (s : Slot) → IsFileTable paths slots
    → paths' ≡ paths ++ path ∷ [] → slots' ≡ slots ++ s ∷ [] → found_at path (table_of paths slots) ≡ None → is_utf8 path ≡ true
    → IsNumbered (length (table_of paths slots)) path s → length slots < 2 ^ 32 - 2 → IsFileTable paths' slots'
file_table-pushed paths paths' slots slots' path s is h k fresh text new few = rw (h, k) (file_table-push paths slots path s is fresh text new few)
