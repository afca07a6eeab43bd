-- The table of files once a kept file has other bytes.
use Rattle.std.proofs.Common.{◌≡◌, ℕ, zero, suc, ◌+◌, ◌-◌, ◌≤◌, ◌<◌, ◌^◌, true, false, Bool, List, [], ◌∷◌, length, Option, Some, None, refl, sym, ◌∙◌, ap, subst, arith, get_or, set, slice_get, nat_lt, ltb-true, ltb-false}
use Rattle.std.specs.Prelude.{IfSome, IsSome, OnOk, OnErr, Result, Ok, Err}
use Rattle.std.specs.Option.{option_map, option_and_then}
use Rattle.std.proofs.lemmas.Bool.{lt-ltb, le-ltb}
use Rattle.std.proofs.lemmas.List.{length-set, set-get_or}
use Rattle.lexer.specs.FileText.{LexFault, file_text}
use Rattle.source_files.specs.Limits.{the_limits}
use Rattle.std.proofs.lemmas.Option.{slice_get_past, slice_get-get_or}
use Rattle.source_files.specs.declared.slot.Slot.{Slot}
use Rattle.source_files.specs.declared.slot.Slot.TheVariants as slot
use Rattle.source_files.specs.Files.{Found, Lines, Absent, Unopened, Opened, Made, Entry, entry, Table, lines_path, opened_bytes, one_more, more_bytes, files_opened, bytes_opened}
use Rattle.source_files.specs.Slots.{found_of, kept_of, IsNumbered, slot_with, number_in}
use Rattle.source_files.specs.KeptFiles.{kept_at}
use Rattle.source_files.specs.FileTableFields.{entries_of, table_of, AreNumbered, IsFileTable}
use Rattle.source_files.specs.Edited.{with_bytes, edited, edited_as, edited_of, TooManyBytes, NoText, size_at, bytes_with}
use Rattle.source_files.specs.CacheFields.{IsCache}
use Rattle.source_files.proofs.FileTableLemmas.{kept_at-slot}

-- ---- one slot

found-with : (bytes : List ℕ) (s : Slot) → found_of (slot_with bytes s) ≡ with_bytes bytes (found_of s)
found-with bytes slot.Absent = refl
found-with bytes (slot.Unopened b) = refl
found-with bytes (slot.Opened f) = refl
found-with bytes (slot.Made f) = refl

numbered-with : (bytes path : List ℕ) (number : ℕ) (s : Slot) → IsNumbered number path s → IsNumbered number path (slot_with bytes s)
numbered-with bytes path number slot.Absent is = is
numbered-with bytes path number (slot.Unopened b) is = is
numbered-with bytes path number (slot.Opened f) is = is
numbered-with bytes path number (slot.Made f) is = is

number-in : (number : ℕ) (path : List ℕ) (s : Slot) → IsNumbered number path s → IsSome (kept_of s) → number_in s ≡ number
number-in number path slot.Absent is some = absurd cc
number-in number path (slot.Unopened b) is some = absurd cc
number-in number path (slot.Opened f) is some = is.0
number-in number path (slot.Made f) is some = is.0

-- ---- the place of a number

numbered-at : (paths : List (List ℕ)) (slots : List Slot) (k i : ℕ) (d : Slot) → length slots ≡ length paths → AreNumbered k paths slots → i < length slots
    → (path : List ℕ) × IsNumbered (k + i) path (get_or slots i d)
numbered-at [] [] k i d each h within = absurd (omega arith)
numbered-at [] (s ∷ slots) k i d each h within = absurd (omega arith)
numbered-at (p ∷ paths) [] k i d each h within = absurd (omega arith)
numbered-at (p ∷ paths) (s ∷ slots) k zero d each h within =
    let same : k + 0 ≡ k = omega arith in
    (p, rw same h.0)
numbered-at (p ∷ paths) (s ∷ slots) k (suc i) d each h within =
    let on : k + suc i ≡ (k + 1) + i = omega arith in
    rw on (numbered-at paths slots (k + 1) i d (omega arith) h.1 (omega arith))

-- What is known where a file is kept under a number.
pub record KeptPlace (slots : List Slot) (number : ℕ) : Type 0 where
  pub some : 0 < number
  pub within : number - 1 < length slots
  pub kept : (d : Slot) → IsSome (kept_of (get_or slots (number - 1) d))

pub kept-place : (paths : List (List ℕ)) (slots : List Slot) (number : ℕ) → IsFileTable paths slots → IsSome (kept_at (table_of paths slots) number)
    → KeptPlace slots number
kept-place paths slots zero is some = absurd (let none : false ≡ true = some in cc)
kept-place paths slots (suc i) is some =
    let same : suc i - 1 ≡ i = omega arith in
    let at : kept_at (table_of paths slots) (suc i) ≡ option_and_then kept_of (slice_get slots i) =
    rw same at (kept_at-slot paths slots (suc i) is (λ (e : suc i ≡ 0). absurd (omega arith))) in
    let there : IsSome (option_and_then kept_of (slice_get slots i)) = rw (← at) some in
    let within : i < length slots = by_test (nat_lt i (length slots)) refl there in
    record {
      some = omega arith;
      within = rw same within;
      kept = λ d. rw same (rw (slice_get-get_or slots i d within) at there);
    }
  where
    by_test : (b : Bool) → nat_lt i (length slots) ≡ b → IsSome (option_and_then kept_of (slice_get slots i)) → i < length slots
    by_test true l there = ltb-true i (length slots) l
    by_test false l there =
        let none : slice_get slots i ≡ None = slice_get_past slots i (ltb-false i (length slots) l) in
        absurd (let wrong : false ≡ true = rw none at there in cc)

-- ---- the table

entries-edited : (paths : List (List ℕ)) (slots : List Slot) (i : ℕ) (bytes : List ℕ) (s : Slot) → length slots ≡ length paths → i < length slots
    → s ≡ get_or slots i s → entries_of paths (set slots i (slot_with bytes s)) ≡ edited i bytes (entries_of paths slots)
unfolding edited
entries-edited [] [] i bytes s each within same = absurd (omega arith)
entries-edited [] (t ∷ slots) i bytes s each within same = absurd (omega arith)
entries-edited (p ∷ paths) [] i bytes s each within same = absurd (omega arith)
entries-edited (p ∷ paths) (t ∷ slots) zero bytes s each within same =
    let found : found_of (slot_with bytes s) ≡ with_bytes bytes (found_of t) = found-with bytes s ∙ ap (λ (u : Slot). with_bytes bytes (found_of u)) same in
    ap (λ (f : Found). entry p f ∷ entries_of paths slots) found
entries-edited (p ∷ paths) (t ∷ slots) (suc i) bytes s each within same =
    ap (λ (es : Table). entry p (found_of t) ∷ es) (entries-edited paths slots i bytes s (omega arith) (omega arith) same)

pub table-edited : (paths : List (List ℕ)) (slots : List Slot) (number : ℕ) (bytes : List ℕ) (s : Slot) → IsFileTable paths slots → 0 < number
    → number - 1 < length slots → s ≡ get_or slots (number - 1) s
    → table_of paths (set slots (number - 1) (slot_with bytes s)) ≡ edited number bytes (table_of paths slots)
unfolding edited
table-edited paths slots zero bytes s is some within same = absurd (omega arith)
table-edited paths slots (suc i) bytes s is some within same =
    let before : suc i - 1 ≡ i = omega arith in
    let at : s ≡ get_or slots i s = rw before at same in
    rw before (ap (λ (es : Table). entry lines_path Lines ∷ es) (entries-edited paths slots i bytes s is.each (omega arith) at))

numbered-set : (paths : List (List ℕ)) (slots : List Slot) (k i : ℕ) (bytes : List ℕ) (s : Slot) → s ≡ get_or slots i s → AreNumbered k paths slots
    → AreNumbered k paths (set slots i (slot_with bytes s))
numbered-set [] slots k i bytes s same h = tt
numbered-set (p ∷ paths) [] k i bytes s same h = tt
numbered-set (p ∷ paths) (t ∷ slots) k zero bytes s same h =
    let at : IsNumbered k p s = rw same h.0 in
    (numbered-with bytes p k s at, h.1)
numbered-set (p ∷ paths) (t ∷ slots) k (suc i) bytes s same h = (h.0, numbered-set paths slots (k + 1) i bytes s same h.1)

pub file_table-edited : (paths : List (List ℕ)) (slots : List Slot) (i : ℕ) (bytes : List ℕ) (s : Slot) → s ≡ get_or slots i s → IsFileTable paths slots
    → IsFileTable paths (set slots i (slot_with bytes s))
file_table-edited paths slots i bytes s same is = record {
  each = length-set slots i (slot_with bytes s) ∙ is.each;
  numbered = numbered-set paths slots 1 i bytes s same is.numbered;
  few = omega (arith, is.few, length-set slots i (slot_with bytes s));
  once = is.once;
  text = is.text;
}

-- ---- counts

more-at_least : (o : Option (List ℕ)) (count : ℕ) → count ≤ more_bytes o count
more-at_least None count = omega arith
more-at_least (Some bytes) count = omega arith

some-within : (o : Option ℕ) (m n : ℕ) → m ≤ n → IfSome o (λ size. size ≤ m) → IfSome o (λ size. size ≤ n)
some-within None m n l h = tt
some-within (Some size) m n l h = omega arith

-- a file has no more bytes than all have
pub size-within : (table : Table) (number : ℕ) → IfSome (size_at table number) (λ size. size ≤ bytes_opened table)
unfolding bytes_opened
size-within [] number = tt
size-within (e ∷ table) zero = first e.found
  where
    first : (found : Found) → IfSome (option_map length (opened_bytes found)) (λ size. size ≤ more_bytes (opened_bytes found) (bytes_opened table))
    first Lines = tt
    first Absent = tt
    first (Unopened b) = tt
    first (Opened b) = omega arith
    first (Made b) = tt
size-within (e ∷ table) (suc number) =
    some-within (size_at table number) (bytes_opened table) (more_bytes (opened_bytes e.found) (bytes_opened table))
    (more-at_least (opened_bytes e.found) (bytes_opened table)) (size-within table number)

more-with : (o : Option (List ℕ)) (count size : ℕ) (old : Option ℕ) → IfSome old (λ n. n ≤ count)
    → more_bytes o (bytes_with count old size) ≡ bytes_with (more_bytes o count) old size
more-with None count size old within = refl
more-with (Some bytes) count size None within = refl
more-with (Some bytes) count size (Some n) within = omega arith

pub bytes-edited : (number : ℕ) (bytes : List ℕ) (table : Table)
    → bytes_opened (edited number bytes table) ≡ bytes_with (bytes_opened table) (size_at table number) (length bytes)
unfolding edited bytes_opened
bytes-edited number bytes [] = refl
bytes-edited zero bytes (e ∷ table) = first e.found
  where
    first : (found : Found) → more_bytes (opened_bytes (with_bytes bytes found)) (bytes_opened table)
        ≡ bytes_with (more_bytes (opened_bytes found) (bytes_opened table)) (option_map length (opened_bytes found)) (length bytes)
    first Lines = refl
    first Absent = refl
    first (Unopened b) = refl
    first (Opened b) = omega arith
    first (Made b) = refl
bytes-edited (suc number) bytes (e ∷ table) =
    ap (more_bytes (opened_bytes e.found)) (bytes-edited number bytes table)
    ∙ more-with (opened_bytes e.found) (bytes_opened table) (length bytes) (size_at table number) (size-within table number)

files-edited : (number : ℕ) (bytes : List ℕ) (table : Table) → files_opened (edited number bytes table) ≡ files_opened table
unfolding edited files_opened
files-edited number bytes [] = refl
files-edited zero bytes (e ∷ table) = first e.found
  where
    first : (found : Found) → one_more (opened_bytes (with_bytes bytes found)) (files_opened table) ≡ one_more (opened_bytes found) (files_opened table)
    first Lines = refl
    first Absent = refl
    first (Unopened b) = refl
    first (Opened b) = refl
    first (Made b) = refl
files-edited (suc number) bytes (e ∷ table) = ap (one_more (opened_bytes e.found)) (files-edited number bytes table)

pub cache-edited : (old new : Table) (number : ℕ) (bytes : List ℕ) (files all all' toks : ℕ) → IsCache old files all toks → new ≡ edited number bytes old
    → all' ≡ bytes_with all (size_at old number) (length bytes) → all' ≤ 2 ^ 28 → IsCache new files all' toks
cache-edited old new number bytes files all all' toks is same with few =
    let measured : bytes_with all (size_at old number) (length bytes) ≡ bytes_opened (edited number bytes old) =
    ap (λ (n : ℕ). bytes_with n (size_at old number) (length bytes)) is.measured ∙ sym (bytes-edited number bytes old) in
    rw same
    (record {
      counted = is.counted ∙ sym (files-edited number bytes old);
      measured = with ∙ measured;
      few_files = is.few_files;
      few_bytes = few;
      few_toks = is.few_toks;
    })

-- ---- the step of the table

-- What a slot is behind a try to edit it: edited, or as it was.
pub file_table-after : {X E : Type 0} (r : Result X E) (paths : List (List ℕ)) (slots : List Slot) (i : ℕ) (bytes : List ℕ) (old new : Slot)
    → old ≡ get_or slots i old → OnOk r (new ≡ slot_with bytes old) → OnErr r (new ≡ old) → IsFileTable paths slots → IsFileTable paths (set slots i new)
file_table-after (Ok x) paths slots i bytes old new same h k is = rw h (file_table-edited paths slots i bytes old same is)
file_table-after (Err e) paths slots i bytes old new same h k is =
    let stays : set slots i old ≡ slots = subst (λ (s : Slot). set slots i s ≡ slots) (sym same) (set-get_or slots i old) in
    rw (k, stays) is

-- the number of the file that is kept there
pub kept-number : (paths : List (List ℕ)) (slots : List Slot) (number : ℕ) (s : Slot) → IsFileTable paths slots → KeptPlace slots number
    → s ≡ get_or slots (number - 1) s → number_in s ≡ number
kept-number paths slots number s is place same =
    let at = numbered-at paths slots 1 (number - 1) s is.each is.numbered place.within in
    let on : 1 + (number - 1) ≡ number = omega (arith, place.some) in
    let numbered : IsNumbered number at.0 s = subst (λ (t : Slot). IsNumbered number at.0 t) (sym same) (subst (λ (n : ℕ). IsNumbered n at.0 (get_or slots (number - 1) s)) on at.1) in
    number-in number at.0 s numbered (subst (λ (t : Slot). IsSome (kept_of t)) (sym same) (place.kept s))

size-from : (paths : List (List ℕ)) (slots : List Slot) (i : ℕ) (d : Slot) → length slots ≡ length paths → i < length slots
    → option_and_then (λ (e : Entry). opened_bytes e.found) (slice_get (entries_of paths slots) i) ≡ opened_bytes (found_of (get_or slots i d))
size-from [] [] i d each within = absurd (omega arith)
size-from [] (s ∷ slots) i d each within = absurd (omega arith)
size-from (p ∷ paths) [] i d each within = absurd (omega arith)
size-from (p ∷ paths) (s ∷ slots) zero d each within = refl
size-from (p ∷ paths) (s ∷ slots) (suc i) d each within = size-from paths slots i d (omega arith) (omega arith)

pub size-slot : (paths : List (List ℕ)) (slots : List Slot) (number : ℕ) (s : Slot) → IsFileTable paths slots → KeptPlace slots number
    → s ≡ get_or slots (number - 1) s → option_map length (opened_bytes (found_of s)) ≡ size_at (table_of paths slots) number
size-slot paths slots zero s is place same = absurd (omega (arith, place.some))
size-slot paths slots (suc i) s is place same =
    let before : suc i - 1 ≡ i = omega arith in
    let at : s ≡ get_or slots i s = rw before at same in
    ap (λ (t : Slot). option_map length (opened_bytes (found_of t))) at
    ∙ ap (option_map length) (sym (size-from paths slots i s is.each (omega (arith, place.within))))

-- ---- the step of the cache

pub edit-much : (table : Table) (number : ℕ) (bytes : List ℕ) (all : ℕ) → all ≡ bytes_with (bytes_opened table) (size_at table number) (length bytes) → 2 ^ 28 < all
    → edited_of number bytes table ≡ Err TooManyBytes
edit-much table number bytes all with much =
    let more : nat_lt the_limits.all_bytes (bytes_opened (edited number bytes table)) ≡ true =
    lt-ltb (2 ^ 28) (bytes_opened (edited number bytes table)) (rw (bytes-edited number bytes table) (rw with at much)) in
    rw more refl

pub edit-fits : (table : Table) (number : ℕ) (bytes : List ℕ) (all : ℕ) → all ≡ bytes_with (bytes_opened table) (size_at table number) (length bytes) → all ≤ 2 ^ 28
    → edited_of number bytes table ≡ edited_as (edited number bytes table) (file_text number bytes)
edit-fits table number bytes all with few =
    let fits : nat_lt the_limits.all_bytes (bytes_opened (edited number bytes table)) ≡ false =
    le-ltb (2 ^ 28) (bytes_opened (edited number bytes table)) (rw (bytes-edited number bytes table) (rw with at few)) in
    rw fits refl

pub edit-refused : (o : Option LexFault) (table : Table) (number : ℕ) (bytes : List ℕ)
    → edited_of number bytes table ≡ edited_as (edited number bytes table) (file_text number bytes)
    → IfSome o (λ fault. file_text number bytes ≡ Err fault) → IfSome (option_map NoText o) (λ fault. edited_of number bytes table ≡ Err fault)
edit-refused None table number bytes fits h = tt
edit-refused (Some f) table number bytes fits h = fits ∙ ap (edited_as (edited number bytes table)) h
