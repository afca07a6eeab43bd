-- The table of files once a file is opened.
use Rattle.std.proofs.Common.{◌≡◌, ℕ, suc, ◌+◌, ◌<◌, true, false, List, [], ◌∷◌, length, position, Some, refl, sym, ◌∙◌, ap, subst, arith, get_or, set, inl, inr, Result, Ok, Err}
use Rattle.std.specs.Prelude.{OnOk, OnErr}
use Rattle.std.specs.List.{position_or_len}
use Rattle.std.specs.Str.{bytes_eq}
use Rattle.std.proofs.lemmas.Bool.{cases_Bool}
use Rattle.std.proofs.lemmas.List.{length-set}
use Rattle.cs_base.proofs.FileMapLemmas.{bytes_eq-equal}
use Rattle.source_files.specs.declared.slot.Slot.{Slot}
use Rattle.source_files.specs.declared.slot.Slot.TheVariants as slot
use Rattle.source_files.specs.Files.{Found, Lines, Opened, opened, entry, Table, lines_path, found_at}
use Rattle.source_files.specs.Slots.{found_of, IsNumbered, is_unopened, bytes_in, opened_slot}
use Rattle.source_files.specs.FileTableFields.{is_unread, unread_bytes, entries_of, table_of, AreNumbered, IsFileTable, Stands}
use Rattle.source_files.proofs.FileTableLemmas.{position-is, stands-at}

pub unread-slot : (s : Slot) → is_unread (Some (found_of s)) ≡ true → is_unopened s ≡ true
unread-slot slot.Absent h = h
unread-slot (slot.Unopened bytes) h = refl
unread-slot (slot.Opened f) h = h
unread-slot (slot.Made f) h = h

pub unread-bytes : (s : Slot) → is_unopened s ≡ true → unread_bytes (Some (found_of s)) ≡ bytes_in s
unread-bytes slot.Absent h = refl
unread-bytes (slot.Unopened bytes) h = refl
unread-bytes (slot.Opened f) h = refl
unread-bytes (slot.Made f) h = refl

entries-opened : (path bytes : List ℕ) (paths : List (List ℕ)) (slots : List Slot) (s : Slot) → length slots ≡ length paths → found_of s ≡ Opened bytes
    → position_or_len (bytes_eq path) paths < length paths
    → entries_of paths (set slots (position_or_len (bytes_eq path) paths) s) ≡ opened path bytes (entries_of paths slots)
unfolding opened
entries-opened path bytes [] slots s each is h = absurd (omega (arith, h))
entries-opened path bytes (p ∷ paths) [] s each is h = absurd (omega (arith, each))
entries-opened path bytes (p ∷ paths) (t ∷ slots) s each is h = elim (cases_Bool (bytes_eq path p)) [
  | inl same ↦ rw same (ap (λ (q : List ℕ). entry q (found_of s) ∷ entries_of paths slots) (sym (bytes_eq-equal path p same)) ∙ ap (λ (f : Found). entry path f ∷ entries_of paths slots) is)
  | inr other ↦
      let l : 1 + position_or_len (bytes_eq path) paths < length (p ∷ paths) = rw other at h in
      let n : 1 + position_or_len (bytes_eq path) paths ≡ suc (position_or_len (bytes_eq path) paths) = omega arith in
      rw other (rw n (ap (λ (es : Table). entry p (found_of t) ∷ es) (entries-opened path bytes paths slots s (omega (arith, each)) is (omega (arith, l)))))
]

numbered-opened : (paths : List (List ℕ)) (slots : List Slot) (k : ℕ) (path : List ℕ) (s : Slot) → length slots ≡ length paths → AreNumbered k paths slots
    → position_or_len (bytes_eq path) paths < length paths → IsNumbered (k + position_or_len (bytes_eq path) paths) path s
    → AreNumbered k paths (set slots (position_or_len (bytes_eq path) paths) s)
numbered-opened [] slots k path s each h l is = absurd (omega (arith, l))
numbered-opened (p ∷ paths) [] k path s each h l is = absurd (omega (arith, each))
numbered-opened (p ∷ paths) (t ∷ slots) k path s each h l is = elim (cases_Bool (bytes_eq path p)) [
  | inl same ↦
      let n : k + 0 ≡ k = omega arith in
      let at : IsNumbered (k + 0) path s = rw same at is in
      rw same (subst (λ (q : List ℕ). IsNumbered k q s) (bytes_eq-equal path p same) (rw n at at), h.1)
  | inr other ↦
      let m : 1 + position_or_len (bytes_eq path) paths < length (p ∷ paths) = rw other at l in
      let one : 1 + position_or_len (bytes_eq path) paths ≡ suc (position_or_len (bytes_eq path) paths) = omega arith in
      let n : k + suc (position_or_len (bytes_eq path) paths) ≡ (k + 1) + position_or_len (bytes_eq path) paths = omega arith in
      let at : IsNumbered (k + (1 + position_or_len (bytes_eq path) paths)) path s = rw other at is in
      rw other (rw one (h.0, numbered-opened paths slots (k + 1) path s (omega (arith, each)) h.1 (omega (arith, m)) (rw n at (rw one at at))))
]

-- the table behind it, by the place of the path
pub table-opened : (paths : List (List ℕ)) (slots : List Slot) (path bytes : List ℕ) (i : ℕ) (s : Slot) → IsFileTable paths slots → bytes_eq path lines_path ≡ false
    → position (bytes_eq path) paths ≡ Some i → found_of s ≡ Opened bytes → table_of paths (set slots i s) ≡ opened path bytes (table_of paths slots)
unfolding opened
table-opened paths slots path bytes i s is other at found =
    let p : (position_or_len (bytes_eq path) paths ≡ i) × (i < length paths) = position-is (bytes_eq path) paths i at in
    let within : position_or_len (bytes_eq path) paths < length paths = omega (arith, p.0, p.1) in
    rw other (ap (λ (es : Table). entry lines_path Lines ∷ es) (ap (λ (k : ℕ). entries_of paths (set slots k s)) (sym p.0) ∙ entries-opened path bytes paths slots s is.each found within))

pub file_table-opened : (paths : List (List ℕ)) (slots : List Slot) (path : List ℕ) (i : ℕ) (s : Slot) → IsFileTable paths slots
    → position (bytes_eq path) paths ≡ Some i → IsNumbered (i + 1) path s → IsFileTable paths (set slots i s)
file_table-opened paths slots path i s is at number =
    let p : (position_or_len (bytes_eq path) paths ≡ i) × (i < length paths) = position-is (bytes_eq path) paths i at in
    let within : position_or_len (bytes_eq path) paths < length paths = omega (arith, p.0, p.1) in
    let one : i + 1 ≡ 1 + position_or_len (bytes_eq path) paths = omega (arith, p.0) in
    record {
      each = length-set slots i s ∙ is.each;
      numbered = subst (λ (k : ℕ). AreNumbered 1 paths (set slots k s)) p.0 (numbered-opened paths slots 1 path s is.each is.numbered within (rw one at number));
      few = omega (arith, is.few, length-set slots i s);
      once = is.once;
      text = is.text;
    }

-- ---- the step, by the place of the path

-- What is known where the slot at place i is that of a path whose file was not opened.
pub record OpensAt (paths : List (List ℕ)) (slots : List Slot) (path : List ℕ) (i : ℕ) (s : Slot) : Type 0 where
  pub at : position (bytes_eq path) paths ≡ Some i
  pub stands : Stands (table_of paths slots) path (i + 1) s
  pub unopened : is_unopened s ≡ true
  pub bytes : unread_bytes (found_at path (table_of paths slots)) ≡ bytes_in s

pub opens-at : (paths : List (List ℕ)) (slots : List Slot) (path : List ℕ) (i : ℕ) (s : Slot) → IsFileTable paths slots → bytes_eq path lines_path ≡ false
    → position (bytes_eq path) paths ≡ Some i → s ≡ get_or slots i s → is_unread (found_at path (table_of paths slots)) ≡ true → OpensAt paths slots path i s
opens-at paths slots path i s is other at same unread =
    let st : Stands (table_of paths slots) path (i + 1) s = stands-at paths slots path i s is other at same in
    let un : is_unopened s ≡ true = unread-slot s (rw st.found at unread) in
    record { at = at; stands = st; unopened = un; bytes = ap unread_bytes st.found ∙ unread-bytes s un }

-- a slot behind the step, opened or as it was
pub numbered-after : {X E : Type 0} (r : Result X E) (number : ℕ) (path : List ℕ) (old new : Slot) → OnOk r (new ≡ opened_slot number path (bytes_in old))
    → OnErr r (new ≡ old) → IsNumbered number path old → IsNumbered number path new
numbered-after (Ok x) number path old new h k is = rw h (refl, refl)
numbered-after (Err e) number path old new h k is = rw k is

pub opened-after : (paths : List (List ℕ)) (slots : List Slot) (path : List ℕ) (i : ℕ) (s new : Slot) → IsFileTable paths slots → bytes_eq path lines_path ≡ false
    → OpensAt paths slots path i s → new ≡ opened_slot (i + 1) path (bytes_in s)
    → table_of paths (set slots i new) ≡ opened path (unread_bytes (found_at path (table_of paths slots))) (table_of paths slots)
opened-after paths slots path i s new is other o h =
    rw o.bytes (table-opened paths slots path (bytes_in s) i new is other o.at (ap found_of h))

pub on_ok : {X E : Type 0} (P Q : Type 0) (r : Result X E) → OnOk r P → (P → Q) → OnOk r Q
on_ok P Q (Ok x) h f = f h
on_ok P Q (Err e) h f = tt
