-- The first pseudo file with a text.
use Rattle.std.proofs.Common.{◌≡◌, ℕ, suc, ◌+◌, ◌≤◌, ◌<◌, Bool, true, false, List, [], ◌∷◌, length, position, Option, None, Some, refl, sym, ◌∙◌, ap, subst, arith, slice_get, inl, inr}
use Rattle.std.specs.Prelude.{IfSome}
use Rattle.std.specs.Option.{option_map}
use Rattle.std.specs.List.{position_or_len, list_any}
use Rattle.std.specs.Str.{bytes_eq}
use Rattle.std.proofs.lemmas.Bool.{cases_Bool, and_parts, not-true}
use Rattle.std.proofs.lemmas.Option.{same_Some}
use Rattle.cs_base.proofs.FileMapLemmas.{bytes_eq-equal, bytes_eq-same}
use Rattle.source_files.specs.declared.slot.Slot.{Slot}
use Rattle.source_files.specs.Files.{is_made, made_path, lines_path}
use Rattle.source_files.specs.Slots.{found_of}
use Rattle.source_files.specs.FileTableFields.{entries_of, table_of, IsFileTable}
use Rattle.source_files.proofs.FileTableLemmas.{path-from, position-is, position-none}

abbrev holds : List ℕ → Slot → Bool
holds text s = is_made text (found_of s)

made-first : (text : List ℕ) (paths : List (List ℕ)) (slots : List Slot) → length slots ≡ length paths → position_or_len (holds text) slots < length slots
    → made_path text (entries_of paths slots) ≡ slice_get paths (position_or_len (holds text) slots)
unfolding made_path
made-first text [] [] each h = absurd (omega (arith, h))
made-first text [] (s ∷ slots) each h = absurd (omega (arith, each))
made-first text (p ∷ paths) [] each h = absurd (omega (arith, each))
made-first text (p ∷ paths) (s ∷ slots) each h = elim (cases_Bool (is_made text (found_of s))) [
  | inl same ↦ rw same refl
  | inr other ↦
      let l : 1 + position_or_len (holds text) slots < length (s ∷ slots) = rw other at h in
      let n : 1 + position_or_len (holds text) slots ≡ suc (position_or_len (holds text) slots) = omega arith in
      rw other (rw n (made-first text paths slots (omega (arith, each)) (omega (arith, l))))
]

made-none : (text : List ℕ) (paths : List (List ℕ)) (slots : List Slot) → length slots ≤ position_or_len (holds text) slots
    → made_path text (entries_of paths slots) ≡ None
unfolding made_path
made-none text [] slots h = refl
made-none text (p ∷ paths) [] h = refl
made-none text (p ∷ paths) (s ∷ slots) h = elim (cases_Bool (is_made text (found_of s))) [
  | inl same ↦ absurd (let l : length (s ∷ slots) ≤ 0 = rw same at h in omega (arith, l))
  | inr other ↦
      let l : length (s ∷ slots) ≤ 1 + position_or_len (holds text) slots = rw other at h in
      rw other (made-none text paths slots (omega (arith, l)))
]

-- by the place of its slot
pub made-at : (text : List ℕ) (paths : List (List ℕ)) (slots : List Slot) (i : ℕ) → length slots ≡ length paths → position (holds text) slots ≡ Some i
    → option_map (λ e. e.path) (slice_get (table_of paths slots) (i + 1)) ≡ made_path text (table_of paths slots)
unfolding made_path
made-at text paths slots i each at =
    let p : (position_or_len (holds text) slots ≡ i) × (i < length slots) = position-is (holds text) slots i at in
    let within : position_or_len (holds text) slots < length slots = omega (arith, p.0, p.1) in
    let one : i + 1 ≡ suc i = omega arith in
    rw one (path-from paths slots i each ∙ ap (slice_get paths) (sym p.0) ∙ sym (made-first text paths slots each within))

pub made-nowhere : (text : List ℕ) (paths : List (List ℕ)) (slots : List Slot) → position (holds text) slots ≡ None → made_path text (table_of paths slots) ≡ None
unfolding made_path
made-nowhere text paths slots none = made-none text paths slots (position-none (holds text) slots none)

-- ---- its path is not that of the pseudo file of lines

other_than : (path other : List ℕ) → bytes_eq other path ≡ false → bytes_eq path other ≡ false
other_than path other h = elim (cases_Bool (bytes_eq path other)) [
  | inl same ↦ absurd (let e : bytes_eq other other ≡ false = subst (λ (p : List ℕ). bytes_eq other p ≡ false) (bytes_eq-equal path other same) h in
      let f : bytes_eq other other ≡ true = bytes_eq-same other in cc)
  | inr differs ↦ differs
]

among-others : (text path first : List ℕ) (paths : List (List ℕ)) (slots : List Slot) → list_any (bytes_eq first) paths ≡ false
    → made_path text (entries_of paths slots) ≡ Some path → bytes_eq path first ≡ false
unfolding made_path
among-others text path first [] slots h e = absurd (cc)
among-others text path first (p ∷ paths) [] h e = absurd (cc)
among-others text path first (p ∷ paths) (s ∷ slots) h e = elim (cases_Bool (bytes_eq first p)) [
  | inl same ↦ absurd (let k : true ≡ false = rw same at h in cc)
  | inr other ↦
      let rest : list_any (bytes_eq first) paths ≡ false = rw other at h in
      elim (cases_Bool (is_made text (found_of s))) [
        | inl here ↦
            let is : ◌≡◌ {A = Option (List ℕ)} (Some p) (Some path) = rw here at e in
            subst (λ (q : List ℕ). bytes_eq q first ≡ false) (same_Some p path is) (other_than p first other)
        | inr later ↦ among-others text path first paths slots rest (rw later at e)
      ]
]

other_by : (first : List ℕ) (o : Option (List ℕ)) → ((path : List ℕ) → o ≡ Some path → bytes_eq path first ≡ false) → IfSome o (λ path. bytes_eq path first ≡ false)
other_by first None h = tt
other_by first (Some path) h = h path refl

pub made-other : (text : List ℕ) (paths : List (List ℕ)) (slots : List Slot) → IsFileTable paths slots
    → IfSome (made_path text (table_of paths slots)) (λ path. bytes_eq path lines_path ≡ false)
unfolding made_path
made-other text paths slots is =
    let once = is.once in
    let none : list_any (bytes_eq lines_path) paths ≡ false = not-true _ ((and_parts _ _ once).0) in
    other_by lines_path (made_path text (entries_of paths slots)) (λ path e. among-others text path lines_path paths slots none e)
