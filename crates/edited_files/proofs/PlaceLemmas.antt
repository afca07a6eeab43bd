-- Where an edit stands among those of other paths.
use Rattle.std.proofs.Common.{◌≡◌, ◌<◌, ◌+◌, ◌^◌, ℕ, suc, Bool, true, false, List, [], ◌∷◌, length, set, insert, inl, inr, refl, sym, ap, subst, ◌∙◌, arith}
use Rattle.std.specs.Prelude.{IsUtf8, slice_get}
use Rattle.std.specs.List.{prefix_len}
use Rattle.std.specs.Option.{option_map_or}
use Rattle.std.specs.Str.{bytes_eq}
use Rattle.std.proofs.lemmas.Bool.{cases_Bool}
use Rattle.std.proofs.lemmas.List.{length-map, length-set}
use Rattle.cs_base.specs.Edit.{Edit, edit, comes_before, IsKept}
use Rattle.cs_base.proofs.ListLemmas.{prefix_len-cons, prefix_len-stop}
use Rattle.edited_files.specs.declared.text_edits.TextEdit.{TextEdit}
use Rattle.edited_files.specs.Edited.{with_edit}
use Rattle.edited_files.specs.Fields.{edit_in, edits_in}
use Rattle.edited_files.proofs.OrderLemmas.{kept_with, len_with}

-- ---- the place of an edit

abbrev pub is_before : List ℕ → TextEdit → Bool
is_before path e = comes_before e.path path

abbrev pub has_path_at : List TextEdit → ℕ → List ℕ → Bool
has_path_at es k path = option_map_or (λ (e : TextEdit). bytes_eq e.path path) (slice_get es k) false

-- an edit takes the place of that of its path
pub set_in_place : (es : List TextEdit) (x : TextEdit) (n : ℕ) → n ≡ prefix_len (is_before x.path) es → has_path_at es n x.path ≡ true
    → edits_in (set es n x) ≡ with_edit (edit_in x) (edits_in es)
unfolding with_edit
set_in_place [] x n place there = absurd (cc)
set_in_place (e ∷ es) x n place there = elim (cases_Bool (comes_before e.path x.path)) [
  | inl first ↦
      let next : n ≡ suc (prefix_len (is_before x.path) es) = place ∙ prefix_len-cons (is_before x.path) e es first in
      let there' : has_path_at es (prefix_len (is_before x.path) es) x.path ≡ true = rw next at there in
      rw (next, first) (ap (λ (rest : List Edit). edit_in e ∷ rest) (set_in_place es x (prefix_len (is_before x.path) es) refl there'))
  | inr later ↦
      let none : n ≡ 0 = place ∙ prefix_len-stop (is_before x.path) e es later in
      let same : bytes_eq e.path x.path ≡ true = rw none at there in
      rw (none, later, same) refl
]

-- where its path has none, it is put between those before and those behind
pub insert_in_place : (es : List TextEdit) (x : TextEdit) (n : ℕ) → n ≡ prefix_len (is_before x.path) es → has_path_at es n x.path ≡ false
    → edits_in (insert es n x) ≡ with_edit (edit_in x) (edits_in es)
unfolding with_edit
insert_in_place [] x n place there = rw place refl
insert_in_place (e ∷ es) x n place there = elim (cases_Bool (comes_before e.path x.path)) [
  | inl first ↦
      let next : n ≡ suc (prefix_len (is_before x.path) es) = place ∙ prefix_len-cons (is_before x.path) e es first in
      let there' : has_path_at es (prefix_len (is_before x.path) es) x.path ≡ false = rw next at there in
      rw (next, first) (ap (λ (rest : List Edit). edit_in e ∷ rest) (insert_in_place es x (prefix_len (is_before x.path) es) refl there'))
  | inr later ↦
      let none : n ≡ 0 = place ∙ prefix_len-stop (is_before x.path) e es later in
      let other : bytes_eq e.path x.path ≡ false = rw none at there in
      rw (none, later, other) refl
]

-- ---- edits that are made

len_in : (es : List TextEdit) → length (edits_in es) ≡ length es
len_in es = length-map es edit_in

-- the same of an edit of this path and these bytes
pub set_at : (es seen : List TextEdit) (x : TextEdit) (n : ℕ) (path bytes : List ℕ) → seen ≡ es → x.path ≡ path → x.bytes.items ≡ bytes
    → n ≡ prefix_len (is_before path) seen → has_path_at seen n path ≡ true → edits_in (set es n x) ≡ with_edit (edit path bytes x.count) (edits_in es)
set_at es seen x n path bytes same of with place there =
    let place' : n ≡ prefix_len (is_before x.path) es = rw of (rw same at place) in
    let there' : has_path_at es n x.path ≡ true = rw of (rw same at there) in
    let e : edit_in x ≡ edit path bytes x.count = rw (of, with) refl in
    set_in_place es x n place' there' ∙ ap (λ (d : Edit). with_edit d (edits_in es)) e

pub kept_set : (es seen : List TextEdit) (x : TextEdit) (n : ℕ) (path bytes : List ℕ) → seen ≡ es → x.path ≡ path → x.bytes.items ≡ bytes
    → n ≡ prefix_len (is_before path) seen → has_path_at seen n path ≡ true → IsKept (edits_in es) → IsUtf8 path → IsKept (edits_in (set es n x))
kept_set es seen x n path bytes same of with place there kept text =
    let is = set_at es seen x n path bytes same of with place there in
    let len : length (edits_in (set es n x)) ≡ length (edits_in es) = len_in (set es n x) ∙ length-set es n x ∙ sym (len_in es) in
    let few : length (with_edit (edit path bytes x.count) (edits_in es)) < 2 ^ 32 = omega (arith, len, ap (λ (ds : List Edit). length ds) is, kept.few) in
    subst IsKept (sym is) (kept_with (edit path bytes x.count) (edits_in es) kept text few)

pub insert_at : (es seen : List TextEdit) (x : TextEdit) (n : ℕ) (path bytes : List ℕ) → seen ≡ es → x.path ≡ path → x.bytes.items ≡ bytes
    → n ≡ prefix_len (is_before path) seen → has_path_at seen n path ≡ false → edits_in (insert es n x) ≡ with_edit (edit path bytes x.count) (edits_in es)
insert_at es seen x n path bytes same of with place there =
    let place' : n ≡ prefix_len (is_before x.path) es = rw of (rw same at place) in
    let there' : has_path_at es n x.path ≡ false = rw of (rw same at there) in
    let e : edit_in x ≡ edit path bytes x.count = rw (of, with) refl in
    insert_in_place es x n place' there' ∙ ap (λ (d : Edit). with_edit d (edits_in es)) e

pub kept_insert : (es seen : List TextEdit) (x : TextEdit) (n : ℕ) (path bytes : List ℕ) → seen ≡ es → x.path ≡ path → x.bytes.items ≡ bytes
    → n ≡ prefix_len (is_before path) seen → has_path_at seen n path ≡ false → IsKept (edits_in es) → IsUtf8 path → length es + 1 < 2 ^ 32
    → IsKept (edits_in (insert es n x))
kept_insert es seen x n path bytes same of with place there kept text few =
    let is = insert_at es seen x n path bytes same of with place there in
    let more = len_with (edit path bytes x.count) (edits_in es) in
    let few' : length (with_edit (edit path bytes x.count) (edits_in es)) < 2 ^ 32 = omega (arith, more, len_in es, few) in
    subst IsKept (sym is) (kept_with (edit path bytes x.count) (edits_in es) kept text few')
