-- The lists in a file, one after another, and the edits of files.
use Rattle.std.proofs.Common.{◌≡◌, ℕ, zero, suc, ◌+◌, ◌<◌, ◌≤◌, Bool, true, List, [], ◌∷◌, ◌++◌, length, get_or, take, drop, Result, Ok, Err, inl, inr, refl, sym, ap, ◌∙◌, arith}
use Rattle.std.specs.Prelude.{◌==◌, if◌then◌else◌, nat_lt, OnOk}
use Rattle.std.specs.List.{flat_map, insert}
use Rattle.std.specs.List.Sorted.{IsNonDecreasingBy}
use Rattle.std.specs.Option.{option_map_or}
use Rattle.std.proofs.lemmas.Bool.{cases_Bool, eq-eqb, ltb-true, ltb-false}
use Rattle.std.proofs.lemmas.List.{at_drop_more, at_drop_all}
use Rattle.std.proofs.lemmas.List.Sorted.{IsNonDecreasingBy-insert, IsNonDecreasingBy-short}
use Rattle.std.proofs.lemmas.List.Sums.{prefix_len-le-length, prefix_len_passes, prefix_len_stops}
use Rattle.std.proofs.lemmas.Option.{slice_get-get_or}
use Rattle.cs_base.specs.declared.positions.Part.{Part}
use Rattle.cs_base.specs.Edit.{Edit, edit}
use Rattle.cs_base.specs.Token.{Token}
use Rattle.edited_files.specs.Edited.{with_edit, with_each}
use Rattle.edited_files.proofs.EditLemmas.{with_each-append, with_each-one}
use Rattle.analysis.specs.Below.source_files.Files.{Table, Entry, Absent, entry}
use Rattle.analysis.specs.Below.source_files.KeptFiles.{KeptValue, kept_at}
use Rattle.analysis.specs.Analysis.{AnalysisValue}
use Rattle.template_rules.specs.declared.file_lists.FoundList.{FoundList}
use Rattle.template_rules.specs.FileLists.{all_found, begin_of, begins_at, place_for, marks_in, with_list, with_lists, item_between, items_of, new_bytes, edit_for, edit_in, edits_from, edits_of}
use Rattle.template_rules.proofs.EditLemmas.{edit_for-some}
use Rattle.template_rules.proofs.StepLemmas.{flat_map-more}

-- ---- lists of a file

pub with_lists-append : (xs ys lists : List (List ℕ)) → with_lists (xs ++ ys) lists ≡ with_lists ys (with_lists xs lists)
unfolding with_lists
with_lists-append [] ys lists = refl
with_lists-append (l ∷ xs) ys lists = with_lists-append xs ys (with_list l lists)

pub with_one : (l : List ℕ) (lists : List (List ℕ)) → with_lists (l ∷ []) lists ≡ with_list l lists
unfolding with_lists
with_one l lists = refl

pub with_none : (lists : List (List ℕ)) → with_lists [] lists ≡ lists
unfolding with_lists
with_none lists = refl

-- a list that stands in the file is put
pub put_told : {X E : Type 0} (file : ℕ) (f : FoundList) (before now : List (List ℕ)) (l : List ℕ) (r : Result X E) → f.file ≡ file → l ≡ f.marks
    → OnOk r (now ≡ with_list l before) → OnOk r (now ≡ with_lists (marks_in file f) before)
put_told file f before now l (Ok x) same is put =
    let here : (f.file == file) ≡ true = eq-eqb f.file file same in
    put ∙ ap (λ (m : List ℕ). with_list m before) is ∙ sym (with_one f.marks before)
    ∙ ap (λ (b : Bool). with_lists (if b then f.marks ∷ [] else []) before) (sym here)
put_told file f before now l (Err e) same is put = tt

-- one element more
pub lists_next : {X : Type 0} (f : X → List (List ℕ)) (xs : List X) (k : ℕ) (x : X) (first before now : List (List ℕ)) → k < length xs → x ≡ get_or xs k x
    → before ≡ with_lists (flat_map f (take k xs)) first → now ≡ with_lists (f x) before → now ≡ with_lists (flat_map f (take (k + 1) xs)) first
lists_next f xs k x first before now h is so_far here =
    rw (flat_map-more f xs k x h is, with_lists-append (flat_map f (take k xs)) (f x) first, ← so_far) here

-- ---- lists stand in the order in which they begin

module _ (l : List ℕ) (lists : List (List ℕ)) (rising : IsNonDecreasingBy begin_of lists) where
  abbrev starts : List ℕ → Bool
  starts m = nat_lt (begin_of m) (begin_of l)

  abbrev place : ℕ
  place = place_for (begin_of l) lists

  put_rises : IsNonDecreasingBy begin_of (insert lists place l)
  put_rises =
      IsNonDecreasingBy-insert begin_of lists place l rising (prefix_len-le-length starts lists)
      (λ j d less. let lower = ltb-true (begin_of (get_or lists j d)) (begin_of l) (prefix_len_passes starts lists j d less) in omega (arith, lower))
      (λ j d on within.
      let stop = ltb-false (begin_of (get_or lists place d)) (begin_of l) (prefix_len_stops starts lists d (omega (arith, on, within))) in
      let up = rising place j d on within in
      omega (arith, stop, up))

  pub rises_with : IsNonDecreasingBy begin_of (with_list l lists)
  rises_with = elim (cases_Bool (begins_at (begin_of l) lists place)) [
    | inl there ↦ rw there rising
    | inr new ↦ rw new put_rises
  ]

all_rise : (ls lists : List (List ℕ)) → IsNonDecreasingBy begin_of lists → IsNonDecreasingBy begin_of (with_lists ls lists)
unfolding with_lists
all_rise [] lists rising = rising
all_rise (l ∷ ls) lists rising = all_rise ls (with_list l lists) (rises_with l lists rising)

pub lists_rise : (ls lists : List (List ℕ)) → lists ≡ with_lists ls [] → IsNonDecreasingBy begin_of lists
lists_rise ls lists is = rw is (all_rise ls [] (IsNonDecreasingBy-short begin_of [] (omega arith)))

-- ---- items

module _ (bytes : List ℕ) (toks : List Token) where
  pub items_next : (list : List ℕ) (k : ℕ) (d e : ℕ) → k + 1 < length list
      → items_of bytes toks (drop k list) ≡ item_between bytes toks (get_or list k d) (get_or list (k + 1) e) ∷ items_of bytes toks (drop (k + 1) list)
  items_next [] k d e lt = absurd (omega (arith, lt))
  items_next (x ∷ []) k d e lt = absurd (omega (arith, lt))
  items_next (x ∷ y ∷ list) zero d e lt = refl
  items_next (x ∷ y ∷ list) (suc k) d e lt =
      let on : suc k + 1 ≡ suc (k + 1) = omega arith in
      rw on (items_next (y ∷ list) k d e (omega (arith, lt)))

  pub items_end : (list : List ℕ) (k : ℕ) → length list ≤ k + 1 → items_of bytes toks (drop k list) ≡ []
  items_end [] zero past = refl
  items_end [] (suc k) past = refl
  items_end (x ∷ []) zero past = refl
  items_end (x ∷ y ∷ list) zero past = absurd (omega (arith, past))
  items_end (x ∷ list) (suc k) past = items_end list k (omega (arith, past))

-- ---- edits

module _ (found : List FoundList) (order : List ℕ) where
  edits-more : (table : Table) (k : ℕ) → k < length table
      → edits_from found order k (drop k table)
      ≡ option_map_or (edit_in found order) (kept_at table k) [] ++ edits_from found order (k + 1) (drop (k + 1) table)
  unfolding edits_from
  edits-more table k within =
      let d : Entry = entry [] Absent in
      let there = slice_get-get_or table k d within in
      at_drop_more (edits_from found order k) table k d within ∙ rw there refl

  pub edits_next : (table : Table) (k : ℕ) (before now whole : List Edit) → k < length table
      → with_each (edits_from found order k (drop k table)) before ≡ whole
      → now ≡ with_each (option_map_or (edit_in found order) (kept_at table k) []) before
      → with_each (edits_from found order (k + 1) (drop (k + 1) table)) now ≡ whole
  edits_next table k before now whole within so_far here =
      let one = option_map_or (edit_in found order) (kept_at table k) [] in
      let rest = edits_from found order (k + 1) (drop (k + 1) table) in
      ap (with_each rest) here ∙ sym (with_each-append one rest before)
      ∙ ap (λ (es : List Edit). with_each es before) (sym (edits-more table k within)) ∙ so_far

  pub edits_all : (table : Table) (k : ℕ) (now whole : List Edit) → length table ≤ k
      → with_each (edits_from found order k (drop k table)) now ≡ whole → now ≡ whole
  unfolding edits_from with_each
  edits_all table k now whole past so_far =
      let none : edits_from found order k (drop k table) ≡ [] = at_drop_all (edits_from found order k) table k past in
      rw none at so_far

pub edits_first : (members : List Part) (a : AnalysisValue) (order : List ℕ) (found : List FoundList) (edits : List Edit) → found ≡ all_found members a
    → edits ≡ [] → with_each (edits_from found order 0 (drop 0 a.table)) edits ≡ edits_of members a order
unfolding edits_of
edits_first members a order found edits told none = rw (told, none) refl

-- the edit of a file that has lists is put
pub edit_told : {X E : Type 0} (order : List ℕ) (f : KeptValue) (lists : List (List ℕ)) (before now : List Edit) (r : Result X E) → (lists ≡ [] → ⊥)
    → OnOk r (now ≡ with_edit (edit f.path (new_bytes order lists f) (length lists)) before) → OnOk r (now ≡ with_each (edit_for order f lists) before)
edit_told order f lists before now (Ok x) some put =
    put ∙ sym (with_each-one (edit f.path (new_bytes order lists f) (length lists)) before) ∙ ap (λ (es : List Edit). with_each es before) (sym (edit_for-some order f lists some))
edit_told order f lists before now (Err e) some put = tt
