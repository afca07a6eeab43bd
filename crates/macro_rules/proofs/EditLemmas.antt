-- Items of lists, and edits of files.
use Rattle.std.proofs.Common.{◌≡◌, ℕ, zero, suc, ◌+◌, ◌<◌, ◌≤◌, List, [], ◌∷◌, length, get_or, drop, Some, Result, Ok, Err, refl, sym, ap, ◌∙◌, arith}
use Rattle.std.specs.Prelude.{IsUtf8, OnOk}
use Rattle.std.specs.Option.{option_map_or}
use Rattle.std.specs.Str.{is_utf8}
use Rattle.std.proofs.lemmas.List.{at_drop_all}
use Rattle.std.proofs.lemmas.Str.{IsUtf8-from_is_utf8}
use Rattle.cs_base.specs.declared.positions.Part.{Part}
use Rattle.cs_base.specs.declared.positions.Pos.{Pos}
use Rattle.cs_base.specs.Edit.{Edit, edit}
use Rattle.cs_base.specs.Token.{Token}
use Rattle.cs_base.proofs.ListLemmas.{passes_at}
use Rattle.edited_files.specs.Edited.{with_edit, with_each}
use Rattle.edited_files.proofs.EditLemmas.{with_each-append, with_each-one}
use Rattle.analysis.specs.Below.source_files.Files.{Table}
use Rattle.analysis.specs.Below.source_files.KeptFiles.{KeptValue, kept_at}
use Rattle.analysis.specs.Below.source_files.Tables.{paths_in, AreText}
use Rattle.analysis.specs.Analysis.{AnalysisValue}
use Rattle.analysis.proofs.Below.source_files.KeptLemmas.{kept_path}
use Rattle.macro_rules.specs.Edits.{span_between, spans_of, new_bytes, edit_for, edit_in, edits_of}
use Rattle.macro_rules.specs.Files.{found_from}
use Rattle.macro_rules.specs.Macros.{macro_places, called_places}
use Rattle.macro_rules.proofs.WalkLemmas.{found-more}

-- ---- items

module _ (bytes : List ℕ) (toks : List Token) where
  pub spans_next : (list : List ℕ) (k : ℕ) (d e : ℕ) → k + 1 < length list
      → spans_of bytes toks (drop k list) ≡ span_between bytes toks (get_or list k d) (get_or list (k + 1) e) ∷ spans_of bytes toks (drop (k + 1) list)
  spans_next [] k d e lt = absurd (omega (arith, lt))
  spans_next (x ∷ []) k d e lt = absurd (omega (arith, lt))
  spans_next (x ∷ y ∷ list) zero d e lt = refl
  spans_next (x ∷ y ∷ list) (suc k) d e lt =
      let on : suc k + 1 ≡ suc (k + 1) = omega arith in
      rw on (spans_next (y ∷ list) k d e (omega (arith, lt)))

  pub spans_end : (list : List ℕ) (k : ℕ) → length list ≤ k + 1 → spans_of bytes toks (drop k list) ≡ []
  spans_end [] zero past = refl
  spans_end [] (suc k) past = refl
  spans_end (x ∷ []) zero past = refl
  spans_end (x ∷ y ∷ list) zero past = absurd (omega (arith, past))
  spans_end (x ∷ list) (suc k) past = spans_end list k (omega (arith, past))

-- ---- edits

-- what is found in each file is put
module _ (find : KeptValue → List Edit) where
  pub edits_next : (table : Table) (k : ℕ) (before now whole : List Edit) → k < length table
      → with_each (found_from find k (drop k table)) before ≡ whole
      → now ≡ with_each (option_map_or find (kept_at table k) []) before
      → with_each (found_from find (k + 1) (drop (k + 1) table)) now ≡ whole
  edits_next table k before now whole within so_far here =
      let one = option_map_or find (kept_at table k) [] in
      let rest = found_from find (k + 1) (drop (k + 1) table) in
      ap (with_each rest) here ∙ sym (with_each-append one rest before)
      ∙ ap (λ (es : List Edit). with_each es before) (sym (found-more find table k within)) ∙ so_far

  pub edits_all : (table : Table) (k : ℕ) (now whole : List Edit) → length table ≤ k
      → with_each (found_from find k (drop k table)) now ≡ whole → now ≡ whole
  unfolding found_from with_each
  edits_all table k now whole past so_far =
      let none : found_from find k (drop k table) ≡ [] = at_drop_all (found_from find k) table k past in
      rw none at so_far

pub edit_for-some : (order : List ℕ) (f : KeptValue) (lists : List (List ℕ)) → (lists ≡ [] → ⊥)
    → edit_for order f lists ≡ edit f.path (new_bytes order lists f) (length lists) ∷ []
edit_for-some order f [] some = absurd (some refl)
edit_for-some order f (l ∷ lists) some = refl

pub edit_for-none : (order : List ℕ) (f : KeptValue) (lists : List (List ℕ)) → lists ≡ [] → edit_for order f lists ≡ []
edit_for-none order f lists none = rw none refl

-- ---- the edits of a class

-- the edit of a file that has lists is put
pub edit_told : {X E : Type 0} (order : List ℕ) (f : KeptValue) (lists : List (List ℕ)) (before now : List Edit) (r : Result X E) → (lists ≡ [] → ⊥)
    → OnOk r (now ≡ with_edit (edit f.path (new_bytes order lists f) (length lists)) before) → OnOk r (now ≡ with_each (edit_for order f lists) before)
edit_told order f lists before now (Ok x) some put =
    put ∙ sym (with_each-one (edit f.path (new_bytes order lists f) (length lists)) before) ∙ ap (λ (es : List Edit). with_each es before) (sym (edit_for-some order f lists some))
edit_told order f lists before now (Err e) some put = tt

-- ---- paths

pub kept_text : (table : Table) (n : ℕ) (f : KeptValue) → AreText table → kept_at table n ≡ Some f → IsUtf8 f.path
kept_text table n f texts h = IsUtf8-from_is_utf8 f.path (passes_at is_utf8 (paths_in table) n f.path texts (kept_path table n n f h))

-- ---- all files

pub edits_first : (members : List Part) (a : AnalysisValue) (order : List ℕ) (macros calls : List Pos) (edits : List Edit) → macros ≡ macro_places members a
    → calls ≡ called_places members a → edits ≡ [] → with_each (found_from (edit_in order macros calls) 0 (drop 0 a.table)) edits ≡ edits_of members a order
unfolding edits_of
edits_first members a order macros calls edits told called none = rw (told, called, none) refl
