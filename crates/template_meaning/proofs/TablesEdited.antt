-- The files behind a new order, told by paths, and by their numbers in a table.
use Rattle.std.proofs.Common.{◌≡◌, ℕ, zero, suc, ◌+◌, true, not, List, [], ◌∷◌, Option, None, Some, refl, sym, ap, ◌∙◌, inl, inr, arith}
use Rattle.std.specs.Prelude.{slice_get}
use Rattle.std.specs.List.{list_any}
use Rattle.std.specs.Option.{option_map, option_and_then}
use Rattle.std.specs.Str.{bytes_eq}
use Rattle.std.proofs.lemmas.Bool.{cases_Bool, and_parts, false≢true}
use Rattle.std.proofs.lemmas.Option.{none-some, same_Some}
use Rattle.cs_base.specs.declared.positions.Part.{Part}
use Rattle.cs_base.proofs.FileMapLemmas.{bytes_eq-equal, bytes_eq-same}
use Rattle.cs_base.proofs.ListLemmas.{any_at}
use Rattle.source_files.specs.Files.{Source, Found, Lines, Absent, Unopened, Opened, Made, Entry, entry, Table, number_of}
use Rattle.source_files.specs.KeptFiles.{KeptValue, kept_at, kept_in, kept_bytes}
use Rattle.source_files.specs.Tables.{HasEachOnce, paths_in}
use Rattle.source_files.proofs.KeptLemmas.{behind_other, path_in}
use Rattle.analysis.specs.Analysis.{AnalysisValue}
use Rattle.analysis.specs.Changed.{Editing, edited_from, edited_table}
use Rattle.analysis.specs.Changed as numbered
use Rattle.list_cuts.specs.Spans.{all_rearranged}
use Rattle.unit_laws.specs.Edited.{Edit, edited_found, edited_entry, edited_files, edited_source}
use Rattle.template_rules.specs.FileLists.{all_found, lists_in}
use Rattle.template_meaning.specs.Editing.{edit_by}
use Rattle.reordered.specs.Reorder.{HoldsLists, AreReordered}
use Rattle.reordered.specs.Reordered.{reordered_bytes}

-- ---- Numbers and paths

once_behind : (e : Entry) (t : Table) → HasEachOnce (e ∷ t) → HasEachOnce t
once_behind e t once = (and_parts (not (list_any (bytes_eq e.path) (paths_in t))) _ once).1

-- a path has the number of its entry
pub number_path : (t : Table) (k : ℕ) (e : Entry) → HasEachOnce t → slice_get t k ≡ Some e → number_of e.path t ≡ k
number_path [] k e once at = absurd (none-some e at)
number_path (x ∷ t) zero e once at =
    let same : bytes_eq e.path x.path ≡ true = ap (λ (y : Entry). bytes_eq e.path y.path) (same_Some x e at) ∙ bytes_eq-same e.path in
    rw same refl
number_path (x ∷ t) (suc k) e once at = elim (cases_Bool (bytes_eq e.path x.path)) [
  | inl same ↦
      let is : e.path ≡ x.path = bytes_eq-equal e.path x.path same in
      let among : list_any (bytes_eq x.path) (paths_in t) ≡ true =
      any_at (bytes_eq x.path) (paths_in t) k e.path (path_in t k e at) (ap (λ (y : List ℕ). bytes_eq x.path y) is ∙ bytes_eq-same x.path) in
      let wrong : not true ≡ true = ap not (sym among) ∙ (and_parts (not (list_any (bytes_eq x.path) (paths_in t))) _ once).0 in
      absurd (false≢true wrong)
  | inr other ↦ behind_other e.path x t other ∙ omega (arith, number_path t k e (once_behind x t once) at)
]

-- an entry with the number of a path has this path
pub number_entry : (t : Table) (path : List ℕ) (e : Entry) → slice_get t (number_of path t) ≡ Some e → path ≡ e.path
number_entry [] path e at = absurd (none-some e at)
number_entry (x ∷ t) path e at = elim (cases_Bool (bytes_eq path x.path)) [
  | inl same ↦
      let here : number_of path (x ∷ t) ≡ 0 = rw same refl in
      let is : Some x ≡ Some e = ap (λ (k : ℕ). slice_get (x ∷ t) k) (sym here) ∙ at in
      bytes_eq-equal path x.path same ∙ ap (λ (y : Entry). y.path) (same_Some x e is)
  | inr other ↦
      let there : number_of path (x ∷ t) ≡ suc (number_of path t) = behind_other path x t other ∙ omega arith in
      number_entry t path e (ap (λ (k : ℕ). slice_get (x ∷ t) k) (sym there) ∙ at)
]

-- ---- Tables

same_found : (f g : List ℕ → List ℕ) (x : Found) → ((bytes : List ℕ) → f bytes ≡ g bytes) → edited_found f x ≡ numbered.edited_found g x
same_found f g Lines same = refl
same_found f g Absent same = refl
same_found f g (Unopened bytes) same = ap (λ (b : List ℕ). Unopened b) (same bytes)
same_found f g (Opened bytes) same = ap (λ (b : List ℕ). Opened b) (same bytes)
same_found f g (Made bytes) same = refl

same_from : (edit : Edit) (f : Editing) (n : ℕ) (t : Table) → ((k : ℕ) (e : Entry) → slice_get t k ≡ Some e → (bytes : List ℕ) → edit e.path bytes ≡ f (n + k) bytes)
    → edited_files edit t ≡ edited_from f n t
same_from edit f n [] same = refl
same_from edit f n (e ∷ t) same =
    let here : edited_entry edit e ≡ entry e.path (numbered.edited_found (f n) e.found) =
    ap (λ (x : Found). entry e.path x) (same_found (edit e.path) (f n) e.found (λ bytes. same 0 e refl bytes ∙ ap (λ (k : ℕ). f k bytes) (omega arith))) in
    ap (λ (x : Entry). x ∷ edited_files edit t) here
    ∙ ap (λ (es : Table). entry e.path (numbered.edited_found (f n) e.found) ∷ es)
    (same_from edit f (suc n) t (λ k x at bytes. same (suc k) x at bytes ∙ ap (λ (j : ℕ). f j bytes) (omega arith)))

pub table_edited : (members : List Part) (order : List ℕ) (a : AnalysisValue) → HasEachOnce a.table
    → edited_files (edit_by members order a) a.table ≡ edited_table (reordered_bytes members order a) a.table
table_edited members order a once =
    same_from (edit_by members order a) (reordered_bytes members order a) 0 a.table
    (λ k e at bytes. ap (λ (n : ℕ). reordered_bytes members order a n bytes) (number_path a.table k e once at ∙ omega arith))

-- ---- Sources

pub record IsEntry (t : Table) (number : ℕ) (f : KeptValue) : Type 0 where
  pub one : Entry
  pub there : slice_get t number ≡ Some one
  pub path : one.path ≡ f.path
  pub same : f.number ≡ number

entry_kept : (number : ℕ) (t : Table) (o : Option Entry) (f : KeptValue) → slice_get t number ≡ o → option_and_then (kept_in number) o ≡ Some f → IsEntry t number f
entry_kept number t None f at kept = absurd (none-some f kept)
entry_kept number t (Some e) f at kept = by (kept_bytes e.found) kept
  where
    by : (r : Option (List ℕ)) → option_map (λ bytes. record { number = number; path = e.path; bytes = bytes }) r ≡ Some f → IsEntry t number f
    by None h = absurd (none-some f h)
    by (Some bytes) h =
        let is = same_Some (record { number = number; path = e.path; bytes = bytes }) f h in
        record { one = e; there = at; path = ap (λ (g : KeptValue). g.path) is; same = ap (λ (g : KeptValue). g.number) (sym is) }

pub kept_entry : (t : Table) (number : ℕ) (f : KeptValue) → kept_at t number ≡ Some f → IsEntry t number f
kept_entry t number f kept = entry_kept number t (slice_get t number) f refl kept

module _ (members : List Part) (order : List ℕ) (a : AnalysisValue) (before now : Source) (once : HasEachOnce a.table)
    (files : (number : ℕ) → (lists_in (all_found members a) number ≡ [] → ⊥) → (f : KeptValue) × (kept_at a.table number ≡ Some f))
    (are : AreReordered members order a before now) where
  abbrev lists : ℕ → List (List ℕ)
  lists number = lists_in (all_found members a) number

  nothing_moves : (number : ℕ) (bytes : List ℕ) → lists number ≡ [] → reordered_bytes members order a number bytes ≡ bytes
  unfolding all_rearranged
  nothing_moves number bytes e = rw e refl

  same_map : (f : List ℕ → List ℕ) (o : Option (List ℕ)) → ((bytes : List ℕ) → f bytes ≡ bytes) → option_map f o ≡ o
  same_map f None same = refl
  same_map f (Some bytes) same = ap (λ (b : List ℕ). Some b) (same bytes)

  by_lists : (path : List ℕ) (ls : List (List ℕ)) → lists (number_of path a.table) ≡ ls → now path ≡ edited_source (edit_by members order a) before path
  by_lists path [] e =
      are.others path (λ f holds is.
      let x = kept_entry a.table f.number f holds.kept in
      let n : number_of path a.table ≡ f.number = ap (λ (p : List ℕ). number_of p a.table) (sym is ∙ sym x.path) ∙ number_path a.table f.number x.one once x.there in
      holds.some (ap lists (sym n) ∙ e))
      ∙ sym (same_map (edit_by members order a path) (before path) (λ bytes. nothing_moves (number_of path a.table) bytes e))
  by_lists path (l ∷ ls) e =
      let n : ℕ = number_of path a.table in
      let some : lists n ≡ [] → ⊥ = λ none. absurd (cons_none (sym e ∙ none)) in
      let r = files n some in
      let f : KeptValue = r.0 in
      let x = kept_entry a.table n f r.1 in
      let same : f.number ≡ n = x.same in
      let is : path ≡ f.path = number_entry a.table path x.one x.there ∙ x.path in
      let holds : HoldsLists a members f = record { kept = ap (kept_at a.table) same ∙ r.1; some = λ none. some (ap lists (sym same) ∙ none) } in
      let told = are.edited f holds in
      ap now is
      ∙ (told.1
      ∙ (ap (λ (k : ℕ). Some (reordered_bytes members order a k f.bytes)) same
      ∙ sym (ap (option_map (edit_by members order a path)) (ap before is ∙ told.0))))
    where
      cons_none : l ∷ ls ≡ [] → ⊥
      cons_none h = cc

  pub source_edited : (path : List ℕ) → now path ≡ edited_source (edit_by members order a) before path
  source_edited path = by_lists path (lists (number_of path a.table)) refl
