-- The files of an analysis once edits are made, and the units over them.
use Rattle.std.proofs.Common.{◌≡◌, ℕ, zero, suc, ◌+◌, ◌<◌, ◌≤◌, true, false, List, [], ◌∷◌, ◌++◌, length, get_or, drop, Option, Some, None, Result, Ok, Err, slice_get, inl, inr, refl, sym, ap, subst, ◌∙◌}
use Rattle.std.specs.Prelude.{◌⊎◌, IfSome, OnOk, if◌then◌else◌, map}
use Rattle.std.specs.Option.{option_and_then, unwrap_or}
use Rattle.std.specs.Str.{bytes_eq}
use Rattle.std.proofs.lemmas.Bool.{cases_Bool}
use Rattle.std.proofs.lemmas.List.{at_drop_more, at_drop_all}
use Rattle.std.proofs.lemmas.Option.{same_Some, slice_get-get_or}
use Rattle.cs_base.proofs.FileMapLemmas.{bytes_eq-equal}
use Rattle.cs_base.specs.Edit.{Edit, edit}
use Rattle.cs_base.specs.Outside.{FileMap, bytes_at}
use Rattle.analysis.specs.Below.source_files.Files.{Source, source_of, Found, Lines, Absent, Unopened, Opened, Made, Table, is_absent, absent_at}
use Rattle.analysis.specs.Below.source_files.KeptFiles.{KeptValue, kept, kept_in, kept_at}
use Rattle.analysis.specs.Below.source_files.Tables.{IsFound, AreFound}
use Rattle.analysis.specs.Below.include_tree.PseudoFiles.{is_pseudo}
use Rattle.analysis.specs.Below.unit_steps.Texts.{UnitTextValue}
use Rattle.analysis.specs.Analysis.{UnitAnalysis, AnalysisValue}
use Rattle.analysis.specs.Carrying.{IsOver}
use Rattle.analysis.specs.Tables.{MadeArePseudo, MadeFilesArePseudo, TablesAreFound}
use Rattle.analysis.specs.Texts.{TextsValue, texts_of}
use Rattle.analysis.proofs.TableLemmas.{entry_held}
use Rattle.analysis.proofs.Below.source_files.KeptLemmas.{absent-within as absent_within}
use Rattle.macro_plan.specs.Edited.{bytes_for, edited_bytes, IsEditedFile, AreEdited, StayAbsent, StayAlike}
use Rattle.edited_files.specs.Edited.{AreMade}
use Rattle.macro_plan.specs.Kept.{plains, KeepsTokens}

-- ---- one file more

added : (path bytes : List ℕ) (files : FileMap) (p b : List ℕ) → bytes_at path (files ++ (p, b) ∷ []) ≡ Some bytes
    → (bytes_at path files ≡ Some bytes) ⊎ ((p ≡ path) × (b ≡ bytes))
added path bytes [] p b is = elim (cases_Bool (bytes_eq p path)) [
  | inl same ↦
      let there : Some b ≡ Some bytes = rw same at is in
      inr (bytes_eq-equal p path same, cc)
  | inr other ↦ absurd (let none : None ≡ Some bytes = rw other at is in cc)
]
added path bytes (f ∷ files) p b is = elim (cases_Bool (bytes_eq f.0 path)) [
  | inl same ↦
      let there : Some f.1 ≡ Some bytes = rw same at is in
      inl (rw same there)
  | inr other ↦
      let there : bytes_at path (files ++ (p, b) ∷ []) ≡ Some bytes = rw other at is in
      elim (added path bytes files p b there) [
        | inl old ↦ inl (rw other old)
        | inr new ↦ inr new
      ]
]

pub none_edited : (table : Table) (edits : List Edit) → AreEdited table edits []
none_edited table edits path bytes is = absurd cc

pub one_edited : (table : Table) (edits : List Edit) (files : FileMap) (number : ℕ) (f : KeptValue) → kept_at table number ≡ Some f
    → is_pseudo f.path ≡ false → AreEdited table edits files → AreEdited table edits (files ++ (f.path, edited_bytes edits f) ∷ [])
one_edited table edits files number f kept real before path bytes is =
    elim (added path bytes files f.path (edited_bytes edits f) is) [
      | inl old ↦ before path bytes old
      | inr new ↦ record { number = number; file = f; kept = kept; same_path = new.0; real = real; edited = new.1 }
    ]

pub edited_told : {X E : Type 0} (table : Table) (edits : List Edit) (files new : FileMap) (number : ℕ) (f : KeptValue) (path bytes : List ℕ) (r : Result X E)
    → kept_at table number ≡ Some f → is_pseudo f.path ≡ false → path ≡ f.path → bytes ≡ edited_bytes edits f → AreEdited table edits files
    → OnOk r (new ≡ files ++ (path, bytes) ∷ []) → OnOk r (AreEdited table edits new)
edited_told table edits files new number f path bytes (Ok x) kept real named is before put =
    let one : files ++ (path, bytes) ∷ [] ≡ files ++ (f.path, bytes) ∷ [] = ap (λ (p : List ℕ). files ++ (p, bytes) ∷ []) named in
    let two : files ++ (f.path, bytes) ∷ [] ≡ files ++ (f.path, edited_bytes edits f) ∷ [] = ap (λ (b : List ℕ). files ++ (f.path, b) ∷ []) is in
    subst (λ (fs : FileMap). AreEdited table edits fs) (sym (put ∙ one ∙ two)) (one_edited table edits files number f kept real before)
edited_told table edits files new number f path bytes (Err e) kept real named is before put = tt

-- ---- new bytes of a path

module _ (path : List ℕ) (edits : List Edit) (k : ℕ) where
  of_edit : (P : Edit → Type 0) → k < length edits → IfSome (slice_get edits k) P → P (get_or edits k (edit [] [] 0))
  of_edit P within is = subst (λ (o : Option Edit). IfSome o P) (slice_get-get_or edits k (edit [] [] 0) within) is

  pub bytes_here : (p b : List ℕ) → k < length edits → IfSome (slice_get edits k) (λ e. p ≡ e.path) → IfSome (slice_get edits k) (λ e. b ≡ e.bytes)
      → bytes_eq p path ≡ true → bytes_for path (drop k edits) ≡ Some b
  bytes_here p b within named held same =
      let e = get_or edits k (edit [] [] 0) in
      let name : p ≡ e.path = of_edit (λ (x : Edit). p ≡ x.path) within named in
      let bytes : b ≡ e.bytes = of_edit (λ (x : Edit). b ≡ x.bytes) within held in
      let is : bytes_eq e.path path ≡ true = ap (λ (q : List ℕ). bytes_eq q path) (sym name) ∙ same in
      at_drop_more (bytes_for path) edits k (edit [] [] 0) within ∙ rw is (ap Some (sym bytes))

  pub bytes_next : (p : List ℕ) → k < length edits → IfSome (slice_get edits k) (λ e. p ≡ e.path) → bytes_eq p path ≡ false
      → bytes_for path (drop k edits) ≡ bytes_for path (drop (k + 1) edits)
  bytes_next p within named other =
      let e = get_or edits k (edit [] [] 0) in
      let name : p ≡ e.path = of_edit (λ (x : Edit). p ≡ x.path) within named in
      let is : bytes_eq e.path path ≡ false = ap (λ (q : List ℕ). bytes_eq q path) (sym name) ∙ other in
      at_drop_more (bytes_for path) edits k (edit [] [] 0) within ∙ rw is refl

  pub bytes_none : length edits ≤ k → bytes_for path (drop k edits) ≡ None
  bytes_none past = at_drop_all (bytes_for path) edits k past

bytes_from : (path bytes : List ℕ) (edits : List Edit) → bytes_for path edits ≡ Some bytes
    → (k : ℕ) × (e : Edit) × (slice_get edits k ≡ Some e) × (e.path ≡ path) × (e.bytes ≡ bytes)
bytes_from path bytes [] is = absurd cc
bytes_from path bytes (e ∷ edits) is = elim (cases_Bool (bytes_eq e.path path)) [
  | inl same ↦
      let there : Some e.bytes ≡ Some bytes = rw same at is in
      (zero, e, refl, bytes_eq-equal e.path path same, cc)
  | inr other ↦
      let later = bytes_from path bytes edits (rw other at is) in
      (suc later.0, later.1, later.2, later.3, later.4)
]

no_bytes : (path : List ℕ) (edits : List Edit) → bytes_for path edits ≡ None → (k : ℕ) (e : Edit) → slice_get edits k ≡ Some e → bytes_eq e.path path ≡ false
no_bytes path [] none zero e at = absurd cc
no_bytes path [] none (suc k) e at = absurd cc
no_bytes path (d ∷ edits) none zero e at = elim (cases_Bool (bytes_eq d.path path)) [
  | inl same ↦ absurd (let some : Some d.bytes ≡ None = rw same at none in cc)
  | inr other ↦ ap (λ (f : Edit). bytes_eq f.path path) (sym (same_Some d e at)) ∙ other
]
no_bytes path (d ∷ edits) none (suc k) e at = elim (cases_Bool (bytes_eq d.path path)) [
  | inl same ↦ absurd (let some : Some d.bytes ≡ None = rw same at none in cc)
  | inr other ↦ no_bytes path edits (rw other at none) k e at
]

-- ---- what the files held

number_held : (source : Source) (t : Table) (k number : ℕ) (f : KeptValue) → AreFound source t → MadeArePseudo t → is_pseudo f.path ≡ false
    → option_and_then (kept_in number) (slice_get t k) ≡ Some f → source f.path ≡ Some f.bytes
number_held source [] zero number f found made real at = absurd cc
number_held source [] (suc k) number f found made real at = absurd cc
number_held source (e ∷ t) zero number f found made real at = entry_held source number e.path e.found f found.0 made.0 real at
number_held source (e ∷ t) (suc k) number f found made real at = number_held source t k number f found.1 made.1 real at

entry_absent : (source : Source) (here path : List ℕ) (found : Found) → IsFound source here found
    → (if is_absent found then Some here else None) ≡ Some path → source path ≡ None
entry_absent source here path Absent is at = subst (λ (p : List ℕ). source p ≡ None) (same_Some here path at) is
entry_absent source here path Lines is at = absurd cc
entry_absent source here path (Unopened bytes) is at = absurd cc
entry_absent source here path (Opened bytes) is at = absurd cc
entry_absent source here path (Made bytes) is at = absurd cc

-- a path that was not there
absent_held : (source : Source) (t : Table) (k : ℕ) (path : List ℕ) → AreFound source t → absent_at t k ≡ Some path → source path ≡ None
absent_held source [] zero path found at = absurd cc
absent_held source [] (suc k) path found at = absurd cc
absent_held source (e ∷ t) zero path found at = entry_absent source e.path path e.found found.0 at
absent_held source (e ∷ t) (suc k) path found at = absent_held source t k path found.1 at

-- ---- what they hold

module _ (before now : Source) (table : Table) (edits : List Edit) (made : AreMade edits before now) where
  new_or_old : (f : KeptValue) (o : Option (List ℕ)) → bytes_for f.path edits ≡ o → before f.path ≡ Some f.bytes
      → now f.path ≡ Some (unwrap_or o f.bytes)
  new_or_old f None none held = made.others f.path (no_bytes f.path edits none) ∙ held
  new_or_old f (Some bytes) some held =
      let e = bytes_from f.path bytes edits some in
      ap now (sym e.3) ∙ made.each e.0 e.1 e.2 ∙ ap Some e.4

  -- a file that was read, and is no pseudo file, has its new bytes
  now_holds : AreFound before table → MadeArePseudo table → (path bytes : List ℕ) → IsEditedFile table edits path bytes → now path ≡ Some bytes
  now_holds found pseudo path bytes is =
      let held = number_held before table is.number is.number is.file found pseudo is.real is.kept in
      ap now (sym is.same_path) ∙ new_or_old is.file (bytes_for is.file.path edits) refl held ∙ ap Some is.edited

  -- what is told of a path holds over the files of now
  entry_now : (held : FileMap) → ((path bytes : List ℕ) → bytes_at path held ≡ Some bytes → now path ≡ Some bytes)
      → (path : List ℕ) (found : Found) → IsFound (source_of held) path found
      → ((if is_absent found then Some path else None) ≡ Some path → (before path ≡ None) × (bytes_for path edits ≡ None)) → IsFound now path found
  entry_now held holds path Lines is absent = tt
  entry_now held holds path (Made bytes) is absent = tt
  entry_now held holds path (Opened bytes) is absent = holds path bytes is
  entry_now held holds path (Unopened bytes) is absent = holds path bytes is
  entry_now held holds path Absent is absent = let a = absent refl in made.others path (no_bytes path edits a.1) ∙ a.0

  table_now : (held : FileMap) → ((path bytes : List ℕ) → bytes_at path held ≡ Some bytes → now path ≡ Some bytes)
      → (t : Table) → AreFound (source_of held) t
      → ((k : ℕ) (path : List ℕ) → absent_at t k ≡ Some path → (before path ≡ None) × (bytes_for path edits ≡ None)) → AreFound now t
  table_now held holds [] found absent = tt
  table_now held holds (e ∷ t) found absent = (
    entry_now held holds e.path e.found found.0 (absent 0 e.path),
    table_now held holds t found.1 (λ k path at. absent (suc k) path at),
  )

-- ---- the units

pub keeps_tokens : (a : AnalysisValue) (edits : List Edit) (held : FileMap) (t : TextsValue) → TablesAreFound → MadeFilesArePseudo → AreEdited a.table edits held
    → AreFound (source_of held) t.table → ((source : Source) → AreFound source t.table → texts_of source a.workspace.units ≡ Ok t)
    → StayAbsent a.table edits t.table (length t.table)
    → map (λ (x : UnitTextValue). plains x.toks) t.texts ≡ map (λ (u : UnitAnalysis). plains u.text.toks) a.units
    → KeepsTokens a.workspace a edits
keeps_tokens a edits held t tables made_pseudo edited found each absent same before now is made =
    let before_found = tables before a.workspace a is in
    let pseudo = made_pseudo before a.workspace a is in
    let holds : (path bytes : List ℕ) → bytes_at path held ≡ Some bytes → now path ≡ Some bytes =
    λ path bytes at. now_holds before now a.table edits made before_found pseudo path bytes (edited path bytes at) in
    let gone : (k : ℕ) (path : List ℕ) → absent_at t.table k ≡ Some path → (before path ≡ None) × (bytes_for path edits ≡ None) =
    λ k path at. (let stays = absent k (absent_within t.table k path at) path at in (absent_held before a.table k path before_found stays.0, stays.1)) in
    record { texts = t; preprocessed = each now (table_now before now a.table edits made held holds t.table found gone); same = same }

-- the same by what preprocessing promises of the files that it read
pub keeps_over : (a : AnalysisValue) (edits : List Edit) (held : FileMap) (t : TextsValue) → TablesAreFound → MadeFilesArePseudo → AreEdited a.table edits held
    → (table : Table) → t.table ≡ table → IsOver (Some held) table (λ source. texts_of source a.workspace.units ≡ Ok t)
    → StayAlike a edits t → KeepsTokens a.workspace a edits
keeps_over a edits held t tables made_pseudo edited table same is stay =
    keeps_tokens a edits held t tables made_pseudo edited (subst (λ (r : Table). AreFound (source_of held) r) (sym same) is.found)
    (λ source found. is.each source (subst (λ (r : Table). AreFound source r) same found)) stay.absent stay.alike
