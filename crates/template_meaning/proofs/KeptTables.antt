-- The files and the table of an analysis once the edits of a new order are made, where a second analysis was compared with it.
use Rattle.std.proofs.Common.{◌≡◌, ℕ, zero, suc, ◌+◌, ◌<◌, Bool, true, false, cond, List, [], ◌∷◌, ◌++◌, length, map, get_or, drop, Option, Some, None, Ok, inl, inr, refl, sym, ap, subst, ◌∙◌, arith}
use Rattle.std.specs.Prelude.{All, IfSome, slice_get}
use Rattle.std.specs.Option.{option_map, option_map_or, option_and_then, unwrap_or}
use Rattle.std.specs.Str.{bytes_eq}
use Rattle.std.proofs.lemmas.Bool.{cases_Bool, false≢true}
use Rattle.std.proofs.lemmas.List.{at_drop_more}
use Rattle.std.proofs.lemmas.List.Elements.{All-head, All-tail, All-cons, All-append, All-nil}
use Rattle.std.proofs.lemmas.Option.{none-some, same_Some, slice_get_within, slice_get-get_or}
use Rattle.cs_base.specs.declared.positions.Part.{Part}
use Rattle.cs_base.specs.Edit.{Edit, edit}
use Rattle.cs_base.specs.Outside.{FileMap, bytes_at}
use Rattle.cs_base.proofs.FileMapLemmas.{bytes_eq-equal}
use Rattle.source_files.specs.Files.{Source, source_of, Found, Lines, Absent, Unopened, Opened, Made, Entry, entry, Table, is_absent, absent_at, lines_path}
use Rattle.source_files.specs.KeptFiles.{KeptValue, kept as kept_file, kept_at, kept_bytes, kept_in}
use Rattle.source_files.specs.Tables.{IsFound, AreFound, HasEachOnce, BeginsWithLines}
use Rattle.include_tree.specs.PseudoFiles.{is_pseudo}
use Rattle.ws_file.specs.Workspace.{WorkspaceValue}
use Rattle.analysis.specs.Analysis.{AnalysisValue, analysis_of}
use Rattle.analysis.specs.Changed.{edited_table}
use Rattle.analysis.specs.Tables.{IsPseudoIfMade, MadeArePseudo}
use Rattle.edited_files.specs.Edited.{AreMade}
use Rattle.edited_unit_laws.proofs.ListLemmas.{In}
use Rattle.unit_laws.specs.Edited.{edited_found, edited_entry, edited_files}
use Rattle.template_rules.specs.FileLists.{all_found, edits_of, lists_in, marks_in}
use Rattle.template_rules.specs.Held.{ListsAreHeld}
use Rattle.reordered.specs.Reorder.{HoldsLists, AreReordered}
use Rattle.reordered.specs.Reordered.{reordered_bytes}
use Rattle.template_meaning.specs.Compared.{AreNumbered, AreKept, AreAbsent, bytes_for, edited_bytes, IsEditedFile, IsSecond}
use Rattle.template_meaning.specs.Editing.{edit_by}
use Rattle.template_meaning.proofs.EditsMade.{edits_reorder_files}
use Rattle.template_meaning.proofs.FilesHeld.{from_flat, first_of, none_in, in_file}
use Rattle.template_meaning.proofs.RealFiles.{IsRealIfAsked, AskedAreReal}
use Rattle.template_meaning.proofs.TablesEdited.{source_edited, table_edited}

-- ---- entries of a table

found_entry : (source : Source) (t : Table) (k : ℕ) (e : Entry) → AreFound source t → slice_get t k ≡ Some e → IsFound source e.path e.found
found_entry source [] k e found at = absurd (none-some e at)
found_entry source (x ∷ t) zero e found at = subst (λ (y : Entry). IsFound source y.path y.found) (same_Some x e at) found.0
found_entry source (x ∷ t) (suc k) e found at = found_entry source t k e found.1 at

made_entry : (t : Table) (k : ℕ) (e : Entry) → MadeArePseudo t → slice_get t k ≡ Some e → IsPseudoIfMade e.path e.found
made_entry [] k e made at = absurd (none-some e at)
made_entry (x ∷ t) zero e made at = subst (λ (y : Entry). IsPseudoIfMade y.path y.found) (same_Some x e at) made.0
made_entry (x ∷ t) (suc k) e made at = made_entry t k e made.1 at

real_entry : (t : Table) (k : ℕ) (e : Entry) → AskedAreReal t → slice_get t k ≡ Some e → IsRealIfAsked e.path e.found
real_entry [] k e real at = absurd (none-some e at)
real_entry (x ∷ t) zero e real at = subst (λ (y : Entry). IsRealIfAsked y.path y.found) (same_Some x e at) real.0
real_entry (x ∷ t) (suc k) e real at = real_entry t k e real.1 at

all_entries : (source : Source) (t : Table) → ((k : ℕ) (e : Entry) → slice_get t k ≡ Some e → IsFound source e.path e.found) → AreFound source t
all_entries source [] each = tt
all_entries source (e ∷ t) each = (each 0 e refl, all_entries source t (λ k x at. each (suc k) x at))

-- tables whose entries go together are mapped
mapped : (f : Entry → Entry) (t r : Table) → length r ≡ length t → ((k : ℕ) (x y : Entry) → slice_get t k ≡ Some x → slice_get r k ≡ Some y → y ≡ f x) → r ≡ map f t
mapped f [] [] many each = refl
mapped f [] (y ∷ r) many each = absurd (omega (arith, many))
mapped f (x ∷ t) [] many each = absurd (omega (arith, many))
mapped f (x ∷ t) (y ∷ r) many each =
    ap (λ (z : Entry). z ∷ r) (each 0 x y refl refl)
    ∙ ap (λ (zs : Table). f x ∷ zs) (mapped f t r (omega (arith, many)) (λ k v w at there. each (suc k) v w at there))

-- a kept file is that of an entry
pub data IsKeptBy (e : Entry) (f : KeptValue) : Type 0 where
  by_opened : (bytes : List ℕ) → e.found ≡ Opened bytes → f.bytes ≡ bytes → IsKeptBy e f
  by_made : (bytes : List ℕ) → e.found ≡ Made bytes → f.bytes ≡ bytes → IsKeptBy e f

kept_by : (number : ℕ) (e : Entry) (f : KeptValue) → kept_in number e ≡ Some f → IsKeptBy e f
kept_by number e f kept = by e.found refl kept
  where
    bytes_of : (bytes : List ℕ) → Some (kept_file number e.path bytes) ≡ Some f → f.bytes ≡ bytes
    bytes_of bytes h = ap (λ (g : KeptValue). g.bytes) (sym (same_Some (kept_file number e.path bytes) f h))

    by : (r : Found) → e.found ≡ r → option_map (kept_file number e.path) (kept_bytes r) ≡ Some f → IsKeptBy e f
    by Lines is h = absurd (none-some f h)
    by Absent is h = absurd (none-some f h)
    by (Unopened bytes) is h = absurd (none-some f h)
    by (Opened bytes) is h = by_opened bytes is (bytes_of bytes h)
    by (Made bytes) is h = by_made bytes is (bytes_of bytes h)

path_by : (number : ℕ) (e : Entry) (f : KeptValue) → kept_in number e ≡ Some f → (e.path ≡ f.path) × (f.number ≡ number)
path_by number e f kept = by (kept_bytes e.found) kept
  where
    by : (r : Option (List ℕ)) → option_map (kept_file number e.path) r ≡ Some f → (e.path ≡ f.path) × (f.number ≡ number)
    by None h = absurd (none-some f h)
    by (Some bytes) h =
        let is = same_Some (kept_file number e.path bytes) f h in
        (ap (λ (g : KeptValue). g.path) is, ap (λ (g : KeptValue). g.number) (sym is))

kept_entry : (t : Table) (k : ℕ) (e : Entry) (f : KeptValue) → slice_get t k ≡ Some e → kept_at t k ≡ Some f → kept_in k e ≡ Some f
kept_entry t k e f at kept = sym (ap (option_and_then (kept_in k)) at) ∙ kept

-- so is a path that was not there
absent_entry : (t : Table) (k : ℕ) (e : Entry) (path : List ℕ) → slice_get t k ≡ Some e → absent_at t k ≡ Some path → (e.found ≡ Absent) × (e.path ≡ path)
absent_entry t k e path at gone = by e.found refl (sym (ap told at) ∙ gone)
  where
    told : Option Entry → Option (List ℕ)
    told o = cond (option_map_or (λ (x : Entry). is_absent x.found) o false) (option_map (λ (x : Entry). x.path) o) None

    by : (f : Found) → e.found ≡ f → cond (is_absent e.found) (Some e.path) None ≡ Some path → (e.found ≡ Absent) × (e.path ≡ path)
    by Absent is h = (is, same_Some e.path path (sym (ap (λ (g : Found). cond (is_absent g) (Some e.path) None) is) ∙ h))
    by Lines is h = absurd (none-some path (sym (ap (λ (g : Found). cond (is_absent g) (Some e.path) None) is) ∙ h))
    by (Unopened bytes) is h = absurd (none-some path (sym (ap (λ (g : Found). cond (is_absent g) (Some e.path) None) is) ∙ h))
    by (Opened bytes) is h = absurd (none-some path (sym (ap (λ (g : Found). cond (is_absent g) (Some e.path) None) is) ∙ h))
    by (Made bytes) is h = absurd (none-some path (sym (ap (λ (g : Found). cond (is_absent g) (Some e.path) None) is) ∙ h))

-- a file that was read, and is no pseudo file, holds what was read
number_held : (source : Source) (t : Table) (f : KeptValue) → AreFound source t → MadeArePseudo t → is_pseudo f.path ≡ false → kept_at t f.number ≡ Some f
    → source f.path ≡ Some f.bytes
number_held source t f found made real kept = by (slice_get t f.number) refl
  where
    by : (o : Option Entry) → slice_get t f.number ≡ o → source f.path ≡ Some f.bytes
    by None at = absurd (none-some f (sym (ap (option_and_then (kept_in f.number)) at) ∙ kept))
    by (Some e) at =
        let own = kept_entry t f.number e f at kept in
        let p = path_by f.number e f own in
        holds (kept_by f.number e f own) p.0 (found_entry source t f.number e found at) (made_entry t f.number e made at)
      where
        holds : IsKeptBy e f → e.path ≡ f.path → IsFound source e.path e.found → IsPseudoIfMade e.path e.found → source f.path ≡ Some f.bytes
        holds (by_opened bytes is has) path held pseudo =
            let here : source e.path ≡ Some bytes = subst (IsFound source e.path) is held in
            ap source (sym path) ∙ (here ∙ ap (λ (b : List ℕ). Some b) (sym has))
        holds (by_made bytes is has) path held pseudo =
            let no_file : is_pseudo e.path ≡ true = subst (IsPseudoIfMade e.path) is pseudo in
            absurd (false≢true (sym real ∙ (ap is_pseudo (sym path) ∙ no_file)))

-- ---- new bytes of a path

bytes_from : (path bytes : List ℕ) (edits : List Edit) → bytes_for path edits ≡ Some bytes
    → (k : ℕ) × (e : Edit) × (slice_get edits k ≡ Some e) × (e.path ≡ path) × (e.bytes ≡ bytes)
bytes_from path bytes [] is = absurd (none-some bytes is)
bytes_from path bytes (e ∷ edits) is = elim (cases_Bool (bytes_eq e.path path)) [
  | inl same ↦
      let there : Some e.bytes ≡ Some bytes = rw same at is in
      (zero, e, refl, bytes_eq-equal e.path path same, same_Some e.bytes bytes there)
  | inr other ↦
      let later = bytes_from path bytes edits (rw other at is) in
      (suc later.0, later.1, later.2, later.3, later.4)
]

no_bytes : (path : List ℕ) (edits : List Edit) → bytes_for path edits ≡ None → (k : ℕ) (e : Edit) → slice_get edits k ≡ Some e → bytes_eq e.path path ≡ false
no_bytes path [] none k e at = absurd (none-some e at)
no_bytes path (d ∷ edits) none zero e at = elim (cases_Bool (bytes_eq d.path path)) [
  | inl same ↦ absurd (let some : Some d.bytes ≡ None = rw same at none in none-some d.bytes (sym some))
  | inr other ↦ ap (λ (f : Edit). bytes_eq f.path path) (sym (same_Some d e at)) ∙ other
]
no_bytes path (d ∷ edits) none (suc k) e at = elim (cases_Bool (bytes_eq d.path path)) [
  | inl same ↦ absurd (let some : Some d.bytes ≡ None = rw same at none in none-some d.bytes (sym some))
  | inr other ↦ no_bytes path edits (rw other at none) k e at
]

-- a file of the map with this path
file_at : (table : Table) (edits : List Edit) (path bytes : List ℕ) (files : FileMap) → All (IsEditedFile table edits) files → bytes_at path files ≡ Some bytes
    → IsEditedFile table edits (path, bytes)
file_at table edits path bytes [] each at = absurd (none-some bytes at)
file_at table edits path bytes (x ∷ files) each at = elim (cases_Bool (bytes_eq x.0 path)) [
  | inl same ↦
      let own : x.0 ≡ path = bytes_eq-equal x.0 path same in
      let held : x.1 ≡ bytes = same_Some x.1 bytes (rw same at at) in
      let here : IsEditedFile table edits x = All-head (IsEditedFile table edits) x files each in
      record { had = here.had; kept = here.kept; real = here.real; path = sym own ∙ here.path; bytes = sym held ∙ here.bytes }
  | inr other ↦ file_at table edits path bytes files (All-tail (IsEditedFile table edits) x files each) (rw other at at)
]

-- ---- the edits of a new order

module _ (members : List Part) (order : List ℕ) (a : AnalysisValue) (before now : Source) (once : HasEachOnce a.table) (found : AreFound before a.table)
    (pseudo : MadeArePseudo a.table) (held : ListsAreHeld members a) (made : AreMade (edits_of members a order) before now) where
  -- a file with lists was read, and is no pseudo file
  holder : (number : ℕ) → (lists_in (all_found members a) number ≡ [] → ⊥) → (f : KeptValue) × (kept_at a.table number ≡ Some f) × (is_pseudo f.path ≡ false)
  holder number some =
      let one = first_of _ (λ e. some (none_in (all_found members a) number e)) in
      let f = from_flat (marks_in number) one.0 (all_found members a) one.1 in
      let there = f.1.0 in
      let h = held there.0 f.0 there.1 in
      let same = in_file number f.0 one.0 f.1.1 in
      (h.0, ap (kept_at a.table) (sym same) ∙ h.1, h.2)

  held_before : (f : KeptValue) → HoldsLists a members f → before f.path ≡ Some f.bytes
  held_before f holds =
      let h = holder f.number holds.some in
      let same : h.0 ≡ f = same_Some h.0 f (sym h.1 ∙ holds.kept) in
      number_held before a.table f found pseudo (ap (λ (g : KeptValue). is_pseudo g.path) (sym same) ∙ h.2) holds.kept

  pub files_reordered : AreReordered members order a before now
  files_reordered = edits_reorder_files a members order before now once held_before made

  edited : (path : List ℕ) → now path ≡ option_map (edit_by members order a path) (before path)
  edited path = source_edited members order a before now once (λ number some. let h = holder number some in (h.0, h.1)) files_reordered path

  new_or_old : (f : KeptValue) (o : Option (List ℕ)) → bytes_for f.path (edits_of members a order) ≡ o → before f.path ≡ Some f.bytes → now f.path ≡ Some (unwrap_or o f.bytes)
  new_or_old f None none here = made.others f.path (no_bytes f.path (edits_of members a order) none) ∙ here
  new_or_old f (Some bytes) some here =
      let e = bytes_from f.path bytes (edits_of members a order) some in
      ap now (sym e.3) ∙ (made.each e.0 e.1 e.2 ∙ ap (λ (b : List ℕ). Some b) e.4)

  now_holds : (path bytes : List ℕ) → IsEditedFile a.table (edits_of members a order) (path, bytes) → now path ≡ Some bytes
  now_holds path bytes is =
      let here = number_held before a.table is.had found pseudo is.real is.kept in
      ap now is.path ∙ (new_or_old is.had (bytes_for is.had.path (edits_of members a order)) refl here ∙ ap (λ (b : List ℕ). Some b) (sym is.bytes))

  -- ---- a second analysis over the files behind them

  module _ (b : AnalysisValue) (files : FileMap) (each : All (IsEditedFile a.table (edits_of members a order)) files) (there : AreFound (source_of files) b.table)
      (lines : BeginsWithLines a.table) (lines2 : BeginsWithLines b.table) (many : length b.table ≡ length a.table)
      (same : (k : ℕ) → k < length a.table → AreNumbered a.table b.table k) where
    -- what the second analysis tells of a number
    numbered : (k : ℕ) (y : Entry) → slice_get b.table k ≡ Some y → AreNumbered a.table b.table k
    numbered k y at = same k (omega (arith, slice_get_within b.table k y at, many))

    lines_at : (k : ℕ) (y : Entry) → k ≡ 0 → slice_get b.table k ≡ Some y → entry lines_path Lines ≡ y
    lines_at k y zero_ at = same_Some (entry lines_path Lines) y (sym lines2 ∙ (ap (slice_get b.table) (sym zero_) ∙ at))

    entry_now : (k : ℕ) (y : Entry) → slice_get b.table k ≡ Some y → IsFound now y.path y.found
    entry_now k y at = by y.found refl (found_entry (source_of files) b.table k y there at)
      where
        none_there : (path : List ℕ) → AreAbsent a.table b.table k → y.path ≡ path → now path ≡ None
        none_there path gone own =
            let q = absent_entry b.table k y gone.0 at gone.2 in
            let p : path ≡ gone.0 = sym own ∙ q.1 in
            ap now p ∙ (edited gone.0 ∙ ap (option_map (edit_by members order a gone.0)) (was_absent gone.0 gone.1))
          where
            was_absent : (p : List ℕ) → absent_at a.table k ≡ Some p → before p ≡ None
            was_absent p was = from (slice_get a.table k) refl
              where
                from : (o : Option Entry) → slice_get a.table k ≡ o → before p ≡ None
                from None e = absurd (none-some p (sym (ap (λ (o : Option Entry). cond (option_map_or (λ (x : Entry). is_absent x.found) o false) (option_map (λ (x : Entry). x.path) o) None) e) ∙ was))
                from (Some x) e =
                    let r = absent_entry a.table k x p e was in
                    let h : before x.path ≡ None = subst (IsFound before x.path) r.0 (found_entry before a.table k x found e) in
                    ap before (sym r.1) ∙ h

        not_kept : (r : Found) → y.found ≡ r → kept_bytes r ≡ None → AreKept a.table b.table k → ⊥
        not_kept r is none kept =
            none-some kept.has (sym (ap (λ (x : Found). option_map (kept_file k y.path) (kept_bytes x)) is ∙ ap (option_map (kept_file k y.path)) none) ∙ kept_entry b.table k y kept.has at kept.there)

        not_lines : (r : Found) → y.found ≡ r → (Lines ≡ r → ⊥) → k ≡ 0 → ⊥
        not_lines r is other zero_ = other (ap (λ (x : Entry). x.found) (lines_at k y zero_ at) ∙ is)

        by : (r : Found) → y.found ≡ r → IsFound (source_of files) y.path r → IsFound now y.path r
        by Lines is h = tt
        by (Made bytes) is h = tt
        by (Opened bytes) is h = now_holds y.path bytes (file_at a.table (edits_of members a order) y.path bytes files each h)
        by (Unopened bytes) is h = now_holds y.path bytes (file_at a.table (edits_of members a order) y.path bytes files each h)
        by Absent is h = elim (numbered k y at) [
          | inl zero_ ↦ absurd (not_lines Absent is (λ e. absurd (cc)) zero_)
          | inr other ↦ elim other [
            | inl kept ↦ absurd (not_kept Absent is refl kept)
            | inr gone ↦ none_there y.path gone refl
          ]
        ]

    pub found_now : AreFound now b.table
    found_now = all_entries now b.table entry_now

    module _ (real : AskedAreReal a.table) (real2 : AskedAreReal b.table) (pseudo2 : MadeArePseudo b.table) where
      abbrev new : Entry → Entry
      new x = edited_entry (edit_by members order a) x

      same_entry : (x y : Entry) → y.path ≡ x.path → y.found ≡ edited_found (edit_by members order a x.path) x.found → y ≡ new x
      same_entry x y path is = ap (λ (p : List ℕ). entry p y.found) path ∙ ap (entry x.path) is

      pub entry_edited : (k : ℕ) (x y : Entry) → slice_get a.table k ≡ Some x → slice_get b.table k ≡ Some y → y ≡ new x
      entry_edited k x y at at2 = elim (numbered k y at2) [
        | inl zero_ ↦
            let first : entry lines_path Lines ≡ x = same_Some (entry lines_path Lines) x (sym lines ∙ (ap (slice_get a.table) (sym zero_) ∙ at)) in
            sym (lines_at k y zero_ at2) ∙ ap new first
        | inr other ↦ elim other [
          | inl kept ↦ of_kept kept
          | inr gone ↦
              let p = absent_entry a.table k x gone.0 at gone.1 in
              let q = absent_entry b.table k y gone.0 at2 gone.2 in
              same_entry x y (q.1 ∙ sym p.1) (q.0 ∙ ap (edited_found (edit_by members order a x.path)) (sym p.0))
        ]
      ]
        where
          of_kept : AreKept a.table b.table k → y ≡ new x
          of_kept kept = both (kept_by k x kept.had had) (kept_by k y kept.has has)
            where
              had : kept_in k x ≡ Some kept.had
              had = kept_entry a.table k x kept.had at kept.kept

              has : kept_in k y ≡ Some kept.has
              has = kept_entry b.table k y kept.has at2 kept.there

              path : y.path ≡ x.path
              path = (path_by k y kept.has has).0 ∙ (kept.path ∙ sym (path_by k x kept.had had).0)

              is_made : (e : Entry) (bytes : List ℕ) → e.found ≡ Made bytes → IsPseudoIfMade e.path e.found → is_pseudo e.path ≡ true
              is_made e bytes is h = subst (IsPseudoIfMade e.path) is h

              is_real : (e : Entry) (bytes : List ℕ) → e.found ≡ Opened bytes → IsRealIfAsked e.path e.found → is_pseudo e.path ≡ false
              is_real e bytes is h = subst (IsRealIfAsked e.path) is h

              both : IsKeptBy x kept.had → IsKeptBy y kept.has → y ≡ new x
              both (by_opened old is was) (by_opened bytes is2 was2) =
                  let here : before x.path ≡ Some old = subst (IsFound before x.path) is (found_entry before a.table k x found at) in
                  let there2 : now y.path ≡ Some bytes = subst (IsFound now y.path) is2 (entry_now k y at2) in
                  let made_ : now x.path ≡ Some (edit_by members order a x.path old) = edited x.path ∙ ap (option_map (edit_by members order a x.path)) here in
                  let bytes_is : bytes ≡ edit_by members order a x.path old = same_Some bytes (edit_by members order a x.path old) (sym there2 ∙ (ap now path ∙ made_)) in
                  same_entry x y path (is2 ∙ (ap (λ (c : List ℕ). Opened c) bytes_is ∙ ap (edited_found (edit_by members order a x.path)) (sym is)))
              both (by_made old is was) (by_made bytes is2 was2) =
                  let pseudo_ : is_pseudo kept.had.path ≡ true = ap is_pseudo (sym (path_by k x kept.had had).0) ∙ is_made x old is (made_entry a.table k x pseudo at) in
                  let bytes_is : bytes ≡ old = sym was2 ∙ (kept.made pseudo_ ∙ was) in
                  same_entry x y path (is2 ∙ (ap (λ (c : List ℕ). Made c) bytes_is ∙ ap (edited_found (edit_by members order a x.path)) (sym is)))
              both (by_opened old is was) (by_made bytes is2 was2) =
                  absurd (false≢true (sym (is_real x old is (real_entry a.table k x real at)) ∙ (ap is_pseudo (sym path) ∙ is_made y bytes is2 (made_entry b.table k y pseudo2 at2))))
              both (by_made old is was) (by_opened bytes is2 was2) =
                  absurd (false≢true (sym (is_real y bytes is2 (real_entry b.table k y real2 at2)) ∙ (ap is_pseudo path ∙ is_made x old is (made_entry a.table k x pseudo at))))

      pub table_kept : b.table ≡ edited_table (reordered_bytes members order a) a.table
      table_kept = mapped new a.table b.table many entry_edited ∙ table_edited members order a once

-- ---- what code makes of them

module _ (path : List ℕ) (edits : List Edit) (k : ℕ) where
  of_edit : (P : Edit → Type 0) → k < length edits → IfSome (slice_get edits k) P → P (get_or edits k (edit [] [] 0))
  of_edit P within is = subst (λ (o : Option Edit). IfSome o P) (slice_get-get_or edits k (edit [] [] 0) within) is

  pub bytes_here : (p b : List ℕ) → k < length edits → IfSome (slice_get edits k) (λ e. p ≡ e.path) → IfSome (slice_get edits k) (λ e. b ≡ e.bytes)
      → bytes_eq p path ≡ true → bytes_for path (drop k edits) ≡ Some b
  bytes_here p b within named held same =
      let e = get_or edits k (edit [] [] 0) in
      let name : p ≡ e.path = of_edit (λ (x : Edit). p ≡ x.path) within named in
      let bytes : b ≡ e.bytes = of_edit (λ (x : Edit). b ≡ x.bytes) within held in
      let is : bytes_eq e.path path ≡ true = ap (λ (q : List ℕ). bytes_eq q path) (sym name) ∙ same in
      at_drop_more (bytes_for path) edits k (edit [] [] 0) within ∙ rw is (ap (λ (x : List ℕ). Some x) (sym bytes))

  pub bytes_next : (p : List ℕ) → k < length edits → IfSome (slice_get edits k) (λ e. p ≡ e.path) → bytes_eq p path ≡ false
      → bytes_for path (drop k edits) ≡ bytes_for path (drop (k + 1) edits)
  bytes_next p within named other =
      let e = get_or edits k (edit [] [] 0) in
      let name : p ≡ e.path = of_edit (λ (x : Edit). p ≡ x.path) within named in
      let is : bytes_eq e.path path ≡ false = ap (λ (q : List ℕ). bytes_eq q path) (sym name) ∙ other in
      at_drop_more (bytes_for path) edits k (edit [] [] 0) within ∙ rw is refl

-- one file more
pub file_more : (table : Table) (edits : List Edit) (old new : FileMap) (number : ℕ) (f : KeptValue) (path bytes : List ℕ) → kept_at table number ≡ Some f → is_pseudo f.path ≡ false
    → path ≡ f.path → bytes ≡ edited_bytes edits f → new ≡ old ++ (path, bytes) ∷ [] → All (IsEditedFile table edits) old → All (IsEditedFile table edits) new
file_more table edits old new number f path bytes is real own made more each = by (slice_get table number) refl
  where
    mine : f.number ≡ number → IsEditedFile table edits (path, bytes)
    mine numbered_ = record { had = f; kept = ap (kept_at table) numbered_ ∙ is; real = real; path = own; bytes = made }

    by : (o : Option Entry) → slice_get table number ≡ o → All (IsEditedFile table edits) new
    by None at = absurd (none-some f (sym (ap (option_and_then (kept_in number)) at) ∙ is))
    by (Some e) at =
        let one = mine (path_by number e f (kept_entry table number e f at is)).1 in
        subst (λ (fs : FileMap). All (IsEditedFile table edits) fs) (sym more)
        (All-append (IsEditedFile table edits) old ((path, bytes) ∷ []) each (All-cons (IsEditedFile table edits) (path, bytes) [] one (All-nil (IsEditedFile table edits))))

-- the second analysis
pub second_is : (edits : List Edit) (a b : AnalysisValue) (ws : WorkspaceValue) (files : FileMap) (table : Table) → ws ≡ a.workspace → b.workspace ≡ ws
    → All (IsEditedFile a.table edits) files → b.table ≡ table → AreFound (source_of files) table
    → ((source : Source) → AreFound source table → analysis_of source ws ≡ Ok b) → IsSecond edits a b
second_is edits a b ws files table own workspace each told found over = record {
  workspace = workspace ∙ own;
  files = files;
  each = each;
  found = subst (λ (t : Table). AreFound (source_of files) t) (sym told) found;
  over = λ source agrees.
      subst (λ (w : WorkspaceValue). analysis_of source w ≡ Ok b) own (over source (subst (λ (t : Table). AreFound source t) told agrees));
}
