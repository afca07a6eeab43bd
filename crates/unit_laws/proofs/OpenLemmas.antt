-- Files are searched and opened alike over the edited files.
use Rattle.std.proofs.Common.{◌≡◌, ℕ, ◌+◌, nat_le, nat_lt, Bool, true, false, not, cond, List, [], ◌∷◌, length, Option, Some, None, Result, Ok, Err, refl, ap, sym, subst, ◌∙◌, inl, inr}
use Rattle.std.specs.Prelude.{slice_get}
use Rattle.std.specs.Option.{option_map}
use Rattle.cs_base.specs.declared.causes.Cause.TheVariants.{TooManyFiles, TooManyBytes}
use Rattle.cs_base.specs.declared.positions.Place.{Place}
use Rattle.cs_base.specs.declared.positions.Pos.{Pos}
use Rattle.cs_base.specs.Units.{UnitValue}
use Rattle.cs_base.proofs.BoolLemmas.{and_none, and_right}
use Rattle.lexer.specs.FileText.{TextValue, LexFault, FileTooLarge, OpenComment, file_text}
use Rattle.source_files.specs.Faults.{Fault, fault, place_in}
use Rattle.source_files.specs.Files.{Found, Lines, Absent, Unopened, Opened, Made, entry, Table, SourceFile, source_file, number_of, found_at, opened, files_opened, bytes_opened}
use Rattle.source_files.specs.Limits.{the_limits}
use Rattle.source_files.specs.Opening.{Opening, file_read, is_too_large, readable, are_too_many, opened_as, opening}
use Rattle.source_files.specs.Search.{Header, Searched, searched, candidates_of, search}
use Rattle.source_files.specs.Tables.{AreFound, Widens}
use Rattle.source_files.proofs.SourcesLemmas.{entry-at, found-opened, opening-as}
use Rattle.source_files.proofs.TableLemmas.{grown_trans}
use Rattle.include_tree.proofs.SearchLemmas.{search_wide}
use Rattle.include_tree.specs.GivenFiles.{unit_context}
use Rattle.include_tree.specs.Including.{open_searched, open_header}
use Rattle.include_tree.specs.OpeningStep.{with_opened, open_file}
use Rattle.unit_steps.specs.State.{Context, State, Outcome}
use Rattle.include_tree.specs.Walk.{ItemText, items_in}
use Rattle.unit_laws.specs.Edited.{edited_found, edited_files, edited_state}
use Rattle.unit_laws.specs.Walking.{AreItemsAlike, text_items, KeepsTexts, with_text, IsEdited}
use Rattle.unit_laws.proofs.EditedLemmas.{number_edited, found_edited, opened_edited, number_opened, files_edited, bytes_edited, search_edited, found_is}
use Rattle.unit_laws.proofs.ReorderedStepLemmas.{World, Still}

-- ---- files that go with others

-- the edited file has another text, whose items are alike
abbrev pub IsOther : World → Table → SourceFile → SourceFile → Type 0
IsOther w t file new = (text : TextValue) × (new ≡ with_text file text) × AreItemsAlike (items_in file) (text_items text) × IsEdited w.edit w.old t file text

-- what opening gives, and what it gives over the edited files
abbrev OpensToo : World → Opening → Opening → Type 0
OpensToo w (Ok r) new = (file2 : SourceFile) × (new ≡ Ok (file2, edited_files w.edit r.1)) × IsOther w r.1 r.0 file2
OpensToo w (Err found) new = Unit {0}

-- a text that is read, and that of the edited file
record ReadsToo (w : World) (found : Found) (number : ℕ) (path bytes bytes2 : List ℕ) (text : TextValue) : Type 0 where
  text2 : TextValue
  is : file_text number bytes2 ≡ Ok text2
  items : AreItemsAlike (text_items text) (text_items text2)
  edited : (t : Table) → slice_get t number ≡ Some (entry path found) → IsEdited w.edit w.old t (source_file number path text) text2

abbrev Reads : World → Found → ℕ → List ℕ → List ℕ → List ℕ → Type 0
Reads w found number path bytes bytes2 = (text : TextValue) → file_text number bytes ≡ Ok text → ReadsToo w found number path bytes bytes2 text

pub alike_itself : (is : List ItemText) → AreItemsAlike is is
alike_itself [] = tt
alike_itself (i ∷ is) = ((refl, λ h. refl), alike_itself is)

reads_same : (w : World) (number : ℕ) (path bytes : List ℕ) → Reads w (Made bytes) number path bytes bytes
reads_same w number path bytes = λ text is. record { text2 = text; is = is; items = alike_itself (text_items text); edited = λ t at. inr (bytes, at, is, refl) }

reads_edited : (w : World) → KeepsTexts w.edit w.old → (number : ℕ) (path bytes : List ℕ) → w.old path ≡ Some bytes → Reads w (Opened bytes) number path bytes (w.edit path bytes)
reads_edited w keeps number path bytes held = λ text is.
    let k = keeps.items number path bytes text held is in
    record { text2 = k.0; is = k.1; items = k.2; edited = λ t at. inl (bytes, at, held, is, k.1) }

read_by : (w : World) (place place2 : Place) (path bytes bytes2 : List ℕ) (u : Table) (found : Found) → slice_get u (number_of path u) ≡ Some (entry path found) → Reads w found (number_of path u) path bytes bytes2
    → (r : Result TextValue LexFault) → file_text (number_of path u) bytes ≡ r
    → OpensToo w (file_read place (number_of path u) path u r) (readable file_text place2 path bytes2 (edited_files w.edit u))
read_by w place place2 path bytes bytes2 u found at reads (Err FileTooLarge) is = tt
read_by w place place2 path bytes bytes2 u found at reads (Err (OpenComment c line column)) is = tt
read_by w place place2 path bytes bytes2 u found at reads (Ok text) is =
    let k = reads text is in
    let n : ℕ = number_of path u in (
      source_file n path k.text2,
      ap (λ (m : ℕ). file_read place2 m path (edited_files w.edit u) (file_text m bytes2)) (number_edited w.edit path u)
          ∙ ap (file_read place2 n path (edited_files w.edit u)) k.is,
      (k.text2, refl, k.items, k.edited u at),
    )

readable_too : (w : World) (place place2 : Place) (path bytes bytes2 : List ℕ) (u : Table) (found : Found) → slice_get u (number_of path u) ≡ Some (entry path found) → Reads w found (number_of path u) path bytes bytes2
    → OpensToo w (readable file_text place path bytes u) (readable file_text place2 path bytes2 (edited_files w.edit u))
readable_too w place place2 path bytes bytes2 u found at reads = read_by w place place2 path bytes bytes2 u found at reads (file_text (number_of path u) bytes) refl

-- a test that is passed twice
tested_too : (w : World) (b b2 : Bool) (found found2 : Fault) (o o2 : Opening) → (b ≡ false → b2 ≡ false) → OpensToo w o o2 → OpensToo w (cond b (Err found) o) (cond b2 (Err found2) o2)
tested_too w true b2 found found2 o o2 same h = tt
tested_too w false b2 found found2 o o2 same h = subst (λ (x : Bool). OpensToo w o (cond x (Err found2) o2)) (sym (same refl)) h

-- what passes it is not too large
large_false : (r : Result TextValue LexFault) (text : TextValue) → r ≡ Ok text → is_too_large r ≡ false
large_false r text is = ap is_too_large is

-- the second test, whatever is read
many_too : (w : World) → KeepsTexts w.edit w.old → (place place2 : Place) (path bytes : List ℕ) (t : Table) → AreFound w.old t → found_at path t ≡ Some (Unopened bytes) → Reads w (Opened bytes) (number_of path t) path bytes (w.edit path bytes)
    → (r : Result TextValue LexFault) → file_text (number_of path t) bytes ≡ r
    → OpensToo w (cond (are_too_many the_limits file_text path bytes t) (Err (fault place TooManyBytes)) (readable file_text place path bytes (opened path bytes t)))
    (cond (are_too_many the_limits file_text path (w.edit path bytes) (edited_files w.edit t)) (Err (fault place2 TooManyBytes))
    (readable file_text place2 path (w.edit path bytes) (opened path (w.edit path bytes) (edited_files w.edit t))))
many_too w keeps place place2 path bytes t all at reads (Ok text) is =
    let n : ℕ = number_of path t in
    let u : Table = opened path bytes t in
    let n2 : number_of path u ≡ n = number_opened path bytes t in
    let reads2 : Reads w (Opened bytes) (number_of path u) path bytes (w.edit path bytes) = subst (λ (m : ℕ). Reads w (Opened bytes) m path bytes (w.edit path bytes)) (sym n2) reads in
    let there : slice_get u (number_of path u) ≡ Some (entry path (Opened bytes)) = entry-at path (Opened bytes) u (found-opened path bytes (Unopened bytes) t at) in
    let small : not (is_too_large (file_text n bytes)) ≡ true = ap not (large_false (file_text n bytes) text is) in
    let sizes : bytes_opened (edited_files w.edit t) + length (w.edit path bytes) ≡ bytes_opened t + length bytes =
    ap (λ (k : ℕ). k + length (w.edit path bytes)) (bytes_edited w.edit w.old keeps.sizes t all) ∙ ap (λ (k : ℕ). bytes_opened t + k)
    (keeps.sizes path bytes (found_is w.old path (Unopened bytes) t all at)) in
    let more : are_too_many the_limits file_text path bytes t ≡ false → are_too_many the_limits file_text path (w.edit path bytes) (edited_files w.edit t) ≡ false =
    λ h. and_none (not (is_too_large (file_text (number_of path (edited_files w.edit t)) (w.edit path bytes)))) (nat_lt the_limits.all_bytes (bytes_opened (edited_files w.edit t) + length (w.edit path bytes)))
    (ap (λ (k : ℕ). nat_lt the_limits.all_bytes k) sizes
    ∙ and_right (not (is_too_large (file_text n bytes))) (nat_lt the_limits.all_bytes (bytes_opened t + length bytes)) small h) in
    let opens : OpensToo w (readable file_text place path bytes u) (readable file_text place2 path (w.edit path bytes) (opened path (w.edit path bytes) (edited_files w.edit t))) =
    subst (λ (v : Table). OpensToo w (readable file_text place path bytes u) (readable file_text place2 path (w.edit path bytes) v)) (sym (opened_edited w.edit path bytes t))
    (readable_too w place place2 path bytes (w.edit path bytes) u (Opened bytes) there reads2) in
    tested_too w (are_too_many the_limits file_text path bytes t) (are_too_many the_limits file_text path (w.edit path bytes) (edited_files w.edit t)) (fault place TooManyBytes) (fault place2 TooManyBytes)
    (readable file_text place path bytes u) (readable file_text place2 path (w.edit path bytes) (opened path (w.edit path bytes) (edited_files w.edit t))) more opens
many_too w keeps place place2 path bytes t all at reads (Err e) is =
    let n : number_of path (opened path bytes t) ≡ number_of path t = number_opened path bytes t in
    let read : readable file_text place path bytes (opened path bytes t) ≡ file_read place (number_of path t) path (opened path bytes t) (Err e) =
    ap (λ (m : ℕ). file_read place m path (opened path bytes t) (file_text m bytes)) n ∙ ap (file_read place (number_of path t) path (opened path bytes t)) is in
    subst (λ (o : Opening). OpensToo w (cond (are_too_many the_limits file_text path bytes t) (Err (fault place TooManyBytes)) o) new) (sym read) (fails e (are_too_many the_limits file_text path bytes t))
  where
    new : Opening
    new =
        cond (are_too_many the_limits file_text path (w.edit path bytes) (edited_files w.edit t)) (Err (fault place2 TooManyBytes))
        (readable file_text place2 path (w.edit path bytes) (opened path (w.edit path bytes) (edited_files w.edit t)))

    fails : (e : LexFault) (b : Bool) → OpensToo w (cond b (Err (fault place TooManyBytes)) (file_read place (number_of path t) path (opened path bytes t) (Err e))) new
    fails e true = tt
    fails FileTooLarge false = tt
    fails (OpenComment at line column) false = tt

opened_too : (w : World) → KeepsTexts w.edit w.old → (place place2 : Place) (path : List ℕ) (t : Table) → AreFound w.old t → (o : Option Found) → found_at path t ≡ o
    → OpensToo w (opened_as the_limits file_text place path t o) (opened_as the_limits file_text place2 path (edited_files w.edit t) (option_map (edited_found (w.edit path)) o))
opened_too w keeps place place2 path t all None at = tt
opened_too w keeps place place2 path t all (Some Lines) at = tt
opened_too w keeps place place2 path t all (Some Absent) at = tt
opened_too w keeps place place2 path t all (Some (Unopened bytes)) at =
    let held : w.old path ≡ Some bytes = found_is w.old path (Unopened bytes) t all at in
    tested_too w (nat_le the_limits.files (files_opened t)) (nat_le the_limits.files (files_opened (edited_files w.edit t))) (fault place TooManyFiles) (fault place2 TooManyFiles)
    (cond (are_too_many the_limits file_text path bytes t) (Err (fault place TooManyBytes)) (readable file_text place path bytes (opened path bytes t)))
    (cond (are_too_many the_limits file_text path (w.edit path bytes) (edited_files w.edit t)) (Err (fault place2 TooManyBytes))
    (readable file_text place2 path (w.edit path bytes) (opened path (w.edit path bytes) (edited_files w.edit t))))
    (λ h. ap (λ (k : ℕ). nat_le the_limits.files k) (files_edited w.edit t) ∙ h)
    (many_too w keeps place place2 path bytes t all at (reads_edited w keeps (number_of path t) path bytes held) (file_text (number_of path t) bytes) refl)
opened_too w keeps place place2 path t all (Some (Opened bytes)) at =
    let held : w.old path ≡ Some bytes = found_is w.old path (Opened bytes) t all at in
    readable_too w place place2 path bytes (w.edit path bytes) t (Opened bytes) (entry-at path (Opened bytes) t at) (reads_edited w keeps (number_of path t) path bytes held)
opened_too w keeps place place2 path t all (Some (Made bytes)) at =
    readable_too w place place2 path bytes bytes t (Made bytes) (entry-at path (Made bytes) t at) (reads_same w (number_of path t) path bytes)

opening_too : (w : World) → KeepsTexts w.edit w.old → (place place2 : Place) (path : List ℕ) (t : Table) → AreFound w.old t
    → OpensToo w (opening the_limits file_text place path t) (opening the_limits file_text place2 path (edited_files w.edit t))
opening_too w keeps place place2 path t all =
    subst (λ (o : Option Found). OpensToo w (opening the_limits file_text place path t) (opened_as the_limits file_text place2 path (edited_files w.edit t) o)) (sym (found_edited w.edit path t))
    (opened_too w keeps place place2 path t all (found_at path t) refl)

-- ---- steps

abbrev pub FileGoes : World → State → SourceFile → SourceFile → Type 0
FileGoes w t file new = IsOther w t.table file new

opened_goes : (w : World) (place : Place) (path : List ℕ) (s : State) (o new : Opening) → opening the_limits file_text place path s.table ≡ o → (AreFound w.old s.table → OpensToo w o new)
    → Still w (FileGoes w) s (with_opened s o) (with_opened (edited_state w.edit s) new)
opened_goes w place path s (Err found) new is h = tt
opened_goes w place path s (Ok r) new is h = λ fits.
    let k = h fits.0 in
    let wide = (opening-as s.table r.1 place path r.0 is).widens w.old in
    record {
      too = record { value = k.0; notes = []; is = ap (with_opened (edited_state w.edit s)) k.1; goes = k.2 };
      fits = (wide.found fits.0, fits.1);
      before = refl;
      grown = wide.grown;
      quiet = λ b. (tt, tt);
    }

module _ (w : World) (keeps : KeepsTexts w.edit w.old) (unit : UnitValue) (earlier : ℕ) where
  abbrev pub ctx : Context
  ctx = unit_context w.old unit earlier

  abbrev pub ctx2 : Context
  ctx2 = unit_context w.new unit earlier

  pub open_goes : (place place2 : Place) (path : List ℕ) (s : State) → Still w (FileGoes w) s (open_file ctx place path s) (open_file ctx2 place2 path (edited_state w.edit s))
  open_goes place place2 path s =
      opened_goes w place path s (opening the_limits file_text place path s.table) (opening the_limits file_text place2 path (edited_files w.edit s.table)) refl
      (λ found. opening_too w keeps place place2 path s.table found)

  -- a step from a table that holds what the source does
  pub from_table : {A : Type 0} (W : State → A → A → Type 0) (s : State) (t : Table) (m new : Outcome A) → Widens w.old s.table t
      → Still w W (record s { table = t }) m new → Still w W s m new
  from_table W s t (Err fault) new more h = tt
  from_table W s t (Ok d) new more h = λ fits.
      let k = h (more.found fits.0, fits.1) in
      record {
        too = record { value = k.too.value; notes = k.too.notes; is = k.too.is; goes = k.too.goes };
        fits = k.fits;
        before = k.before;
        grown = grown_trans s.table t d.state.table more.grown k.grown;
        quiet = k.quiet;
      }

  searched_goes : (file : SourceFile) (text : TextValue) (at : Pos) (s : State) (u : Table) (o : Option (List ℕ))
      → Still w (FileGoes w) (record s { table = u }) (open_searched ctx file at s (searched o u) o)
      (open_searched ctx2 (with_text file text) at (edited_state w.edit s) (searched o (edited_files w.edit u)) o)
  searched_goes file text at s u None = tt
  searched_goes file text at s u (Some path) = open_goes (place_in file at) (place_in (with_text file text) at) path (record s { table = u })

  pub header_goes : (file : SourceFile) (text : TextValue) (at : Pos) (next : Bool) (h : Header) (s : State)
      → Still w (FileGoes w) s (open_header ctx file at next h s) (open_header ctx2 (with_text file text) at next h (edited_state w.edit s))
  header_goes file text at next h s =
      let paths : List (List ℕ) = candidates_of next h s.behind file.path unit in
      let d : Searched = search w.old paths s.table in
      subst (λ (x : Searched). Still w (FileGoes w) s (open_searched ctx file at s d d.path) (open_searched ctx2 (with_text file text) at (edited_state w.edit s) x x.path))
      (sym (search_edited w.edit w.old w.new w.news paths s.table))
      (from_table (FileGoes w) s d.table (open_searched ctx file at s d d.path) (open_searched ctx2 (with_text file text) at (edited_state w.edit s) (searched d.path (edited_files w.edit d.table)) d.path)
      (search_wide w.old paths s.table)
      (searched_goes file text at s d.table d.path))
