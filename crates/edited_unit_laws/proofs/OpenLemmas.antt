-- Searching and opening files, as they were and edited.
use Rattle.std.proofs.Common.{◌≡◌, ℕ, ◌+◌, ◌≤◌, nat_le, nat_lt, ◌&&◌, Bool, true, false, not, cond, if◌then◌else◌, List, [], ◌∷◌, length, Option, Some, None, Result, Ok, Err, refl, ap, sym, subst, ◌∙◌, arith}
use Rattle.std.specs.Option.{option_map, option_and_then}
use Rattle.std.proofs.lemmas.Bool.{le-ltb}
use Rattle.cs_base.specs.declared.causes.Cause.TheVariants.{TooManyFiles, TooManyBytes}
use Rattle.cs_base.specs.declared.positions.Place.{Place}
use Rattle.cs_base.specs.declared.positions.Pos.{Pos}
use Rattle.cs_base.specs.Units.{UnitValue}
use Rattle.lexer.specs.FileText.{TextValue, LexFault, FileTooLarge, OpenComment, file_text}
use Rattle.macro_body.specs.Macro.{Table as Macros}
use Rattle.source_files.specs.Faults.{Fault, fault, place_in}
use Rattle.source_files.specs.Files.{Source, Found, Lines, Absent, Unopened, Opened, Made, Table, SourceFile, source_file, number_of, found_at, asked, opened, files_opened, bytes_opened}
use Rattle.source_files.specs.KeptFiles.{kept, kept_bytes, kept_at}
use Rattle.source_files.specs.Tables.{IsGrown, AreFound}
use Rattle.source_files.specs.Limits.{the_limits}
use Rattle.source_files.specs.Opening.{Opening, file_read, is_too_large, readable, are_too_many, first_opened, opened_as, opening}
use Rattle.include_tree.specs.OpeningStep.{with_opened, open_file}
use Rattle.source_files.specs.Search.{Header, Searched, searched, candidates_of, search, search_on}
use Rattle.source_files.specs.Sources.{read_as, source_kept, source_at}
use Rattle.include_tree.specs.GivenFiles.{unit_context}
use Rattle.unit_steps.specs.State.{State, Outcome}
use Rattle.include_tree.specs.Including.{open_searched, open_header}
use Rattle.source_files.proofs.TableLemmas.{grown_refl, grown_trans}
use Rattle.source_files.proofs.OpeningLemmas.{bytes-opened}
use Rattle.include_tree.proofs.SearchLemmas.{search_wide}
use Rattle.source_files.proofs.SourcesLemmas.{found-opened, opening-as, kept-at, same_ok as pair-same}
use Rattle.source_files.proofs.KeptLemmas.{kept-grown}
use Rattle.include_tree.proofs.StayingLemmas.{source-grown}
use Rattle.edited_unit_laws.specs.Keeping.{Change, edited_files, KeepsFile, KeepsFiles}
use Rattle.edited_unit_laws.specs.Steps.{KeepsState, moved, GoesAlike, with_text, OpensAlike, Grows}
use Rattle.edited_unit_laws.proofs.FollowLemmas.{later-grows, alike-reach}
use Rattle.edited_unit_laws.proofs.TableLemmas.{number-edited, found-edited, grown-edited, asked-edited, opened-edited, files-edited, bytes-grown}
use Rattle.analysis.specs.Changed.{Editing, edited_found, edited_table}

-- ---- searching

on-grows : (path : List ℕ) (t : Table) (rest : Table → Searched) (o : Option Found) → IsGrown t (rest t).table → IsGrown t (search_on path t rest o).table
on-grows path t rest None h = h
on-grows path t rest (Some Lines) h = h
on-grows path t rest (Some Absent) h = h
on-grows path t rest (Some (Unopened bytes)) h = grown_refl t
on-grows path t rest (Some (Opened bytes)) h = grown_refl t
on-grows path t rest (Some (Made bytes)) h = grown_refl t

-- what a search gives over the edited files
abbrev pub anew : Editing → Searched → Searched
anew edit d = searched d.path (edited_table edit d.table)

on-edited : (edit : Editing) (one : List ℕ → List ℕ) (path : List ℕ) (t files : Table) (rest rest2 : Table → Searched) (o : Option Found)
    → (IsGrown (rest t).table files → rest2 (edited_table edit t) ≡ anew edit (rest t)) → IsGrown (search_on path t rest o).table files
    → search_on path (edited_table edit t) rest2 (option_map (edited_found one) o) ≡ anew edit (search_on path t rest o)
on-edited edit one path t files rest rest2 None h g = h g
on-edited edit one path t files rest rest2 (Some Lines) h g = h g
on-edited edit one path t files rest rest2 (Some Absent) h g = h g
on-edited edit one path t files rest rest2 (Some (Unopened bytes)) h g = refl
on-edited edit one path t files rest rest2 (Some (Opened bytes)) h g = refl
on-edited edit one path t files rest rest2 (Some (Made bytes)) h g = refl

pub search-edited : (old new : Source) (edit : Editing) (paths : List (List ℕ)) (t files : Table) → IsGrown (search old paths t).table files → AreFound new (edited_table edit files)
    → search new paths (edited_table edit t) ≡ anew edit (search old paths t)
unfolding search
search-edited old new edit [] t files g h = refl
search-edited old new edit (path ∷ paths) t files g h =
    let u : Table = asked old path t in
    let rest = (search_wide old paths u).grown in
    let reach : IsGrown u files = grown_trans u (search_on path u (search old paths) (found_at path u)).table files (on-grows path u (search old paths) (found_at path u) rest) g in
    ap (λ (v : Table). search_on path v (search new paths) (found_at path v)) (asked-edited old new edit path t files reach h)
    ∙ ap (search_on path (edited_table edit u) (search new paths)) (found-edited edit 0 path u)
    ∙ on-edited edit (edit (0 + number_of path u)) path u files (search old paths) (search new paths) (found_at path u) (λ k. search-edited old new edit paths u files k h) g

-- ---- kept files

pub file-same : (a b : SourceFile) → ◌≡◌ {A = Option SourceFile} (Some a) (Some b) → a ≡ b
file-same a b h = cc

read-ok : (n m : ℕ) (path path2 : List ℕ) (r : Result TextValue LexFault) (text : TextValue) → read_as n path r ≡ Some (source_file m path2 text) → r ≡ Ok text
read-ok n m path path2 (Ok text2) text h = ap (λ (f : SourceFile). Ok f.text) (file-same (source_file n path text2) (source_file m path2 text) h)
read-ok n m path path2 (Err e) text h = absurd (let none : ◌≡◌ {A = Option SourceFile} None (Some (source_file m path2 text)) = h in cc)

-- ---- opening

-- a file that was read, and the table behind it
record WasRead (n : ℕ) (p : List ℕ) (u : Table) (file : SourceFile) (v : Table) : Type 0 where
  number : file.number ≡ n
  path : file.path ≡ p
  table : v ≡ u

was-read : (place : Place) (n : ℕ) (path : List ℕ) (u v : Table) (file : SourceFile) (r : Result TextValue LexFault) → file_read place n path u r ≡ Ok (file, v) → WasRead n path u file v
was-read place n path u v file (Ok text) h =
    let is = pair-same (source_file n path text, u) (file, v) h in
    record {
      number = sym (ap (λ (p : SourceFile × Table). p.0.number) is);
      path = sym (ap (λ (p : SourceFile × Table). p.0.path) is);
      table = sym (ap (λ (p : SourceFile × Table). p.1) is);
    }
was-read place n path u v file (Err FileTooLarge) h = absurd (cc)
was-read place n path u v file (Err (OpenComment k line column)) h = absurd (cc)

-- what is opened, unless a test finds a fault
abbrev tested : Bool → Fault → Opening → Opening
tested b found o = if b then Err found else o

passed : (b : Bool) (g : Fault) (o : Opening) (r : SourceFile × Table) → cond b (Err g) o ≡ Ok r → (b ≡ false) × (o ≡ Ok r)
passed true g o r h = absurd (cc)
passed false g o r h = (refl, h)

-- ---- tables grow

opened-grows : (place : Place) (path : List ℕ) (s : State) (o : Opening) → opening the_limits file_text place path s.table ≡ o → Source → Grows s (with_opened s o)
opened-grows place path s (Err found) is source = tt
opened-grows place path s (Ok r) is source = ((opening-as s.table r.1 place path r.0 is).widens source).grown

pub open-grows : (old : Source) (unit : UnitValue) (earlier : ℕ) (place : Place) (path : List ℕ) (s : State) → Grows s (open_file (unit_context old unit earlier) place path s)
open-grows old unit earlier place path s = opened-grows place path s (opening the_limits file_text place path s.table) refl old

searched-grows : (old : Source) (unit : UnitValue) (earlier : ℕ) (file : SourceFile) (at : Pos) (s : State) (found : Searched) (o : Option (List ℕ))
    → Grows (record s { table = found.table }) (open_searched (unit_context old unit earlier) file at s found o)
searched-grows old unit earlier file at s found None = tt
searched-grows old unit earlier file at s found (Some path) = open-grows old unit earlier (place_in file at) path (record s { table = found.table })

pub header-grows : (old : Source) (unit : UnitValue) (earlier : ℕ) (file : SourceFile) (at : Pos) (next : Bool) (h : Header) (s : State)
    → Grows s (open_header (unit_context old unit earlier) file at next h s)
header-grows old unit earlier file at next h s =
    let paths = candidates_of next h s.behind file.path unit in
    let found : Searched = search old paths s.table in
    later-grows s (record s { table = found.table }) (open_searched (unit_context old unit earlier) file at s found found.path)
    (search_wide old paths s.table).grown (searched-grows old unit earlier file at s found found.path)

module _ (c : Change) (source : Source) (files : KeepsFiles c source) where
  -- the edited file that is kept under a number has the text that is kept
  text-anew : (u : Table) (path bytes : List ℕ) (f : Found) (file : SourceFile) (k : KeepsFile c file) → found_at path (edited_table c.editing u) ≡ Some f → kept_bytes f ≡ Some bytes
      → IsGrown u c.files → file.number ≡ number_of path u → file_text (number_of path u) bytes ≡ Ok k.text
  text-anew u path bytes f file k at is g number =
      let n : ℕ = number_of path u in
      let there : kept_at (edited_table c.editing u) n ≡ Some (kept n path bytes) =
      subst (λ (m : ℕ). kept_at (edited_table c.editing u) m ≡ Some (kept m path bytes)) (number-edited c.editing 0 path u) (kept-at path bytes f (edited_table c.editing u) at is) in
      let later : kept_at (edited_files c) n ≡ Some (kept n path bytes) = kept-grown (edited_table c.editing u) (edited_files c) n n (kept n path bytes) (grown-edited c.editing 0 u c.files g) there in
      let read : source_at (edited_files c) n ≡ read_as n path (file_text n bytes) = ap (option_and_then source_kept) later in
      read-ok n file.number path file.path (file_text n bytes) k.text
      (sym read ∙ ap (source_at (edited_files c)) (sym number) ∙ k.edited)

  readable-anew : (place place2 : Place) (path bytes bytes2 : List ℕ) (u v : Table) (f : Found) (file : SourceFile) (k : KeepsFile c file) → found_at path (edited_table c.editing u) ≡ Some f → kept_bytes f ≡ Some bytes2
      → IsGrown v c.files → readable file_text place path bytes u ≡ Ok (file, v)
      → readable file_text place2 path bytes2 (edited_table c.editing u) ≡ Ok (with_text file k.text, edited_table c.editing v)
  readable-anew place place2 path bytes bytes2 u v f file k at is g h =
      let n : ℕ = number_of path u in
      let was = was-read place n path u v file (file_text n bytes) h in
      let reach : IsGrown u c.files = subst (λ (t : Table). IsGrown t c.files) was.table g in
      let text = text-anew u path bytes2 f file k at is reach was.number in
      let same : source_file n path k.text ≡ with_text file k.text =
      ap (λ (m : ℕ). source_file m path k.text) (sym was.number) ∙ ap (λ (p : List ℕ). source_file file.number p k.text) (sym was.path) in
      ap (λ (m : ℕ). file_read place2 m path (edited_table c.editing u) (file_text m bytes2)) (number-edited c.editing 0 path u)
      ∙ ap (file_read place2 n path (edited_table c.editing u)) text
      ∙ ap (λ (x : SourceFile). Ok (x, edited_table c.editing u)) same
      ∙ ap (λ (t : Table). Ok (with_text file k.text, edited_table c.editing t)) (sym was.table)

  few-false : (m : ℕ) → m ≤ the_limits.all_bytes → nat_lt the_limits.all_bytes m ≡ false
  few-false m h = le-ltb the_limits.all_bytes m h

  no-and : (b d : Bool) → d ≡ false → (b && d) ≡ false
  no-and true d h = h
  no-and false d h = refl

  first-anew : (place place2 : Place) (path bytes : List ℕ) (t v : Table) (file : SourceFile) (k : KeepsFile c file) → found_at path t ≡ Some (Unopened bytes) → IsGrown v c.files
      → first_opened the_limits file_text place path bytes t ≡ Ok (file, v)
      → first_opened the_limits file_text place2 path (c.editing (0 + number_of path t) bytes) (edited_table c.editing t) ≡ Ok (with_text file k.text, edited_table c.editing v)
  first-anew place place2 path bytes t v file k at g h =
      let few = passed (nat_le the_limits.files (files_opened t)) (fault place TooManyFiles)
      (cond (are_too_many the_limits file_text path bytes t) (Err (fault place TooManyBytes)) (readable file_text place path bytes (opened path bytes t))) (file, v) h in
      let rest = passed (are_too_many the_limits file_text path bytes t) (fault place TooManyBytes) (readable file_text place path bytes (opened path bytes t)) (file, v) few.1 in
      let n : ℕ = 0 + number_of path t in
      let bytes2 : List ℕ = c.editing n bytes in
      let u : Table = opened path bytes t in
      let was = was-read place (number_of path u) path u v file (file_text (number_of path u) bytes) rest.1 in
      let reach : IsGrown u c.files = subst (λ (x : Table). IsGrown x c.files) was.table g in
      let unopened : found_at path (edited_table c.editing t) ≡ Some (Unopened bytes2) = found-edited c.editing 0 path t ∙ ap (option_map (edited_found (c.editing n))) at in
      let opens : opened path bytes2 (edited_table c.editing t) ≡ edited_table c.editing u = opened-edited c.editing 0 path bytes t in
      let found : found_at path (edited_table c.editing u) ≡ Some (Opened bytes2) =
      ap (found_at path) (sym opens) ∙ found-opened path bytes2 (Unopened bytes2) (edited_table c.editing t) unopened in
      let count : nat_le the_limits.files (files_opened (edited_table c.editing t)) ≡ false = ap (nat_le the_limits.files) (files-edited c.editing 0 t) ∙ few.0 in
      let size : bytes_opened (edited_table c.editing t) + length bytes2 ≡ bytes_opened (edited_table c.editing u) = sym (bytes-opened path bytes2 (edited_table c.editing t) unopened) ∙ ap bytes_opened opens in
      let le : bytes_opened (edited_table c.editing u) ≤ bytes_opened (edited_files c) = bytes-grown (edited_table c.editing u) (edited_files c) (grown-edited c.editing 0 u c.files reach) in
      let within : bytes_opened (edited_table c.editing t) + length bytes2 ≤ the_limits.all_bytes = omega (arith, size, le, files.few_bytes) in
      let many : are_too_many the_limits file_text path bytes2 (edited_table c.editing t) ≡ false =
      no-and (not (is_too_large (file_text (number_of path (edited_table c.editing t)) bytes2))) (nat_lt the_limits.all_bytes (bytes_opened (edited_table c.editing t) + length bytes2)) (few-false (bytes_opened (edited_table c.editing t) + length bytes2) within) in
      ap (λ (b : Bool). tested b (fault place2 TooManyFiles) (tested (are_too_many the_limits file_text path bytes2 (edited_table c.editing t)) (fault place2 TooManyBytes) (readable file_text place2 path bytes2 (opened path bytes2 (edited_table c.editing t))))) count
      ∙ ap (λ (b : Bool). tested b (fault place2 TooManyBytes) (readable file_text place2 path bytes2 (opened path bytes2 (edited_table c.editing t)))) many
      ∙ ap (readable file_text place2 path bytes2) opens
      ∙ readable-anew place place2 path bytes bytes2 u v (Opened bytes2) file k found refl g rest.1

  opened-anew : (place place2 : Place) (path : List ℕ) (t v : Table) (file : SourceFile) (k : KeepsFile c file) (o : Option Found) → found_at path t ≡ o → IsGrown v c.files
      → opened_as the_limits file_text place path t o ≡ Ok (file, v)
      → opened_as the_limits file_text place2 path (edited_table c.editing t) (option_map (edited_found (c.editing (0 + number_of path t))) o) ≡ Ok (with_text file k.text, edited_table c.editing v)
  opened-anew place place2 path t v file k None at g h = absurd (cc)
  opened-anew place place2 path t v file k (Some Lines) at g h = absurd (cc)
  opened-anew place place2 path t v file k (Some Absent) at g h = absurd (cc)
  opened-anew place place2 path t v file k (Some (Unopened bytes)) at g h = first-anew place place2 path bytes t v file k at g h
  opened-anew place place2 path t v file k (Some (Opened bytes)) at g h =
      readable-anew place place2 path bytes (c.editing (0 + number_of path t) bytes) t v (Opened (c.editing (0 + number_of path t) bytes)) file k
      (found-edited c.editing 0 path t ∙ ap (option_map (edited_found (c.editing (0 + number_of path t)))) at) refl g h
  opened-anew place place2 path t v file k (Some (Made bytes)) at g h =
      readable-anew place place2 path bytes bytes t v (Made bytes) file k
      (found-edited c.editing 0 path t ∙ ap (option_map (edited_found (c.editing (0 + number_of path t)))) at) refl g h

  opening-anew : (place place2 : Place) (path : List ℕ) (t v : Table) (file : SourceFile) (k : KeepsFile c file) → IsGrown v c.files → opening the_limits file_text place path t ≡ Ok (file, v)
      → opening the_limits file_text place2 path (edited_table c.editing t) ≡ Ok (with_text file k.text, edited_table c.editing v)
  opening-anew place place2 path t v file k g h =
      ap (opened_as the_limits file_text place2 path (edited_table c.editing t)) (found-edited c.editing 0 path t)
      ∙ opened-anew place place2 path t v file k (found_at path t) refl g h

  -- ---- as steps

  with_table : (macros : Macros) (s : State) (t : Table) → KeepsState c macros s → KeepsState c macros (record s { table = t })
  with_table macros s t kept = record { macros = kept.macros; bodies = kept.bodies; names = kept.names }

  opened-by : (place place2 : Place) (path : List ℕ) (macros : Macros) (s : State) (o : Opening) → opening the_limits file_text place path s.table ≡ o
      → GoesAlike c (OpensAlike c) macros s (with_opened s o) (with_opened (moved c macros s) (opening the_limits file_text place2 path (edited_table c.editing s.table)))
  opened-by place place2 path macros s (Err found) is = tt
  opened-by place place2 path macros s (Ok r) is = λ reach kept told.
      let fresh = opening-as s.table r.1 place path r.0 is in
      let k : KeepsFile c r.0 = files.each r.0.number r.0 (source-grown r.1 c.files r.0.number r.0 reach fresh.is_kept) in
      record {
        value = with_text r.0 k.text;
        macros = macros;
        is = ap (with_opened (moved c macros s)) (opening-anew place place2 path s.table r.1 r.0 k reach is);
        goes_with = (k, refl);
        kept = with_table macros s r.1 kept;
      }

  pub open-alike : (old new : Source) (unit : UnitValue) (earlier : ℕ) (place place2 : Place) (path : List ℕ) (macros : Macros) (s : State)
      → GoesAlike c (OpensAlike c) macros s (open_file (unit_context old unit earlier) place path s) (open_file (unit_context new unit earlier) place2 path (moved c macros s))
  open-alike old new unit earlier place place2 path macros s = opened-by place place2 path macros s (opening the_limits file_text place path s.table) refl

  -- a step behind a table that has grown, and that is edited
  pub alike-table : {A : Type 0} (V : A → A → Type 0) (macros : Macros) (s : State) (t : Table) (m new : Outcome A)
      → GoesAlike c V macros (record s { table = t }) m new → GoesAlike c V macros s m new
  alike-table V macros s t (Err found) new h = tt
  alike-table V macros s t (Ok d) new h = λ reach kept told. h reach (with_table macros s t kept) told

  searched-alike : (old : Source) (unit : UnitValue) (earlier : ℕ) (file : SourceFile) (text : TextValue) (at at2 : Pos) (macros : Macros) (s : State) (found : Searched) (o : Option (List ℕ))
      → GoesAlike c (OpensAlike c) macros s (open_searched (unit_context old unit earlier) file at s found o)
      (open_searched (unit_context source unit earlier) (with_text file text) at2 (moved c macros s) (anew c.editing found) o)
  searched-alike old unit earlier file text at at2 macros s found None = tt
  searched-alike old unit earlier file text at at2 macros s found (Some path) =
      alike-table (OpensAlike c) macros s found.table (open_file (unit_context old unit earlier) (place_in file at) path (record s { table = found.table }))
      (open_file (unit_context source unit earlier) (place_in (with_text file text) at2) path (moved c macros (record s { table = found.table })))
      (open-alike old source unit earlier (place_in file at) (place_in (with_text file text) at2) path macros (record s { table = found.table }))

  pub header-alike : (old : Source) (unit : UnitValue) (earlier : ℕ) (file : SourceFile) (text : TextValue) (at at2 : Pos) (next : Bool) (h : Header) (macros : Macros) (s : State)
      → GoesAlike c (OpensAlike c) macros s (open_header (unit_context old unit earlier) file at next h s)
      (open_header (unit_context source unit earlier) (with_text file text) at2 next h (moved c macros s))
  header-alike old unit earlier file text at at2 next h macros s =
      let paths = candidates_of next h s.behind file.path unit in
      let found : Searched = search old paths s.table in
      alike-reach c (OpensAlike c) macros s found.table (open_searched (unit_context old unit earlier) file at s found found.path)
      (open_header (unit_context source unit earlier) (with_text file text) at2 next h (moved c macros s))
      (searched-grows old unit earlier file at s found found.path)
      (λ reach.
      subst (λ (d : Searched). GoesAlike c (OpensAlike c) macros s (open_searched (unit_context old unit earlier) file at s found found.path) (open_searched (unit_context source unit earlier) (with_text file text) at2 (moved c macros s) d d.path))
      (sym (search-edited old source c.editing paths s.table c.files reach files.found))
      (searched-alike old unit earlier file text at at2 macros s found found.path))
