-- A trim keeps the rest over each source with its analysis.
use Rattle.std.proofs.Common.{◌≡◌, ℕ, zero, suc, ◌+◌, true, false, cond, List, [], ◌∷◌, ◌++◌, Option, None, Some, Result, Ok, Err, refl, sym, ap, subst, ◌∙◌, inl, inr, ◌⊎◌}
use Rattle.std.specs.Prelude.{All, map, slice_get}
use Rattle.std.specs.Option.{option_map, option_map_or, option_and_then}
use Rattle.std.specs.Str.{bytes_eq}
use Rattle.std.specs.Cmp.Lexicographic.{bytes_decides}
use Rattle.std.proofs.lemmas.Bool.{cases_Bool, false≢true}
use Rattle.std.proofs.lemmas.Grind.{flat_map-append}
use Rattle.std.proofs.lemmas.List.{append-nil, map-append}
use Rattle.std.proofs.lemmas.List.Elements.{All-head, All-tail, All-cons, All-append, All-nil}
use Rattle.std.proofs.lemmas.Option.{none-some, same_Some}
use Rattle.cs_base.specs.declared.positions.Pos.{Pos}
use Rattle.cs_base.specs.declared.ws_units.Standard.{Standard}
use Rattle.cs_base.specs.Edit.{Edit}
use Rattle.cs_base.specs.Outside.{FileMap, bytes_at}
use Rattle.cs_base.specs.Units.{UnitValue}
use Rattle.analysis.specs.Analysis.{UnitAnalysis, unit_analysis, UnitsValue, units_and, with_unit, AnalysisValue, analysis_and, bound_unit, read_unit, unit_read, analysed_from, analysis_of}
use Rattle.analysis.specs.Below.include_tree.Preprocessed.{Preprocessed}
use Rattle.analysis.specs.Below.source_files.Faults.{Fault}
use Rattle.cs_base.specs.Answer.{result_then}
use Rattle.cs_base.proofs.OptionLemmas.{ok_same}
use Rattle.cs_base.proofs.AnswerLemmas.{map_err_ok as unmapped}
use Rattle.analysis.specs.Below.include_tree.PseudoFiles.{is_pseudo}
use Rattle.analysis.specs.Below.source_files.Files.{Source, source_of, Found, Lines, Absent, Unopened, Opened, Made, Entry, Table, Carried, absent_at, is_absent, nothing_carried}
use Rattle.analysis.specs.Below.source_files.KeptFiles.{KeptValue, kept, kept_at, kept_in, kept_bytes}
use Rattle.analysis.specs.Below.source_files.Tables.{HasEachOnce, AreFound, IsFound}
use Rattle.analysis.specs.Below.ws_file.Workspace.{WorkspaceValue, IsWorkspace}
use Rattle.analysis.specs.Tables.{MadeArePseudo, IsPseudoIfMade, MadeFilesArePseudo, PathsStandOnce, TablesAreFound}
use Rattle.analysis.specs.Texts.{UnitFault, unit_fault, unit_with}
use Rattle.edited_files.specs.Edited.{AreMade}
use Rattle.trim_plan.specs.Kept.{AreTrimmed, TrimsOver}
use Rattle.trim_plan.specs.Left.{is_gone}
use Rattle.trim_plan.specs.Places.{AreCompared}
use Rattle.trim_plan.specs.Second.{IsFileOf, IsSecond}
use Rattle.trim_plan.specs.Trimmed.{IsTrimmedUnit, HoldsTrimmed, WasAbsent, WasKnown}
use Rattle.trim_plan.proofs.FileLemmas.{entry_kept, path_kept, first_apart, once_behind, edits_trim}
use Rattle.trim_plan.proofs.SharedLemmas.{denote_alike}
use Rattle.trim_rules.specs.declared.judging.Judged as declared
use Rattle.trim_rules.specs.JudgedLines.{judged_in}
use Rattle.trim_rules.specs.Staying.{removed_by, removable}
use Rattle.trim_rules.specs.declared.trimming.TrimmedFile.{TrimmedFile}
use Rattle.trim_rules.specs.Made.{edit_made}
use Rattle.trim_rules.specs.Trimmed.{lines_in, trimmed, without, edit_for, edit_in, edits_of}
use Rattle.analysis.specs.Below.include_tree.Walk.{ItemText}

-- ---- files that were read

-- a source holds the bytes of a file that is no pseudo file
module _ (source : Source) where
  entry_held : (number : ℕ) (path : List ℕ) (found : Found) (f : KeptValue) → IsFound source path found → IsPseudoIfMade path found → is_pseudo f.path ≡ false
      → option_map (kept number path) (kept_bytes found) ≡ Some f → source f.path ≡ Some f.bytes
  entry_held number path Lines f is made real at = absurd (none-some f at)
  entry_held number path Absent f is made real at = absurd (none-some f at)
  entry_held number path (Unopened bytes) f is made real at = absurd (none-some f at)
  entry_held number path (Opened bytes) f is made real at = subst (λ (g : KeptValue). source g.path ≡ Some g.bytes) (same_Some (kept number path bytes) f at) is
  entry_held number path (Made bytes) f is made real at =
      absurd (false≢true (sym real ∙ subst (λ (g : KeptValue). is_pseudo g.path ≡ true) (same_Some (kept number path bytes) f at) made))

  number_held : (t : Table) (k number : ℕ) (f : KeptValue) → AreFound source t → MadeArePseudo t → is_pseudo f.path ≡ false
      → option_and_then (kept_in number) (slice_get t k) ≡ Some f → source f.path ≡ Some f.bytes
  number_held [] k number f found made real at = absurd (none-some f at)
  number_held (e ∷ t) zero number f found made real at = entry_held number e.path e.found f found.0 made.0 real at
  number_held (e ∷ t) (suc k) number f found made real at = number_held t k number f found.1 made.1 real at

  -- what it holds is what a table tells of an entry, and of a path
  found_entry : (t : Table) (k : ℕ) (e : Entry) → AreFound source t → slice_get t k ≡ Some e → IsFound source e.path e.found
  found_entry [] k e found at = absurd (none-some e at)
  found_entry (x ∷ t) zero e found at = subst (λ (y : Entry). IsFound source y.path y.found) (same_Some x e at) found.0
  found_entry (x ∷ t) (suc k) e found at = found_entry t k e found.1 at

  absent_held : (t : Table) (path : List ℕ) → AreFound source t → WasAbsent t path → source path ≡ None
  absent_held t path found was = by (slice_get t was.0) refl
    where
      by : (o : Option Entry) → slice_get t was.0 ≡ o → source path ≡ None
      by None at = absurd (none-some path (sym (ap told at) ∙ was.1))
        where
          told : Option Entry → Option (List ℕ)
          told o = cond (option_map_or (λ (e : Entry). is_absent e.found) o false) (option_map (λ (e : Entry). e.path) o) None
      by (Some e) at = by_found e.found refl (found_entry t was.0 e found at) (sym (ap told at) ∙ was.1)
        where
          told : Option Entry → Option (List ℕ)
          told o = cond (option_map_or (λ (e : Entry). is_absent e.found) o false) (option_map (λ (e : Entry). e.path) o) None

          by_found : (f : Found) → e.found ≡ f → IsFound source e.path e.found → cond (is_absent e.found) (Some e.path) None ≡ Some path → source path ≡ None
          by_found Absent is held has =
              let own : e.path ≡ path = same_Some e.path path (sym (ap (λ (g : Found). cond (is_absent g) (Some e.path) None) is) ∙ has) in
              let here : source e.path ≡ None = subst (IsFound source e.path) is held in
              ap source (sym own) ∙ here
          by_found Lines is held has = absurd (none-some path (sym (ap (λ (g : Found). cond (is_absent g) (Some e.path) None) is) ∙ has))
          by_found (Unopened bytes) is held has = absurd (none-some path (sym (ap (λ (g : Found). cond (is_absent g) (Some e.path) None) is) ∙ has))
          by_found (Opened bytes) is held has = absurd (none-some path (sym (ap (λ (g : Found). cond (is_absent g) (Some e.path) None) is) ∙ has))
          by_found (Made bytes) is held has = absurd (none-some path (sym (ap (λ (g : Found). cond (is_absent g) (Some e.path) None) is) ∙ has))

  -- a table whose entries are all found
  pub all_found : (t : Table) → ((k : ℕ) (e : Entry) → slice_get t k ≡ Some e → IsFound source e.path e.found) → AreFound source t
  all_found [] each = tt
  all_found (e ∷ t) each = (each 0 e refl, all_found t (λ k x at. each (suc k) x at))

-- ---- files with lines

some_real : (lines : List Pos) (f : KeptValue) → (lines_in lines f ≡ [] → ⊥) → is_pseudo f.path ≡ false
some_real lines f some = elim (cases_Bool (is_pseudo f.path)) [
  | inl is ↦ absurd (some (rw is refl))
  | inr real ↦ real
]

none_trimmed : (lines : List Pos) (f : KeptValue) → lines_in lines f ≡ [] → trimmed lines f ≡ f.bytes
unfolding trimmed
none_trimmed lines f none = ap (λ (is : _). without is f) none

is_empty : {X : Type 0} (xs : List X) → (xs ≡ []) ⊎ (xs ≡ [] → ⊥)
is_empty [] = inl refl
is_empty (x ∷ xs) = inr (λ e. cc)

-- a file of the map with this path
file_at : (lines : List Pos) (table : Table) (path bytes : List ℕ) (files : FileMap) → All (IsFileOf lines table) files → bytes_at path files ≡ Some bytes
    → IsFileOf lines table (path, bytes)
file_at lines table path bytes [] each at = absurd (none-some bytes at)
file_at lines table path bytes (x ∷ files) each at = elim (cases_Bool (bytes_eq x.0 path)) [
  | inl same ↦
      let own : x.0 ≡ path = (bytes_decides x.0 path).0 same in
      let held : x.1 ≡ bytes = same_Some x.1 bytes (rw same at at) in
      let here : IsFileOf lines table x = All-head (IsFileOf lines table) x files each in
      record { kept_file = here.kept_file; kept = here.kept; real = here.real; own = sym own ∙ here.own; holds = sym held ∙ here.holds }
  | inr other ↦ file_at lines table path bytes files (All-tail (IsFileOf lines table) x files each) (rw other at at)
]

-- where each path has one number, two entries of one path are one
one_number : (t : Table) (m n : ℕ) (x y : Entry) → HasEachOnce t → slice_get t m ≡ Some x → slice_get t n ≡ Some y → x.path ≡ y.path → m ≡ n
one_number [] m n x y once at there same = absurd (none-some x at)
one_number (e ∷ t) zero zero x y once at there same = refl
one_number (e ∷ t) zero (suc n) x y once at there same =
    let is : e ≡ x = same_Some e x at in
    absurd (first_apart e t n y once there ((bytes_decides e.path y.path).1 (ap (λ (z : Entry). z.path) is ∙ same)))
one_number (e ∷ t) (suc m) zero x y once at there same =
    let is : e ≡ y = same_Some e y there in
    absurd (first_apart e t m x once at ((bytes_decides e.path x.path).1 (ap (λ (z : Entry). z.path) is ∙ sym same)))
one_number (e ∷ t) (suc m) (suc n) x y once at there same = ap suc (one_number t m n x y (once_behind e t once) at there same)

-- ---- the second analysis

module _ (lines : List Pos) (a b : AnalysisValue) (second : IsSecond lines a b) (compared : AreCompared lines a b) where
  holds_trimmed : (path bytes : List ℕ) → bytes_at path second.files ≡ Some bytes → HoldsTrimmed lines a.table path bytes
  holds_trimmed path bytes at =
      let f = file_at lines a.table path bytes second.files second.each at in
      record { file = f.kept_file; kept = f.kept; real = f.real; own = sym f.own; holds = f.holds }

  absent_told : (k : ℕ) (e : Entry) → slice_get b.table k ≡ Some e → e.found ≡ Absent → absent_at b.table k ≡ Some e.path
  absent_told k e at is =
      ap (λ (o : Option Entry). cond (option_map_or (λ (x : Entry). is_absent x.found) o false) (option_map (λ (x : Entry). x.path) o) None) at
      ∙ ap (λ (f : Found). cond (is_absent f) (Some e.path) None) is

  known : (k : ℕ) (e : Entry) → slice_get b.table k ≡ Some e → WasKnown lines a.table e.path e.found
  known k e at = by e.found refl (found_entry (source_of second.files) b.table k e second.found at)
    where
      by : (f : Found) → e.found ≡ f → IsFound (source_of second.files) e.path f → WasKnown lines a.table e.path f
      by Lines is found = tt
      by Absent is found = compared.asked k e.path (absent_told k e at is)
      by (Unopened bytes) is found = holds_trimmed e.path bytes found
      by (Opened bytes) is found = holds_trimmed e.path bytes found
      by (Made bytes) is found = tt

  -- ---- over a source behind the edits

  module _ (before now : Source) (found_before : AreFound before a.table) (made_pseudo : MadeArePseudo a.table) (once : HasEachOnce a.table)
      (made : AreMade (edits_of lines a.table) before now) where
    held_before : (f : KeptValue) → kept_at a.table f.number ≡ Some f → is_pseudo f.path ≡ false → before f.path ≡ Some f.bytes
    held_before f is real = number_held before a.table f.number f.number f found_before made_pseudo real is

    pub files_trimmed : AreTrimmed lines a before now
    files_trimmed = edits_trim lines a before now once (λ f holds. held_before f holds.kept (some_real lines f holds.some)) made

    -- two kept files of one path are one
    one_file : (f g : KeptValue) → kept_at a.table f.number ≡ Some f → kept_at a.table g.number ≡ Some g → g.path ≡ f.path → g ≡ f
    one_file f g is there same =
        let x = entry_kept a.table f.number f is in
        let y = entry_kept a.table g.number g there in
        let p = path_kept f.number x.0 f x.1.1 in
        let q = path_kept g.number y.0 g y.1.1 in
        let number : g.number ≡ f.number = one_number a.table g.number f.number y.0 x.0 once y.1.0 x.1.0 (q.0 ∙ same ∙ sym p.0) in
        same_Some g f (sym there ∙ ap (kept_at a.table) number ∙ is)

    -- each file that was read holds its trimmed bytes
    holds_now : (f : KeptValue) → kept_at a.table f.number ≡ Some f → is_pseudo f.path ≡ false → now f.path ≡ Some (trimmed lines f)
    holds_now f is real = elim (is_empty (lines_in lines f)) [
      | inl none ↦
          files_trimmed.others f.path (λ g holds same. holds.some (ap (lines_in lines) (one_file f g is holds.kept same) ∙ none))
          ∙ held_before f is real ∙ ap (λ (bs : List ℕ). Some bs) (sym (none_trimmed lines f none))
      | inr some ↦ (files_trimmed.edited f (record { kept = is; some = some })).1
    ]

    -- no file with lines has the path of one that was not there
    absent_now : (path : List ℕ) → WasAbsent a.table path → now path ≡ None
    absent_now path was =
        let gone : before path ≡ None = absent_held before a.table path found_before was in
        files_trimmed.others path
        (λ g holds same.
        let there : before g.path ≡ Some g.bytes = held_before g holds.kept (some_real lines g holds.some) in
        none-some g.bytes (sym gone ∙ ap before (sym same) ∙ there))
        ∙ gone

    trimmed_now : (path bytes : List ℕ) → HoldsTrimmed lines a.table path bytes → now path ≡ Some bytes
    trimmed_now path bytes h =
        ap now (sym h.own) ∙ holds_now h.file h.kept h.real ∙ ap (λ (bs : List ℕ). Some bs) (sym h.holds)

    -- what the second analysis found is found
    entry_now : (k : ℕ) (e : Entry) → slice_get b.table k ≡ Some e → IsFound now e.path e.found
    entry_now k e at = by e.found (known k e at)
      where
        by : (f : Found) → WasKnown lines a.table e.path f → IsFound now e.path f
        by Lines h = tt
        by Absent h = absent_now e.path h
        by (Unopened bytes) h = trimmed_now e.path bytes h
        by (Opened bytes) h = trimmed_now e.path bytes h
        by (Made bytes) h = tt

    pub found_now : AreFound now b.table
    found_now = all_found now b.table entry_now

-- ---- standards

-- a step that went on
went_on : {X Y E : Type 0} (r : Result X E) (f : X → Result Y E) (y : Y) → result_then f r ≡ Ok y → (x : X) × ((r ≡ Ok x) × (f x ≡ Ok y))
went_on (Ok x) f y e = (x, (refl, e))
went_on (Err e') f y e = absurd (cc)

-- a unit is read by its standard
read_by : (standard : Standard) (number : ℕ) (path : List ℕ) (p : Preprocessed) (u : UnitAnalysis) → unit_read standard number path p ≡ Ok u → u.standard ≡ standard
read_by standard number path p u is =
    let read = unmapped (read_unit standard p.after.table path p.text) (unit_fault number) u is in
    let tree = went_on _ (bound_unit standard p.after.table path p.text) u read in
    let bound = went_on _ (λ b. Ok (unit_analysis standard p.text tree.0 b)) u tree.1.1 in
    let same : unit_analysis standard p.text tree.0 bound.0 ≡ u = ok_same {D = Fault} (unit_analysis standard p.text tree.0 bound.0) u bound.1.1 in
    ap (λ (v : UnitAnalysis). v.standard) (sym same)

standards_from : (source : Source) (number : ℕ) (units : List UnitValue) (before : Carried) (v : UnitsValue) → analysed_from source number units before ≡ Ok v
    → map (λ (u : UnitAnalysis). u.standard) v.units ≡ map (λ (u : UnitValue). u.standard) units
unfolding analysed_from
standards_from source number [] before v is =
    let same : units_and [] before.table ≡ v = ok_same {D = UnitFault} (units_and [] before.table) v is in
    ap (λ (w : UnitsValue). map (λ (u : UnitAnalysis). u.standard) w.units) (sym same)
standards_from source number (unit ∷ units) before v is =
    let p = went_on (unit_with source number unit before) _ v is in
    let u = went_on (unit_read unit.standard number unit.path p.0) _ v p.1.1 in
    let later = went_on (analysed_from source (number + 1) units p.0.after) _ v u.1.1 in
    let same : with_unit u.0 later.0 ≡ v = ok_same {D = UnitFault} (with_unit u.0 later.0) v later.1.1 in
    let own : u.0.standard ≡ unit.standard = read_by unit.standard number unit.path p.0 u.0 u.1.0 in
    let rest = standards_from source (number + 1) units p.0.after later.0 later.1.0 in
    ap (λ (w : UnitsValue). map (λ (x : UnitAnalysis). x.standard) w.units) (sym same)
    ∙ ap (λ (s : Standard). s ∷ map (λ (x : UnitAnalysis). x.standard) later.0.units) own
    ∙ ap (λ (ss : List Standard). unit.standard ∷ ss) rest

standards : (source : Source) (ws : WorkspaceValue) (a : AnalysisValue) → analysis_of source ws ≡ Ok a → map (λ (u : UnitAnalysis). u.standard) a.units ≡ map (λ (u : UnitValue). u.standard) ws.units
standards source ws a is =
    let all = went_on (analysed_from source 1 ws.units nothing_carried) _ a is in
    let same : analysis_and ws all.0.units all.0.table ≡ a = ok_same {D = UnitFault} (analysis_and ws all.0.units all.0.table) a all.1.1 in
    ap (λ (x : AnalysisValue). map (λ (u : UnitAnalysis). u.standard) x.units) (sym same) ∙ standards_from source 1 ws.units nothing_carried all.0 all.1.0

at_map : {X Y : Type 0} (f : X → Y) (xs : List X) (k : ℕ) → slice_get (map f xs) k ≡ option_map f (slice_get xs k)
at_map f [] k = refl
at_map f (x ∷ xs) zero = refl
at_map f (x ∷ xs) (suc k) = at_map f xs k

same_standard : (us vs : List UnitAnalysis) (n : ℕ) (u v : UnitAnalysis) → map (λ (u : UnitAnalysis). u.standard) us ≡ map (λ (u : UnitAnalysis). u.standard) vs
    → slice_get us n ≡ Some u → slice_get vs n ≡ Some v → v.standard ≡ u.standard
same_standard us vs n u v same at there =
    let f : UnitAnalysis → Standard = λ (w : UnitAnalysis). w.standard in
    let one : slice_get (map f us) n ≡ Some u.standard = at_map f us n ∙ ap (option_map f) at in
    let two : slice_get (map f vs) n ≡ Some v.standard = at_map f vs n ∙ ap (option_map f) there in
    sym (same_Some u.standard v.standard (sym one ∙ ap (λ (ss : List Standard). slice_get ss n) same ∙ two))

-- ---- all

-- A trim keeps the rest over each source with its analysis, by the laws of tables.
pub trims_over : (made_are : MadeFilesArePseudo) (found_are : TablesAreFound) (once_are : PathsStandOnce) (lines : List Pos) (a b : AnalysisValue) (edits : List Edit)
    → IsWorkspace a.workspace → IsSecond lines a b → AreCompared lines a b → edits ≡ edits_of lines a.table → TrimsOver a.workspace a lines edits
trims_over made_are found_are once_are lines a b edits is second compared made = record {
  kept = λ before now analysed are.
      let found = found_are before a.workspace a analysed in
      let pseudo = made_are before a.workspace a analysed in
      let once = once_are before a.workspace a is analysed in
      let edited : AreMade (edits_of lines a.table) before now = subst (λ (es : List Edit). AreMade es before now) made are in
      let behind : analysis_of now a.workspace ≡ Ok b = second.over now (found_now lines a b second compared before now found pseudo once edited) in
      let same : map (λ (u : UnitAnalysis). u.standard) a.units ≡ map (λ (u : UnitAnalysis). u.standard) b.units =
      standards before a.workspace a analysed ∙ sym (standards now a.workspace b behind) in
      let units : (n : ℕ) (u v : UnitAnalysis) → slice_get a.units n ≡ Some u → slice_get b.units n ≡ Some v → IsTrimmedUnit (is_gone lines u.text) u v =
      λ n u v at there.
      let c = compared.units n u v at there in
      record {
        standard = same_standard a.units b.units n u v same at there;
        many = c.many;
        toks = λ k within left. (c.each k within left).tok;
        tree = c.tree;
        names = λ k within left. (c.each k within left).name;
      } in
      record {
        files = files_trimmed lines a b second compared before now found pseudo once edited;
        analysis = b;
        analysed = behind;
        rest = record {
          workspace = second.workspace;
          many = compared.many;
          units = units;
          shared = denote_alike lines a b second.workspace compared.many units;
          asked = known lines a b second compared;
        };
      };
}

-- ---- lines that nothing keeps, one by one

pub removable-next : (xs ys : List declared.Judged) (j : declared.Judged) (old new : List Pos) → ys ≡ xs ++ j ∷ [] → old ≡ removable (map judged_in xs)
    → new ≡ old ++ removed_by (judged_in j) → new ≡ removable (map judged_in ys)
removable-next xs ys j old new more before put =
    put ∙ ap (λ (ps : List Pos). ps ++ removed_by (judged_in j)) before
    ∙ ap (λ (ps : List Pos). removable (map judged_in xs) ++ ps) (sym (append-nil (removed_by (judged_in j))))
    ∙ sym (flat_map-append removed_by (map judged_in xs) (judged_in j ∷ []))
    ∙ sym (ap removable (ap (map judged_in) more ∙ map-append judged_in xs (j ∷ [])))

-- ---- the second analysis

pub second-is : (lines : List Pos) (a b : AnalysisValue) (ws : WorkspaceValue) (files : FileMap) (table : Table) → ws ≡ a.workspace → b.workspace ≡ ws
    → All (IsFileOf lines a.table) files → b.table ≡ table → AreFound (source_of files) table
    → ((source : Source) → AreFound source table → analysis_of source ws ≡ Ok b) → IsSecond lines a b
second-is lines a b ws files table own workspace each told found over = record {
  workspace = workspace ∙ own;
  files = files;
  each = each;
  found = subst (λ (t : Table). AreFound (source_of files) t) (sym told) found;
  over = λ source agrees.
      subst (λ (w : WorkspaceValue). analysis_of source w ≡ Ok b) own (over source (subst (λ (t : Table). AreFound source t) told agrees));
}

-- one file more
pub file-more : (lines : List Pos) (table : Table) (old new : FileMap) (number : ℕ) (f : KeptValue) (path : List ℕ) → kept_at table number ≡ Some f → is_pseudo f.path ≡ false
    → path ≡ f.path → new ≡ old ++ (path, trimmed lines f) ∷ [] → All (IsFileOf lines table) old → All (IsFileOf lines table) new
file-more lines table old new number f path is real own more each =
    let x = entry_kept table number f is in
    let numbered : f.number ≡ number = (path_kept number x.0 f x.1.1).1 in
    let mine : IsFileOf lines table (path, trimmed lines f) = record {
      kept_file = f;
      kept = ap (kept_at table) numbered ∙ is;
      real = real;
      own = own;
      holds = refl;
    } in
    subst (λ (fs : FileMap). All (IsFileOf lines table) fs) (sym more) (All-append (IsFileOf lines table) old ((path, trimmed lines f) ∷ []) each (All-cons (IsFileOf lines table) (path, trimmed lines f) [] mine (All-nil (IsFileOf lines table))))

-- the bytes of a file behind its edit
pub trimmed-made : (lines : List Pos) (f : KeptValue) (t : TrimmedFile) → edit_made f (Some t) ≡ edit_in lines f → t.bytes.items ≡ trimmed lines f
unfolding trimmed
trimmed-made lines f t made = by (lines_in lines f) made
  where
    by : (is : List ItemText) → edit_made f (Some t) ≡ edit_for f is → t.bytes.items ≡ without is f
    by [] e = absurd (cc)
    by (i ∷ is) e = ap first e
      where
        first : List Edit → List ℕ
        first [] = []
        first (x ∷ xs) = x.bytes

pub trimmed-none : (lines : List Pos) (f : KeptValue) → edit_made f None ≡ edit_in lines f → f.bytes ≡ trimmed lines f
unfolding trimmed
trimmed-none lines f made = by (lines_in lines f) made
  where
    by : (is : List ItemText) → edit_made f None ≡ edit_for f is → f.bytes ≡ without is f
    by [] e = refl
    by (i ∷ is) e = absurd (cc)
