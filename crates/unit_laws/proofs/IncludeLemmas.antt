-- Included files, entered and left: what is true of what they give.
use Rattle.std.proofs.Common.{◌≡◌, ℕ, Bool, true, false, cond, List, [], ◌∷◌, drop, Option, Some, None, Ok, Err, refl}
use Rattle.cs_base.specs.declared.positions.Place.{Place}
use Rattle.cs_base.specs.declared.positions.Pos.{Pos}
use Rattle.cs_base.specs.Token.{Token}
use Rattle.cs_base.specs.Units.{UnitValue}
use Rattle.lexer.specs.FileText.{file_text}
use Rattle.source_files.specs.Limits.{the_limits}
use Rattle.source_files.specs.Faults.{place_in}
use Rattle.source_files.specs.Files.{Source, SourceFile, Table}
use Rattle.unit_steps.specs.Notes.{Note, Entered, Exited, ReadOnce}
use Rattle.unit_steps.specs.Directives.{is_read_once}
use Rattle.unit_steps.specs.State.{Context, context, State, did, Outcome, only, onward}
use Rattle.source_files.specs.Search.{Header, Searched, candidates_of, behind_of, search}
use Rattle.source_files.specs.Opening.{Opening, opening}
use Rattle.include_tree.specs.OpeningStep.{with_opened, open_file}
use Rattle.unit_steps.specs.Expanding.{expanded_in}
use Rattle.include_tree.specs.Including.{open_searched, open_header, Process, Inner, left_to, entered, unless_once, included, include_of, include_next_of}
use Rattle.unit_steps.specs.IncludeNames.{header_or, computed_header, header_named, written_header, next_named}
use Rattle.source_files.specs.HeaderNames.{is_header, header_in, header_of_toks, header_at, begins_header}
use Rattle.source_files.specs.Tables.{IsGrown}
use Rattle.source_files.specs.Sources.{source_at}
use Rattle.source_files.proofs.TableLemmas.{grown_refl, grown_trans}
use Rattle.include_tree.proofs.SearchLemmas.{search_wide}
use Rattle.source_files.proofs.SourcesLemmas.{opening-as}
use Rattle.include_tree.proofs.StayingLemmas.{source-grown}
use Rattle.expansion_laws.proofs.ListLemmas.{AllToks}
use Rattle.unit_laws.specs.UnitItems.{expanded_name, taken_next}
use Rattle.unit_laws.proofs.DoneLemmas.{UnitRules, PlaceHas, StateHas, Done, done_more, done_noted, done_onward, done_cond, done_only}
use Rattle.unit_laws.proofs.ExpandingLemmas.{expanded_done}

-- whatever the value
abbrev pub Any : {A : Type 0} → A → Type 0
Any a = Unit {0}

-- the file is kept in the table
abbrev pub FileIs : Table → SourceFile → Type 0
FileIs table file = source_at table file.number ≡ Some file

module _ (P : Token → Type 0) (M : Note → Type 0) (table : Table) (rules : UnitRules P M table) (source : Source) (unit : UnitValue) (earlier : ℕ) where
  -- what stays the same
  abbrev pub ctx : Context
  ctx = context source file_text unit the_limits earlier

  with_table : (s : State) (t : Table) → StateHas P s → StateHas P (record s { table = t })
  with_table s t has = record { macros = has.macros; names = has.names }

  opened_done : (place : Place) (path : List ℕ) (s : State) (o : Opening) → opening the_limits file_text place path s.table ≡ o
      → Done P M table (Unit {0}) (FileIs table) s (with_opened s o)
  opened_done place path s (Err found) is = tt
  opened_done place path s (Ok r) is =
      let fresh = opening-as s.table r.1 place path r.0 is in
      ((fresh.widens source).grown, λ p reach has told. (source-grown r.1 table r.0.number r.0 reach fresh.is_kept, with_table s r.1 has, tt))

  pub open_done : (place : Place) (path : List ℕ) (s : State) → Done P M table (Unit {0}) (FileIs table) s (open_file ctx place path s)
  open_done place path s = opened_done place path s (opening the_limits file_text place path s.table) refl

  -- a state with a table that has grown
  pub grown_done : {A : Type 0} (pre : Type 0) (V : A → Type 0) (s : State) (t : Table) (m : Outcome A) → IsGrown s.table t
      → Done P M table pre V (record s { table = t }) m → Done P M table pre V s m
  grown_done pre V s t (Ok d) grown h = (grown_trans s.table t d.state.table grown h.0, λ p reach has told. h.1 p reach (with_table s t has) told)
  grown_done pre V s t (Err found) grown h = tt

  searched_done : (file : SourceFile) (at : Pos) (s : State) (found : Searched) (o : Option (List ℕ)) → IsGrown s.table found.table
      → Done P M table (Unit {0}) (FileIs table) s (open_searched ctx file at s found o)
  searched_done file at s found None grown = tt
  searched_done file at s found (Some path) grown =
      grown_done (Unit {0}) (FileIs table) s found.table (open_file ctx (place_in file at) path (record s { table = found.table })) grown
      (open_done (place_in file at) path (record s { table = found.table }))

  header_done : (file : SourceFile) (at : Pos) (next : Bool) (h : Header) (s : State) → Done P M table (Unit {0}) (FileIs table) s (open_header ctx file at next h s)
  header_done file at next h s =
      let paths = candidates_of next h s.behind file.path unit in
      let found : Searched = search source paths s.table in
      searched_done file at s found found.path (search_wide source paths s.table).grown

  pub or_done : (pre : Type 0) (file : SourceFile) (at : Pos) (toks : List Token) (s : State) (o : Option Header) → (pre → AllToks P toks)
      → Done P M table pre (Any {A = Header}) s (header_or file at toks s o)
  or_done pre file at toks s None h = tt
  or_done pre file at toks s (Some header) h = (grown_refl s.table, λ p reach has told. (tt, has, (h p, tt)))

  computed_done : (file : SourceFile) (at : Pos) (toks : List Token) (s : State) → Done P M table (AllToks P toks) (Any {A = Header}) s (computed_header file at toks s)
  computed_done file at toks s =
      done_onward P M table (AllToks P toks) (AllToks P) (Any {A = Header}) s (expanded_in false file toks s) (λ out t. header_or file at out t (header_of_toks out))
      (expanded_done P M table rules false file toks s) (λ out t. or_done (AllToks P toks × AllToks P out) file at out t (header_of_toks out) (λ p. p.1))

  named_by : (file : SourceFile) (at : Pos) (t : Token) (toks : List Token) (s : State) (b : Bool)
      → Done P M table (AllToks P (cond b [] (t ∷ toks))) (Any {A = Header}) s (cond b (only (header_in t.text) s) (computed_header file at (t ∷ toks) s))
  named_by file at t toks s true = done_only P M table (Unit {0}) (Any {A = Header}) s (header_in t.text) (λ p. tt)
  named_by file at t toks s false = computed_done file at (t ∷ toks) s

  named_done : (file : SourceFile) (at : Pos) (toks : List Token) (s : State) → Done P M table (AllToks P (expanded_name toks)) (Any {A = Header}) s (header_named file at toks s)
  named_done file at [] s = tt
  named_done file at (t ∷ toks) s = named_by file at t toks s (is_header t.kind)

  written_done : (file : SourceFile) (at : Pos) (s : State) (o : Option Header) → Done P M table (Unit {0}) (Any {A = Header}) s (written_header file at s o)
  written_done file at s None = tt
  written_done file at s (Some h) = done_only P M table (Unit {0}) (Any {A = Header}) s h (λ p. tt)

  next_by : (file : SourceFile) (at : Pos) (toks : List Token) (s : State) (b : Bool)
      → Done P M table (AllToks P (cond b [] toks)) (Any {A = Header}) s (cond b (written_header file at s (header_at toks)) (computed_header file at toks s))
  next_by file at toks s true = written_done file at s (header_at toks)
  next_by file at toks s false = computed_done file at toks s

  next_named_done : (file : SourceFile) (at : Pos) (toks : List Token) (s : State) → Done P M table (AllToks P (taken_next toks)) (Any {A = Header}) s (next_named file at toks s)
  next_named_done file at toks s = next_by file at toks s (begins_header toks)

  -- what is known of the items of included files
  abbrev pub ProcessDone : Process → Type 0
  ProcessDone process = (file : SourceFile) (s : State) → Done P M table (FileIs table file) (AllToks P) s (process file s)

  abbrev pub InnerDone : Inner → Type 0
  InnerDone None = Unit {0}
  InnerDone (Some process) = ProcessDone process

  -- where a search for the next file of a name begins says nothing of tokens
  with_place : (s : State) (behind : Option ℕ) → StateHas P s → StateHas P (record s { behind = behind })
  with_place s behind has = record { macros = has.macros; names = has.names }

  placed_done : {A : Type 0} (pre : Type 0) (V : A → Type 0) (s : State) (behind : Option ℕ) (m : Outcome A) → Done P M table pre V (record s { behind = behind }) m → Done P M table pre V s m
  placed_done pre V s behind (Ok d) h = (h.0, λ p reach has told. h.1 p reach (with_place s behind has) told)
  placed_done pre V s behind (Err found) h = tt

  left_done : {A : Type 0} (pre : Type 0) (V : A → Type 0) (s : State) (behind : Option ℕ) (m : Outcome A) → Done P M table pre V s m → Done P M table pre V s (left_to behind m)
  left_done pre V s behind (Ok d) h = (h.0, λ p reach has told. let r = h.1 p reach has told in (r.0, with_place d.state behind r.1, r.2))
  left_done pre V s behind (Err found) h = tt

  exited_done : (pre : Type 0) (at : Pos) (file : SourceFile) (toks : List Token) (t : State) → (pre → AllToks P toks) → (pre → PlaceHas P at)
      → Done P M table pre (AllToks P) t (Ok (did toks (Exited at file.number t.before ∷ []) t))
  exited_done pre at file toks t h place = (grown_refl t.table, λ p reach has told. (h p, has, (place p, tt)))

  -- the items of a file, or none where it is read once
  passes_done : (process : Process) → ProcessDone process → (pre : Type 0) (at : Pos) (file : SourceFile) (s : State) → (pre → FileIs table file) → (pre → PlaceHas P at)
      → Done P M table pre (AllToks P) s (unless_once at process file s)
  passes_done process known pre at file s h place =
      done_cond P M table pre (AllToks P) s (is_read_once file.number s) (Ok (did [] (ReadOnce true at file.number s.before ∷ []) s)) (process file s)
      (grown_refl s.table, λ p reach has told. (tt, has, (place p, tt)))
      (done_more P M table (FileIs table file) pre (AllToks P) (AllToks P) s (process file s) h (λ a p k. k) (known file s))

  entered_done : (process : Process) (pre : Type 0) (at : Pos) (behind : Option ℕ) (file : SourceFile) (s : State)
      → Done P M table pre (AllToks P) (record s { behind = behind }) (process file (record s { behind = behind })) → (pre → PlaceHas P at)
      → Done P M table pre (AllToks P) s (entered process at behind file s)
  entered_done process pre at behind file s known place =
      let inside : State = record s { behind = behind } in
      let exit : List Token → State → Outcome (List Token) = λ toks t. Ok (did toks (Exited at file.number t.before ∷ []) t) in
      done_noted P M table pre (AllToks P) s (Entered at file.number s.before ∷ []) (left_to s.behind (onward (process file inside) exit)) (λ p. (place p, tt))
      (left_done pre (AllToks P) s s.behind (onward (process file inside) exit)
      (done_onward P M table pre (AllToks P) (AllToks P) s (process file inside) exit
      (placed_done pre (AllToks P) s behind (process file inside) known)
      (λ toks t. exited_done (pre × AllToks P toks) at file toks t (λ p. p.1) (λ p. place p.0))))

  included_done : (inner : Inner) → InnerDone inner → (pre : Type 0) (file : SourceFile) (at : Pos) (next : Bool) (h : Header) (s : State) → (pre → PlaceHas P at)
      → Done P M table pre (AllToks P) s (included ctx inner file at next h s)
  included_done None known pre file at next h s place = tt
  included_done (Some process) known pre file at next h s place =
      let place_of : SourceFile → Option ℕ = λ f. behind_of next h s.behind file.path unit f.path in
      done_onward P M table pre (FileIs table) (AllToks P) s (open_header ctx file at next h s) (λ f t. entered (unless_once at process) at (place_of f) f t)
      (done_more P M table (Unit {0}) pre (FileIs table) (FileIs table) s (open_header ctx file at next h s) (λ p. tt) (λ a p k. k) (header_done file at next h s))
      (λ f t. entered_done (unless_once at process) (pre × FileIs table f) at (place_of f) f t
      (passes_done process known (pre × FileIs table f) at f (record t { behind = place_of f }) (λ p. p.1) (λ p. place p.0)) (λ p. place p.0))

  pub include_done : (inner : Inner) → InnerDone inner → (file : SourceFile) (at : Pos) (toks : List Token) (s : State)
      → Done P M table (AllToks P (expanded_name (drop 2 toks)) × PlaceHas P at) (AllToks P) s (include_of ctx inner file at toks s)
  include_done inner known file at toks s =
      let pre : Type 0 = AllToks P (expanded_name (drop 2 toks)) × PlaceHas P at in
      done_onward P M table pre (Any {A = Header}) (AllToks P) s (header_named file at (drop 2 toks) s) (included ctx inner file at false)
      (done_more P M table (AllToks P (expanded_name (drop 2 toks))) pre (Any {A = Header}) (Any {A = Header}) s (header_named file at (drop 2 toks) s)
      (λ p. p.0) (λ a p k. tt) (named_done file at (drop 2 toks) s))
      (λ h t. included_done inner known (pre × Any h) file at false h t (λ p. p.0.1))

  pub include_next_done : (inner : Inner) → InnerDone inner → (file : SourceFile) (at : Pos) (toks : List Token) (s : State)
      → Done P M table (AllToks P (taken_next (drop 2 toks)) × PlaceHas P at) (AllToks P) s (include_next_of ctx inner file at toks s)
  include_next_done inner known file at toks s =
      let pre : Type 0 = AllToks P (taken_next (drop 2 toks)) × PlaceHas P at in
      done_onward P M table pre (Any {A = Header}) (AllToks P) s (next_named file at (drop 2 toks) s) (included ctx inner file at true)
      (done_more P M table (AllToks P (taken_next (drop 2 toks))) pre (Any {A = Header}) (Any {A = Header}) s (next_named file at (drop 2 toks) s)
      (λ p. p.0) (λ a p k. tt) (next_named_done file at (drop 2 toks) s))
      (λ h t. included_done inner known (pre × Any h) file at true h t (λ p. p.0.1))
