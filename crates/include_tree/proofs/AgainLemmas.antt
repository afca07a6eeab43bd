-- The steps of a unit once more, in another unit.
use Rattle.std.proofs.Common.{◌≡◌, ℕ, zero, suc, ◌+◌, ◌-◌, ◌≤◌, nat_lt, Bool, true, false, not, ◌&&◌, ◌||◌, cond, is_some, List, [], ◌∷◌, ◌++◌, length, drop, Option, None, Some, Result, Ok, Err, refl, sym, ◌∙◌, ap, subst, inl, inr, arith, ltb-true}
use Rattle.std.specs.List.{list_any}
use Rattle.std.proofs.lemmas.Bool.{cases_Bool}
use Rattle.cs_base.specs.declared.causes.Cause.TheVariants.{BadDirective, DefinedFromMacro}
use Rattle.cs_base.specs.declared.positions.Place.{Place}
use Rattle.cs_base.specs.declared.positions.Pos.{Pos}
use Rattle.cs_base.specs.declared.ws_units.Setting.{Setting}
use Rattle.cs_base.specs.Token.{Token}
use Rattle.cs_base.specs.Paths.{is_absolute}
use Rattle.cs_base.specs.Units.{is_gnu}
use Rattle.source_files.specs.Below.line_shape.Signs.{is_name}
use Rattle.source_files.specs.Below.line_shape.declared.items.ItemKind.{ItemKind}
use Rattle.source_files.specs.Below.line_shape.declared.items.ItemKind.TheVariants as kind
use Rattle.source_files.specs.Below.line_shape.declared.items.GnuLine.{GnuLine}
use Rattle.source_files.specs.Below.line_shape.declared.items.GnuLine.TheVariants as gnu
use Rattle.unit_steps.specs.Below.cond_eval.declared.faults.CondFault.{CondFault}
use Rattle.unit_steps.specs.Below.cond_eval.Evaluation.{condition}
use Rattle.unit_steps.specs.Below.macro_body.declared.definitions.Definition.{Definition}
use Rattle.unit_steps.specs.Below.macro_body.Notes as expansion
use Rattle.unit_steps.specs.Below.macro_expand.Expansion.{expansion}
use Rattle.unit_steps.specs.Below.macro_body.Defining.{defined_by, in_gnu}
use Rattle.source_files.specs.Files.{Source, Table, SourceFile}
use Rattle.source_files.specs.Faults.{Fault, fault_at, place_in}
use Rattle.source_files.specs.HeaderNames.{header_of_toks, is_header, header_in, header_at, begins_header}
use Rattle.source_files.specs.Opening.{Opening, opening}
use Rattle.source_files.specs.Search.{Header, Searched, searched, Place as Where, passed_for, places_behind, places_for, paths_in, behind_in, behind_of, candidates_of, search}
use Rattle.source_files.specs.Tables.{IsGrown}
use Rattle.source_files.proofs.TableLemmas.{grown_refl, grown_trans}
use Rattle.unit_steps.specs.Notes.{Note, Reaches, Undefined, Answered, Entered, Exited, ReadOnce}
use Rattle.unit_steps.specs.State.{Context, context, State, Did, did, Outcome, only, noted, onward}
use Rattle.unit_steps.specs.Names.{name_links, with_name, spelled_in}
use Rattle.unit_steps.specs.Expanding.{expanded_as, expanded_in, most_toks, put_out, past_limit, run_of}
use Rattle.unit_steps.specs.Conditions.{Piece, Plain, Asks, pieces_from, answered, with_front, answer_for, is_macro, test_notes, left_over, left_name, valued, judged, asked_pieces, asked_toks, holds, is_defined}
use Rattle.unit_steps.specs.Directives.{defined_as, define_of, undefined_as, undef_of, operand_in, asks_name, opens_with, goes_with, goes_with_line, define_notes, after_define, after_undef, may_define, is_if, says_once, said_once, pragma_of, is_read_once}
use Rattle.unit_steps.specs.IncludeNames.{header_or, computed_header, header_named, written_header, next_named}
use Rattle.unit_steps.specs.Questions.{Question, Unasked, Looks, Lacks, asks_next, questions_from, found_as}
use Rattle.include_tree.specs.OpeningStep.{with_opened, open_file}
use Rattle.include_tree.specs.Asking.{there, there_found, is_there, look_for, look, looked, gnu_known, gnu_asked, gnu_holds, asks_files, opens_in, goes_in}
use Rattle.include_tree.specs.Including.{open_searched, open_found, open_header, Process, Inner, left_to, entered, unless_once, included, include_of, include_next_of}
use Rattle.include_tree.specs.Sections.{Group, Processed, Awaited, Over, Skipped, Section, section, is_alive, are_processed, group_if, group_of_else, Turn, Opens, GoesOn, GoesLast, Ends, Stays, turn_of}
use Rattle.include_tree.specs.Walk.{ItemText, items_in, processed, Stepped, stepped, reaching, go_on, opens, goes_on, reaching_alive, in_section, turned, is_foreign, foreign_line, item_step, file_end, walk, file_items}
use Rattle.include_tree.specs.Laws.{IfDone, Leads}
use Rattle.include_tree.specs.Again.{unit_like, ItemsGiveTheSameAgain}
use Rattle.include_tree.proofs.SearchLemmas.{search_wide, open_file_leads}
use Rattle.include_tree.proofs.AgainTables.{search_again, opening_again}

module _ (ctx : Context) (source : Source) (project path : List ℕ) (settings : List Setting) (includes : List (List ℕ)) (earlier : ℕ) (later : Table) where
  abbrev pub other : Context
  other = context source ctx.reader (unit_like ctx.unit project path settings includes) ctx.limits earlier

  abbrev pub moved : State → State
  moved s = record s { table = later }

  -- the table grows, and tokens are put out
  abbrev Moves : State → State → Type 0
  Moves s t = IsGrown s.table t.table × (s.before ≤ t.before)

  -- the second outcome is the first one, where that has no fault, but for the table
  abbrev pub Again : {A : Type 0} → State → Outcome A → Outcome A → Type 0
  Again {A} s (Ok d) n =
      Moves s d.state × (IsGrown d.state.table later → d.state.before ≤ most_toks other → ◌≡◌ {A = Outcome A} n (Ok (did d.value d.notes (moved d.state))))
  Again s (Err found) n = Unit {0}

  stays : (s : State) → Moves s s
  stays s = (grown_refl s.table, omega arith)

  moves_trans : (s t u : State) → Moves s t → Moves t u → Moves s u
  moves_trans s t u h k = (grown_trans s.table t.table u.table h.0 k.0, let a = h.1 in let b = k.1 in omega arith)

  -- a step that leaves the table
  leaves : {A : Type 0} (a : A) (notes : List Note) (s t u : State) → Moves s t → u ≡ moved t → Again s (Ok (did a notes t)) (Ok (did a notes u))
  leaves a notes s t u h e = (h, λ g few. ap (λ (x : State). Ok (did a notes x)) e)

  pub same : {A : Type 0} (a : A) (notes : List Note) (s : State) → Again s (Ok (did a notes s)) (Ok (did a notes (moved s)))
  same a notes s = leaves a notes s s (moved s) (stays s) refl

  noted_again : {A : Type 0} (notes : List Note) (s : State) (m n : Outcome A) → Again s m n → Again s (noted notes m) (noted notes n)
  noted_again notes s (Ok d) n h = (h.0, λ g few. ap (noted notes) (h.1 g few))
  noted_again notes s (Err found) n h = tt

  then_again : {A B : Type 0} (s : State) (d : Did A) (n : Outcome A) (next : A → State → Outcome B) (m2 : Outcome B) → Again s (Ok d) n
      → Again d.state m2 (next d.value (moved d.state)) → Again s (noted d.notes m2) (onward n next)
  then_again {A} {B} s d n next (Ok e) h k = (
    moves_trans s d.state e.state h.0 k.0,
    λ g few.
        let up = grown_trans d.state.table e.state.table later k.0.0 g in
        let less : d.state.before ≤ most_toks other = (let a = k.0.1 in omega (arith, few)) in
        ap (λ (x : Outcome A). onward x next) (h.1 up less) ∙ ap (noted d.notes) (k.1 g few),
  )
  then_again s d n next (Err found) h k = tt

  pub onward_again : {A B : Type 0} (s : State) (m n : Outcome A) (next next2 : A → State → Outcome B) → Again s m n
      → ((a : A) (t : State) → Again t (next a t) (next2 a (moved t))) → Again s (onward m next) (onward n next2)
  onward_again s (Ok d) n next next2 h k = then_again s d n next2 (next d.value d.state) h (k d.value d.state)
  onward_again s (Err found) n next next2 h k = tt

  cond_again : {A : Type 0} (b : Bool) (s : State) (m n m2 n2 : Outcome A) → Again s m m2 → Again s n n2 → Again s (cond b m n) (cond b m2 n2)
  cond_again true s m n m2 n2 h k = h
  cond_again false s m n m2 n2 h k = k

  -- a step that begins at a state with another table
  from_again : {A : Type 0} (s t : State) (m n : Outcome A) → Moves s t → Again t m n → Again s m n
  from_again s t (Ok d) n h k = (moves_trans s t d.state h k.0, k.1)
  from_again s t (Err found) n h k = tt

  -- ---- names, expansions, definitions

  cond_moved : (b : Bool) (s t : State) → cond b (moved s) (moved t) ≡ moved (cond b s t)
  cond_moved true s t = refl
  cond_moved false s t = refl

  cond_moves : (b : Bool) (s t u : State) → Moves s t → Moves s u → Moves s (cond b t u)
  cond_moves true s t u h k = h
  cond_moves false s t u h k = k

  name_moved : (name : Token) (s : State) → with_name name (moved s) ≡ moved (with_name name s)
  name_moved name s = cond_moved (is_some (spelled_in s.names name.text)) s (record s { names = s.names ++ name ∷ [] })

  name_moves : (name : Token) (s : State) → Moves s (with_name name s)
  name_moves name s = cond_moves (is_some (spelled_in s.names name.text)) s s (record s { names = s.names ++ name ∷ [] }) (stays s) (stays s)

  expanded_as_again : (run : Bool) (file : SourceFile) (s : State) (r : Result expansion.Expanded expansion.Fault) → Again s (expanded_as run file s r) (expanded_as run file (moved s) r)
  expanded_as_again run file s (Ok e) = (stays s, λ g few. refl)
  expanded_as_again run file s (Err found) = tt

  expanded_again : (run : Bool) (file : SourceFile) (toks : List Token) (s : State) → Again s (expanded_in run file toks s) (expanded_in run file toks (moved s))
  expanded_again run file toks s = expanded_as_again run file s (expansion s.macros file.path toks s.work)

  put_out_by : (file : SourceFile) (toks : List Token) (s : State) (found : Fault) (b : Bool)
      → Again s (cond b (Err found) (only toks (record s { before = s.before + length toks }))) (put_out other file toks (moved s))
  put_out_by file toks s found true = tt
  put_out_by file toks s found false = (
    (grown_refl s.table, omega arith),
    λ g few.
        let within : nat_lt (most_toks other) (s.before + length toks) ≡ false = elim (cases_Bool (nat_lt (most_toks other) (s.before + length toks))) [
          | inl past ↦ absurd (let p = ltb-true _ _ past in omega (arith, p, few))
          | inr fits ↦ fits
        ] in
        rw within refl,
  )

  put_out_again : (file : SourceFile) (toks : List Token) (s : State) → Again s (put_out ctx file toks s) (put_out other file toks (moved s))
  put_out_again file toks s = put_out_by file toks s (past_limit file (drop (most_toks ctx - s.before) toks)) (nat_lt (most_toks ctx) (s.before + length toks))

  run_again : (file : SourceFile) (toks : List Token) (s : State) → Again s (run_of ctx file toks s) (run_of other file toks (moved s))
  run_again file toks s =
      onward_again s (expanded_in true file toks s) (expanded_in true file toks (moved s)) (put_out ctx file) (put_out other file) (expanded_again true file toks s)
      (λ out t. put_out_again file out t)

  defined_by_again : (own : Definition) (s : State) (found : Fault) (b : Bool)
      → Again {A = List Token} s (cond b (Ok (did [] (define_notes own s) (after_define own s))) (Err found)) (cond b (Ok (did [] (define_notes own (moved s)) (after_define own (moved s)))) (Err found))
  defined_by_again own s found true =
      leaves [] (define_notes own s) s (after_define own s) (after_define own (moved s)) (name_moves own.name s)
      (ap (λ (x : State). record x { macros = (after_define own s).macros }) (name_moved own.name s))
  defined_by_again own s found false = tt

  defined_as_again : (gnu_ : Bool) (file : SourceFile) (at : Pos) (s : State) (o : Option Definition) → Again s (defined_as gnu_ file at s o) (defined_as gnu_ file at (moved s) o)
  defined_as_again gnu_ file at s None = tt
  defined_as_again gnu_ file at s (Some m) = defined_by_again (in_gnu gnu_ m) s (fault_at file at BadDirective) (may_define gnu_ m)

  define_again : (gnu_ : Bool) (file : SourceFile) (at : Pos) (toks : List Token) (s : State) → Again s (define_of gnu_ file at toks s) (define_of gnu_ file at toks (moved s))
  define_again gnu_ file at toks s = defined_as_again gnu_ file at s (defined_by toks)

  undefined_again : (file : SourceFile) (at : Pos) (s : State) (o : Option Token) → Again s (undefined_as file at s o) (undefined_as file at (moved s) o)
  undefined_again file at s None = tt
  undefined_again file at s (Some name) =
      (name_moves name s, λ g few. ap (λ (x : State). Ok (did [] (Undefined name s.before ∷ name_links name s) (record x { macros = (after_undef name s).macros }))) (name_moved name s))

  undef_again : (file : SourceFile) (at : Pos) (toks : List Token) (s : State) → Again s (undef_of file at toks s) (undef_of file at toks (moved s))
  undef_again file at toks s = undefined_again file at s (operand_in toks)

  asks_again : (file : SourceFile) (at : Pos) (answer : Bool → Bool) (s : State) (o : Option Token) → Again s (asks_name file at answer s o) (asks_name file at answer (moved s) o)
  asks_again file at answer s None = tt
  asks_again file at answer s (Some name) = (name_moves name s, λ g few. ap (λ (x : State). Ok (did (answer (is_macro name s)) (test_notes name s) x)) (name_moved name s))

  -- ---- conditions

  answered_moved : (pieces : List Piece) (s : State) → answered pieces (moved s) ≡ did (answered pieces s).value (answered pieces s).notes (moved (answered pieces s).state)
  unfolding answered
  answered_moved [] s = refl
  answered_moved (Plain t ∷ pieces) s = ap (with_front t []) (answered_moved pieces s)
  answered_moved (Asks word name ∷ pieces) s =
      let told : List Note = test_notes name s ++ Answered (answer_for word (is_macro name s)) ∷ [] in
      ap (λ (x : State). with_front (answer_for word (is_macro name s)) told (answered pieces x)) (name_moved name s)
      ∙ ap (with_front (answer_for word (is_macro name s)) told) (answered_moved pieces (with_name name s))

  answered_moves : (pieces : List Piece) (s : State) → Moves s (answered pieces s).state
  unfolding answered
  answered_moves [] s = stays s
  answered_moves (Plain t ∷ pieces) s = answered_moves pieces s
  answered_moves (Asks word name ∷ pieces) s = moves_trans s (with_name name s) (answered pieces (with_name name s)).state (name_moves name s) (answered_moves pieces (with_name name s))

  left_moved : (toks : List Token) (s : State) → left_over toks (moved s) ≡ did tt (left_over toks s).notes (moved (left_over toks s).state)
  unfolding left_over
  left_moved [] s = refl
  left_moved (t ∷ toks) s = elim (cases_Bool (is_name t)) [
    | inl name ↦
        rw name (ap (λ (x : State). left_name t s (left_over toks x)) (name_moved t s) ∙ ap (left_name t s) (left_moved toks (with_name t s)))
    | inr no_name ↦ rw no_name (left_moved toks s)
  ]

  left_moves : (toks : List Token) (s : State) → Moves s (left_over toks s).state
  unfolding left_over
  left_moves [] s = stays s
  left_moves (t ∷ toks) s = elim (cases_Bool (is_name t)) [
    | inl name ↦ rw name (moves_trans s (with_name t s) (left_over toks (with_name t s)).state (name_moves t s) (left_moves toks (with_name t s)))
    | inr no_name ↦ rw no_name (left_moves toks s)
  ]

  valued_again : (file : SourceFile) (at : Pos) (toks : List Token) (s : State) (r : Result Bool CondFault) → Again s (valued file at toks s r) (valued file at toks (moved s) r)
  valued_again file at toks s (Ok b) = (left_moves toks s, λ g few. ap (λ (x : Did (Unit {0})). Ok (did b x.notes x.state)) (left_moved toks s))
  valued_again file at toks s (Err found) = tt

  judged_again : (file : SourceFile) (at : Pos) (toks : List Token) (s : State) → Again s (judged file at toks s) (judged file at toks (moved s))
  judged_again file at toks s =
      cond_again (list_any is_defined toks) s (Err (fault_at file at DefinedFromMacro)) (valued file at toks s (condition toks)) (Err (fault_at file at DefinedFromMacro)) (valued file at toks (moved s) (condition toks)) tt
      (valued_again file at toks s (condition toks))

  asked_pieces_again : (file : SourceFile) (at : Pos) (s : State) (o : Option (List Piece)) → Again s (asked_pieces file at s o) (asked_pieces file at (moved s) o)
  asked_pieces_again file at s None = tt
  asked_pieces_again file at s (Some pieces) =
      onward_again s (Ok (answered pieces s)) (Ok (answered pieces (moved s))) (expanded_in false file) (expanded_in false file)
      (answered_moves pieces s, λ g few. ap (λ (x : Did (List Token)). Ok x) (answered_moved pieces s)) (λ toks t. expanded_again false file toks t)

  asked_again : (file : SourceFile) (at : Pos) (toks : List Token) (s : State) → Again s (asked_toks file at toks s) (asked_toks file at toks (moved s))
  asked_again file at toks s = asked_pieces_again file at s (pieces_from 0 toks)

  holds_again : (file : SourceFile) (at : Pos) (toks : List Token) (s : State) → Again s (holds file at toks s) (holds file at toks (moved s))
  holds_again file at toks s =
      onward_again s (asked_toks file at toks s) (asked_toks file at toks (moved s)) (judged file at) (judged file at) (asked_again file at toks s) (λ out t. judged_again file at out t)

  -- ---- headers

  header_or_again : (file : SourceFile) (at : Pos) (toks : List Token) (s : State) (o : Option Header) → Again s (header_or file at toks s o) (header_or file at toks (moved s) o)
  header_or_again file at toks s None = tt
  header_or_again file at toks s (Some h) = (stays s, λ g few. refl)

  computed_again : (file : SourceFile) (at : Pos) (toks : List Token) (s : State) → Again s (computed_header file at toks s) (computed_header file at toks (moved s))
  computed_again file at toks s =
      onward_again s (expanded_in false file toks s) (expanded_in false file toks (moved s)) (λ out t. header_or file at out t (header_of_toks out)) (λ out t. header_or file at out t (header_of_toks out))
      (expanded_again false file toks s) (λ out t. header_or_again file at out t (header_of_toks out))

  written_again : (file : SourceFile) (at : Pos) (s : State) (o : Option Header) → Again s (written_header file at s o) (written_header file at (moved s) o)
  written_again file at s None = tt
  written_again file at s (Some h) = same h [] s

  header_again : (file : SourceFile) (at : Pos) (toks : List Token) (s : State) → Again s (header_named file at toks s) (header_named file at toks (moved s))
  header_again file at [] s = tt
  header_again file at (t ∷ toks) s =
      cond_again (is_header t.kind) s (only (header_in t.text) s) (computed_header file at (t ∷ toks) s) (only (header_in t.text) (moved s)) (computed_header file at (t ∷ toks) (moved s))
      (same (header_in t.text) [] s) (computed_again file at (t ∷ toks) s)

  next_again : (file : SourceFile) (at : Pos) (toks : List Token) (s : State) → Again s (next_named file at toks s) (next_named file at toks (moved s))
  next_again file at toks s =
      cond_again (begins_header toks) s (written_header file at s (header_at toks)) (computed_header file at toks s) (written_header file at (moved s) (header_at toks)) (computed_header file at toks (moved s))
      (written_again file at s (header_at toks)) (computed_again file at toks s)

  -- ---- files

  passed_like : (next : Bool) (h : Header) (behind : Option ℕ) → passed_for next h behind other.unit ≡ passed_for next h behind ctx.unit
  passed_like true h (Some k) = refl
  passed_like true h None = refl
  passed_like false h behind = refl

  behind_like : (name : List ℕ) (passed : Option ℕ) → places_behind name other.unit passed ≡ places_behind name ctx.unit passed
  behind_like name (Some k) = refl
  behind_like name None = refl

  places_like : (next : Bool) (h : Header) (behind : Option ℕ) (name : List ℕ) → places_for next h behind name other.unit ≡ places_for next h behind name ctx.unit
  places_like next h behind name =
      ap (places_behind name other.unit) (passed_like next h behind) ∙ behind_like name (passed_for next h behind ctx.unit)

  candidates_like : (next : Bool) (h : Header) (behind : Option ℕ) (name : List ℕ) → candidates_of next h behind name other.unit ≡ candidates_of next h behind name ctx.unit
  candidates_like next h behind name = ap (paths_in h.name) (places_like next h behind name)

  place_like : (next : Bool) (h : Header) (behind : Option ℕ) (name found : List ℕ) → behind_of next h behind name other.unit found ≡ behind_of next h behind name ctx.unit found
  place_like next h behind name found =
      ap (λ (places : List Where). cond (not (is_gnu ctx.unit.standard) || is_absolute h.name) None (behind_in h.name found places)) (places_like next h behind name)

  opened_by : (place : Place) (name : List ℕ) (s : State) (m : Opening) → ◌≡◌ {A = Opening} (opening ctx.limits ctx.reader place name s.table) m
      → IfDone (λ f t. Leads ctx s 0 t) (with_opened s m) → Again s (with_opened s m) (with_opened (moved s) (opening ctx.limits ctx.reader place name later))
  opened_by place name s (Ok r) is leads =
      ((leads.table.grown, omega arith), λ g few. ap (with_opened (moved s)) (opening_again ctx.limits ctx.reader place name s.table later r.1 r.0 is g))
  opened_by place name s (Err found) is leads = tt

  pub open_again : (place : Place) (name : List ℕ) (s : State) → Again s (open_file ctx place name s) (open_file other place name (moved s))
  open_again place name s = opened_by place name s (opening ctx.limits ctx.reader place name s.table) refl (open_file_leads ctx place name s)

  -- a search, and then a step
  search_then : {A : Type 0} (s : State) (paths : List (List ℕ)) (m : Outcome A) (next : Searched → Outcome A)
      → Again (record s { table = (search ctx.source paths s.table).table }) m (next (searched (search ctx.source paths s.table).path later))
      → Again s m (next (search source paths later))
  search_then s paths (Ok d) next h =
      let found : Searched = search ctx.source paths s.table in (
        (grown_trans s.table found.table d.state.table (search_wide ctx.source paths s.table).grown h.0.0, h.0.1),
        λ g few. ap next (search_again ctx.source source paths s.table later (grown_trans found.table d.state.table later h.0.0 g)) ∙ h.1 g few,
      )
  search_then s paths (Err found) next h = tt

  searched_again : (file : SourceFile) (at : Pos) (s : State) (found : Searched) (o : Option (List ℕ))
      → Again (record s { table = found.table }) (open_searched ctx file at s found o) (open_searched other file at (moved s) (searched o later) o)
  searched_again file at s found None = tt
  searched_again file at s found (Some name) = open_again (place_in file at) name (record s { table = found.table })

  open_header_again : (file : SourceFile) (at : Pos) (next : Bool) (h : Header) (s : State) → Again s (open_header ctx file at next h s) (open_header other file at next h (moved s))
  open_header_again file at next h s =
      let paths : List (List ℕ) = candidates_of next h s.behind file.path ctx.unit in
      let found : Searched = search ctx.source paths s.table in
      subst (λ (ps : List (List ℕ)). Again s (open_header ctx file at next h s) (open_found other file at (moved s) (search source ps later))) (sym (candidates_like next h s.behind file.path))
      (search_then s paths (open_header ctx file at next h s) (open_found other file at (moved s)) (searched_again file at s found found.path))

  there_again : (file : SourceFile) (at : Pos) (s : State) (found : Searched) (o : Option (List ℕ))
      → Again (record s { table = found.table }) (there ctx file at s found o) (there other file at (moved s) (searched o later) o)
  there_again file at s found None = same false [] (record s { table = found.table })
  there_again file at s found (Some name) =
      let t : State = record s { table = found.table } in
      onward_again t (open_file ctx (place_in file at) name t) (open_file other (place_in file at) name (moved t)) (λ f u. only true u) (λ f u. only true u)
      (open_again (place_in file at) name t) (λ f u. same true [] u)

  is_there_again : (file : SourceFile) (at : Pos) (next : Bool) (h : Header) (s : State) → Again s (is_there ctx file at next h s) (is_there other file at next h (moved s))
  is_there_again file at next h s =
      let paths : List (List ℕ) = candidates_of next h s.behind file.path ctx.unit in
      let found : Searched = search ctx.source paths s.table in
      subst (λ (ps : List (List ℕ)). Again s (is_there ctx file at next h s) (there_found other file at (moved s) (search source ps later))) (sym (candidates_like next h s.behind file.path))
      (search_then s paths (is_there ctx file at next h s) (there_found other file at (moved s)) (there_again file at s found found.path))

  look_again : (file : SourceFile) (at : Pos) (q : Question) (s : State) → Again s (look ctx file at q s) (look other file at q (moved s))
  look_again file at (Unasked t) s = same t [] s
  look_again file at (Looks word operand) s =
      onward_again s (header_or file at operand s (header_of_toks operand)) (header_or file at operand (moved s) (header_of_toks operand)) (look_for ctx file at word) (look_for other file at word)
      (header_or_again file at operand s (header_of_toks operand))
      (λ h t. onward_again t (is_there ctx file at (asks_next word) h t) (is_there other file at (asks_next word) h (moved t)) (found_as word) (found_as word)
      (is_there_again file at (asks_next word) h t) (λ b u. (stays u, λ g few. refl)))
  look_again file at Lacks s = tt

  looked_again : (file : SourceFile) (at : Pos) (qs : List Question) (s : State) → Again s (looked ctx file at qs s) (looked other file at qs (moved s))
  unfolding looked
  looked_again file at [] s = same [] [] s
  looked_again file at (q ∷ qs) s =
      onward_again s (look ctx file at q s) (look other file at q (moved s)) (λ t u. onward (looked ctx file at qs u) (λ toks v. only (t ∷ toks) v)) (λ t u. onward (looked other file at qs u) (λ toks v. only (t ∷ toks) v))
      (look_again file at q s)
      (λ t u. onward_again u (looked ctx file at qs u) (looked other file at qs (moved u)) (λ toks v. only (t ∷ toks) v) (λ toks v. only (t ∷ toks) v) (looked_again file at qs u) (λ toks v. same (t ∷ toks) [] v))

  gnu_known_again : (file : SourceFile) (at : Pos) (toks : List Token) (s : State) → Again s (gnu_known ctx file at toks s) (gnu_known other file at toks (moved s))
  gnu_known_again file at toks s =
      onward_again s (looked ctx file at (questions_from false 0 toks) s) (looked other file at (questions_from false 0 toks) (moved s)) (judged file at) (judged file at)
      (looked_again file at (questions_from false 0 toks) s) (λ out t. judged_again file at out t)

  gnu_asked_again : (file : SourceFile) (at : Pos) (toks : List Token) (s : State) → Again s (gnu_asked ctx file at toks s) (gnu_asked other file at toks (moved s))
  gnu_asked_again file at toks s =
      onward_again s (asked_toks file at toks s) (asked_toks file at toks (moved s)) (gnu_known ctx file at) (gnu_known other file at) (asked_again file at toks s) (λ out t. gnu_known_again file at out t)

  gnu_holds_again : (file : SourceFile) (at : Pos) (toks : List Token) (s : State) → Again s (gnu_holds ctx file at toks s) (gnu_holds other file at toks (moved s))
  gnu_holds_again file at toks s =
      onward_again s (looked ctx file at (questions_from true 0 toks) s) (looked other file at (questions_from true 0 toks) (moved s)) (gnu_asked ctx file at) (gnu_asked other file at)
      (looked_again file at (questions_from true 0 toks) s) (λ out t. gnu_asked_again file at out t)

  -- ---- conditions of either kind

  opens_with_again : (k : ItemKind) (file : SourceFile) (at : Pos) (toks : List Token) (s : State) → Again s (opens_with k file at toks s) (opens_with k file at toks (moved s))
  opens_with_again kind.If file at toks s = holds_again file at (drop 2 toks) s
  opens_with_again kind.Ifdef file at toks s = asks_again file at (λ b. b) s (operand_in toks)
  opens_with_again kind.Ifndef file at toks s = asks_again file at not s (operand_in toks)
  opens_with_again kind.Run file at toks s = tt
  opens_with_again kind.Define file at toks s = tt
  opens_with_again kind.Undef file at toks s = tt
  opens_with_again kind.Include file at toks s = tt
  opens_with_again kind.Elif file at toks s = tt
  opens_with_again kind.Else file at toks s = tt
  opens_with_again kind.Endif file at toks s = tt
  opens_with_again kind.Line file at toks s = tt
  opens_with_again kind.Error file at toks s = tt
  opens_with_again kind.Pragma file at toks s = tt
  opens_with_again kind.Empty file at toks s = tt
  opens_with_again (kind.Bad cause place nests) file at toks s = tt
  opens_with_again (kind.Gnu line) file at toks s = tt

  goes_with_line_again : (line : GnuLine) (file : SourceFile) (at : Pos) (toks : List Token) (s : State) → Again s (goes_with_line line file at toks s) (goes_with_line line file at toks (moved s))
  goes_with_line_again gnu.Elifdef file at toks s = asks_again file at (λ b. b) s (operand_in toks)
  goes_with_line_again gnu.Elifndef file at toks s = asks_again file at not s (operand_in toks)
  goes_with_line_again gnu.IncludeNext file at toks s = tt
  goes_with_line_again gnu.Message file at toks s = tt

  goes_with_again : (k : ItemKind) (file : SourceFile) (at : Pos) (toks : List Token) (s : State) → Again s (goes_with k file at toks s) (goes_with k file at toks (moved s))
  goes_with_again (kind.Gnu line) file at toks s = goes_with_line_again line file at toks s
  goes_with_again kind.If file at toks s = holds_again file at (drop 2 toks) s
  goes_with_again kind.Ifdef file at toks s = holds_again file at (drop 2 toks) s
  goes_with_again kind.Ifndef file at toks s = holds_again file at (drop 2 toks) s
  goes_with_again kind.Run file at toks s = holds_again file at (drop 2 toks) s
  goes_with_again kind.Define file at toks s = holds_again file at (drop 2 toks) s
  goes_with_again kind.Undef file at toks s = holds_again file at (drop 2 toks) s
  goes_with_again kind.Include file at toks s = holds_again file at (drop 2 toks) s
  goes_with_again kind.Elif file at toks s = holds_again file at (drop 2 toks) s
  goes_with_again kind.Else file at toks s = holds_again file at (drop 2 toks) s
  goes_with_again kind.Endif file at toks s = holds_again file at (drop 2 toks) s
  goes_with_again kind.Line file at toks s = holds_again file at (drop 2 toks) s
  goes_with_again kind.Error file at toks s = holds_again file at (drop 2 toks) s
  goes_with_again kind.Pragma file at toks s = holds_again file at (drop 2 toks) s
  goes_with_again kind.Empty file at toks s = holds_again file at (drop 2 toks) s
  goes_with_again (kind.Bad cause place nests) file at toks s = holds_again file at (drop 2 toks) s

  opens_in_again : (k : ItemKind) (file : SourceFile) (at : Pos) (toks : List Token) (s : State) → Again s (opens_in ctx k file at toks s) (opens_in other k file at toks (moved s))
  opens_in_again k file at toks s =
      cond_again (asks_files ctx.unit.standard k) s (gnu_holds ctx file at (drop 2 toks) s) (opens_with k file at toks s) (gnu_holds other file at (drop 2 toks) (moved s)) (opens_with k file at toks (moved s))
      (gnu_holds_again file at (drop 2 toks) s) (opens_with_again k file at toks s)

  goes_in_again : (k : ItemKind) (file : SourceFile) (at : Pos) (toks : List Token) (s : State) → Again s (goes_in ctx k file at toks s) (goes_in other k file at toks (moved s))
  goes_in_again k file at toks s =
      cond_again (asks_files ctx.unit.standard k) s (gnu_holds ctx file at (drop 2 toks) s) (goes_with k file at toks s) (gnu_holds other file at (drop 2 toks) (moved s)) (goes_with k file at toks (moved s))
      (gnu_holds_again file at (drop 2 toks) s) (goes_with_again k file at toks s)

  -- ---- include lines

  abbrev ProcessAgain : Process → Process → Type 0
  ProcessAgain p q = (file : SourceFile) (s : State) → Again s (p file s) (q file (moved s))

  abbrev InnerAgain : Inner → Inner → Type 0
  InnerAgain None q = Unit {0}
  InnerAgain (Some p) None = ⊥
  InnerAgain (Some p) (Some q) = ProcessAgain p q

  left_again : {A : Type 0} (behind : Option ℕ) (s t : State) (m n : Outcome A) → s.table ≡ t.table → s.before ≡ t.before → Again t m n → Again s (left_to behind m) (left_to behind n)
  left_again behind s t (Ok d) n e f h = (
    (subst (λ (x : Table). IsGrown x d.state.table) (sym e) h.0.0, let a = h.0.1 in omega (arith, f, a)),
    λ g few. ap (left_to behind) (h.1 g few),
  )
  left_again behind s t (Err found) n e f h = tt

  entered_again : (p q : Process) → ProcessAgain p q → (at : Pos) (behind : Option ℕ) (file : SourceFile) (s : State) → Again s (entered p at behind file s) (entered q at behind file (moved s))
  entered_again p q h at behind file s =
      let inside : State = record s { behind = behind } in
      let exit : List Token → State → Outcome (List Token) = λ toks t. Ok (did toks (Exited at file.number t.before ∷ []) t) in
      noted_again (Entered at file.number s.before ∷ []) s (left_to s.behind (onward (p file inside) exit)) (left_to s.behind (onward (q file (moved inside)) exit))
      (left_again s.behind s inside (onward (p file inside) exit) (onward (q file (moved inside)) exit) refl refl
      (onward_again inside (p file inside) (q file (moved inside)) exit exit (h file inside) (λ toks t. same toks (Exited at file.number t.before ∷ []) t)))

  passes_again : (p q : Process) → ProcessAgain p q → (at : Pos) → ProcessAgain (unless_once at p) (unless_once at q)
  passes_again p q h at file s =
      cond_again (is_read_once file.number s) s (Ok (did [] (ReadOnce true at file.number s.before ∷ []) s)) (p file s) (Ok (did [] (ReadOnce true at file.number s.before ∷ []) (moved s))) (q file (moved s))
      (same [] (ReadOnce true at file.number s.before ∷ []) s) (h file s)

  included_again : (p q : Inner) → InnerAgain p q → (file : SourceFile) (at : Pos) (next : Bool) (h : Header) (s : State)
      → Again s (included ctx p file at next h s) (included other q file at next h (moved s))
  included_again None q c file at next h s = tt
  included_again (Some p) None c file at next h s = absurd c
  included_again (Some p) (Some q) c file at next h s =
      onward_again s (open_header ctx file at next h s) (open_header other file at next h (moved s)) (λ f t. entered (unless_once at p) at (behind_of next h s.behind file.path ctx.unit f.path) f t)
      (λ f t. entered (unless_once at q) at (behind_of next h s.behind file.path other.unit f.path) f t) (open_header_again file at next h s)
      (λ f t.
      subst (λ (k : Option ℕ). Again t (entered (unless_once at p) at (behind_of next h s.behind file.path ctx.unit f.path) f t) (entered (unless_once at q) at k f (moved t)))
      (sym (place_like next h s.behind file.path f.path))
      (entered_again (unless_once at p) (unless_once at q) (passes_again p q c at) at (behind_of next h s.behind file.path ctx.unit f.path) f t))

  include_again : (p q : Inner) → InnerAgain p q → (file : SourceFile) (at : Pos) (toks : List Token) (s : State) → Again s (include_of ctx p file at toks s) (include_of other q file at toks (moved s))
  include_again p q c file at toks s =
      onward_again s (header_named file at (drop 2 toks) s) (header_named file at (drop 2 toks) (moved s)) (included ctx p file at false) (included other q file at false)
      (header_again file at (drop 2 toks) s) (λ h t. included_again p q c file at false h t)

  include_next_again : (p q : Inner) → InnerAgain p q → (file : SourceFile) (at : Pos) (toks : List Token) (s : State) → Again s (include_next_of ctx p file at toks s) (include_next_of other q file at toks (moved s))
  include_next_again p q c file at toks s =
      onward_again s (next_named file at (drop 2 toks) s) (next_named file at (drop 2 toks) (moved s)) (included ctx p file at true) (included other q file at true)
      (next_again file at (drop 2 toks) s) (λ h t. included_again p q c file at true h t)

  pragma_again : (gnu_ : Bool) (file : SourceFile) (at : Pos) (toks : List Token) (s : State) → Again s (pragma_of gnu_ file at toks s) (pragma_of gnu_ file at toks (moved s))
  pragma_again gnu_ file at toks s =
      cond_again (gnu_ && says_once toks) s (said_once file at s) (only [] s) (said_once file at (moved s)) (only [] (moved s)) (stays s, λ g few. refl) (same [] [] s)

  processed_again : (p q : Inner) → InnerAgain p q → (file : SourceFile) (k : ItemKind) (at : Pos) (toks : List Token) (s : State)
      → Again s (processed ctx p file k at toks s) (processed other q file k at toks (moved s))
  processed_again p q c file kind.Include at toks s = include_again p q c file at toks s
  processed_again p q c file kind.Run at toks s = run_again file toks s
  processed_again p q c file kind.Define at toks s = define_again (is_gnu ctx.unit.standard) file at toks s
  processed_again p q c file kind.Undef at toks s = undef_again file at toks s
  processed_again p q c file kind.If at toks s = same [] [] s
  processed_again p q c file kind.Ifdef at toks s = same [] [] s
  processed_again p q c file kind.Ifndef at toks s = same [] [] s
  processed_again p q c file kind.Elif at toks s = same [] [] s
  processed_again p q c file kind.Else at toks s = same [] [] s
  processed_again p q c file kind.Endif at toks s = same [] [] s
  processed_again p q c file kind.Line at toks s = same [] [] s
  processed_again p q c file kind.Error at toks s = tt
  processed_again p q c file kind.Pragma at toks s = pragma_again (is_gnu ctx.unit.standard) file at toks s
  processed_again p q c file kind.Empty at toks s = same [] [] s
  processed_again p q c file (kind.Bad cause place nests) at toks s = tt
  processed_again p q c file (kind.Gnu gnu.IncludeNext) at toks s = include_next_again p q c file at toks s
  processed_again p q c file (kind.Gnu gnu.Message) at toks s = same [] [] s
  processed_again p q c file (kind.Gnu gnu.Elifdef) at toks s = same [] [] s
  processed_again p q c file (kind.Gnu gnu.Elifndef) at toks s = same [] [] s

  -- ---- items

  opens_again : (file : SourceFile) (k : ℕ) (i : ItemText) (sections : List Section) (s : State) → Again s (opens ctx file k i sections s) (opens other file k i sections (moved s))
  opens_again file k i sections s =
      let skip : Stepped = stepped [] (section i.at Skipped false ∷ sections) in
      let next : Bool → State → Outcome Stepped = λ b t. only (stepped [] (section i.at (group_if b) false ∷ sections)) t in
      cond_again (are_processed sections) s (reaching file k (is_if i.kind) s (onward (opens_in ctx i.kind file i.at i.toks s) next)) (only skip s)
      (reaching file k (is_if i.kind) (moved s) (onward (opens_in other i.kind file i.at i.toks (moved s)) next)) (only skip (moved s))
      (noted_again (Reaches file.number k (is_if i.kind) s.before ∷ []) s (onward (opens_in ctx i.kind file i.at i.toks s) next) (onward (opens_in other i.kind file i.at i.toks (moved s)) next)
      (onward_again s (opens_in ctx i.kind file i.at i.toks s) (opens_in other i.kind file i.at i.toks (moved s)) next next (opens_in_again i.kind file i.at i.toks s)
      (λ b t. same (stepped [] (section i.at (group_if b) false ∷ sections)) [] t)))
      (same skip [] s)

  reached_again : {A : Type 0} (file : SourceFile) (k : ℕ) (group : Group) (a : A) (s : State) → Again s (reaching_alive file k group s (only a s)) (reaching_alive file k group (moved s) (only a (moved s)))
  reached_again file k group a s =
      cond_again (is_alive group) s (reaching file k false s (only a s)) (only a s) (reaching file k false (moved s) (only a (moved s))) (only a (moved s))
      (noted_again (Reaches file.number k false s.before ∷ []) s (only a s) (only a (moved s)) (same a [] s)) (same a [] s)

  goes_on_again : (file : SourceFile) (k : ℕ) (i : ItemText) (open_ : Section) (sections : List Section) (s : State) (group : Group)
      → Again s (goes_on ctx file k i open_ sections s group) (goes_on other file k i open_ sections (moved s) group)
  goes_on_again file k i open_ sections s Awaited =
      let next : Bool → State → Outcome Stepped = λ b t. only (go_on open_ (group_if b) false sections) t in
      noted_again (Reaches file.number k true s.before ∷ []) s (onward (goes_in ctx i.kind file i.at i.toks s) next) (onward (goes_in other i.kind file i.at i.toks (moved s)) next)
      (onward_again s (goes_in ctx i.kind file i.at i.toks s) (goes_in other i.kind file i.at i.toks (moved s)) next next (goes_in_again i.kind file i.at i.toks s)
      (λ b t. same (go_on open_ (group_if b) false sections) [] t))
  goes_on_again file k i open_ sections s Skipped = same (go_on open_ Skipped false sections) [] s
  goes_on_again file k i open_ sections s Processed =
      noted_again (Reaches file.number k false s.before ∷ []) s (only (go_on open_ Over false sections) s) (only (go_on open_ Over false sections) (moved s)) (same (go_on open_ Over false sections) [] s)
  goes_on_again file k i open_ sections s Over =
      noted_again (Reaches file.number k false s.before ∷ []) s (only (go_on open_ Over false sections) s) (only (go_on open_ Over false sections) (moved s)) (same (go_on open_ Over false sections) [] s)

  in_section_again : (file : SourceFile) (i : ItemText) (turn : Turn) (s : State) (sections : List Section) (next next2 : Section → List Section → Outcome Stepped)
      → ((open_ : Section) (around : List Section) → Again s (next open_ around) (next2 open_ around)) → Again s (in_section file i turn sections next) (in_section file i turn sections next2)
  in_section_again file i turn s [] next next2 h = tt
  in_section_again file i Ends s (open_ ∷ sections) next next2 h = h open_ sections
  in_section_again file i Opens s (open_ ∷ sections) next next2 h = cond_again open_.after_else s (Err _) (next open_ sections) (Err _) (next2 open_ sections) tt (h open_ sections)
  in_section_again file i GoesOn s (open_ ∷ sections) next next2 h = cond_again open_.after_else s (Err _) (next open_ sections) (Err _) (next2 open_ sections) tt (h open_ sections)
  in_section_again file i GoesLast s (open_ ∷ sections) next next2 h = cond_again open_.after_else s (Err _) (next open_ sections) (Err _) (next2 open_ sections) tt (h open_ sections)
  in_section_again file i Stays s (open_ ∷ sections) next next2 h = cond_again open_.after_else s (Err _) (next open_ sections) (Err _) (next2 open_ sections) tt (h open_ sections)

  turned_again : (p q : Inner) → InnerAgain p q → (file : SourceFile) (k : ℕ) (i : ItemText) (sections : List Section) (s : State) (turn : Turn)
      → Again s (turned ctx p file k i sections s turn) (turned other q file k i sections (moved s) turn)
  turned_again p q c file k i sections s Opens = opens_again file k i sections s
  turned_again p q c file k i sections s GoesOn =
      in_section_again file i GoesOn s sections (λ open_ around. goes_on ctx file k i open_ around s open_.group) (λ open_ around. goes_on other file k i open_ around (moved s) open_.group)
      (λ open_ around. goes_on_again file k i open_ around s open_.group)
  turned_again p q c file k i sections s GoesLast =
      in_section_again file i GoesLast s sections (λ open_ around. reaching_alive file k open_.group s (only (go_on open_ (group_of_else open_.group) true around) s))
      (λ open_ around. reaching_alive file k open_.group (moved s) (only (go_on open_ (group_of_else open_.group) true around) (moved s)))
      (λ open_ around. reached_again file k open_.group (go_on open_ (group_of_else open_.group) true around) s)
  turned_again p q c file k i sections s Ends =
      in_section_again file i Ends s sections (λ open_ around. reaching_alive file k open_.group s (only (stepped [] around) s))
      (λ open_ around. reaching_alive file k open_.group (moved s) (only (stepped [] around) (moved s))) (λ open_ around. reached_again file k open_.group (stepped [] around) s)
  turned_again p q c file k i sections s Stays =
      let next : List Token → State → Outcome Stepped = λ toks t. only (stepped toks sections) t in
      cond_again (are_processed sections) s (reaching file k false s (onward (processed ctx p file i.kind i.at i.toks s) next)) (only (stepped [] sections) s)
      (reaching file k false (moved s) (onward (processed other q file i.kind i.at i.toks (moved s)) next)) (only (stepped [] sections) (moved s))
      (noted_again (Reaches file.number k false s.before ∷ []) s (onward (processed ctx p file i.kind i.at i.toks s) next) (onward (processed other q file i.kind i.at i.toks (moved s)) next)
      (onward_again s (processed ctx p file i.kind i.at i.toks s) (processed other q file i.kind i.at i.toks (moved s)) next next (processed_again p q c file i.kind i.at i.toks s)
      (λ toks t. same (stepped toks sections) [] t)))
      (same (stepped [] sections) [] s)

  foreign_again : (file : SourceFile) (i : ItemText) (sections : List Section) (s : State) → Again s (foreign_line file i sections s) (foreign_line file i sections (moved s))
  foreign_again file i sections s =
      cond_again (are_processed sections) s (Err (fault_at file i.at BadDirective)) (only (stepped [] sections) s) (Err (fault_at file i.at BadDirective)) (only (stepped [] sections) (moved s)) tt (same (stepped [] sections) [] s)

  step_again : (p q : Inner) → InnerAgain p q → (file : SourceFile) (k : ℕ) (i : ItemText) (sections : List Section) (s : State)
      → Again s (item_step ctx p file k i sections s) (item_step other q file k i sections (moved s))
  step_again p q c file k i sections s =
      cond_again (is_foreign ctx.unit.standard i.kind) s (foreign_line file i sections s) (turned ctx p file k i sections s (turn_of i.kind)) (foreign_line file i sections (moved s))
      (turned other q file k i sections (moved s) (turn_of i.kind)) (foreign_again file i sections s) (turned_again p q c file k i sections s (turn_of i.kind))

  end_again : (file : SourceFile) (sections : List Section) (s : State) → Again s (file_end file sections s) (file_end file sections (moved s))
  end_again file [] s = same [] [] s
  end_again file (open_ ∷ sections) s = tt

  pub walk_again : (p q : Inner) → InnerAgain p q → (file : SourceFile) (k : ℕ) (items : List ItemText) (sections : List Section) (s : State)
      → Again s (walk ctx p file k items sections s) (walk other q file k items sections (moved s))
  unfolding walk
  walk_again p q c file k [] sections s = end_again file sections s
  walk_again p q c file k (i ∷ items) sections s =
      onward_again s (item_step ctx p file k i sections s) (item_step other q file k i sections (moved s))
      (λ d t. onward (walk ctx p file (k + 1) items d.sections t) (λ toks u. only (d.toks ++ toks) u)) (λ d t. onward (walk other q file (k + 1) items d.sections t) (λ toks u. only (d.toks ++ toks) u))
      (step_again p q c file k i sections s)
      (λ d t. onward_again t (walk ctx p file (k + 1) items d.sections t) (walk other q file (k + 1) items d.sections (moved t)) (λ toks u. only (d.toks ++ toks) u) (λ toks u. only (d.toks ++ toks) u)
      (walk_again p q c file (k + 1) items d.sections t) (λ toks u. same (d.toks ++ toks) [] u))

  pub files_again : (room : ℕ) → ProcessAgain (file_items ctx room) (file_items other room)
  unfolding file_items
  files_again zero file s = walk_again None None tt file 0 (items_in file) [] s
  files_again (suc room) file s = walk_again (Some (file_items ctx room)) (Some (file_items other room)) (files_again room) file 0 (items_in file) [] s

  given : (room : ℕ) (file : SourceFile) (s : State) (d : Did (List Token)) (m : Outcome (List Token)) → Again s m (file_items other room file (moved s)) → ◌≡◌ {A = Outcome (List Token)} m (Ok d)
      → IsGrown d.state.table later → d.state.before ≤ most_toks other → file_items other room file (moved s) ≡ Ok (did d.value d.notes (moved d.state))
  given room file s d m h e g few =
      let at : Again s (Ok d) (file_items other room file (moved s)) = subst (λ (x : Outcome (List Token)). Again s x (file_items other room file (moved s))) e h in
      at.1 g few

pub items_give_the_same_again : ItemsGiveTheSameAgain
items_give_the_same_again = λ ctx source project path settings includes earlier room file s d later e g few.
    given ctx source project path settings includes earlier later room file s d (file_items ctx room file s) (files_again ctx source project path settings includes earlier later room file s) e g few
