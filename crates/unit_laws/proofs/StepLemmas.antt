-- What holds of each step of a unit, and of one step behind another, holds of the unit.
use Rattle.std.proofs.Common.{◌≡◌, ℕ, zero, suc, ◌+◌, ◌-◌, Bool, true, false, not, ◌&&◌, cond, List, [], ◌∷◌, ◌++◌, length, map, drop, Option, Some, None, is_some, Result, Ok, Err, refl, sym, subst, arith, nat_lt, inl, inr}
use Rattle.std.specs.Prelude.{slice_get}
use Rattle.std.specs.List.{list_any}
use Rattle.std.proofs.lemmas.Bool.{cases_Bool}
use Rattle.std.proofs.lemmas.List.{append-nil}
use Rattle.cs_base.specs.declared.causes.Cause.TheVariants as cause
use Rattle.cs_base.specs.declared.positions.Place.{Place}
use Rattle.cs_base.specs.declared.positions.Pos.{Pos}
use Rattle.cs_base.specs.Token.{Token}
use Rattle.cs_base.specs.Units.{UnitValue, is_gnu}
use Rattle.lexer.specs.FileText.{file_text}
use Rattle.line_shape.specs.declared.items.ItemKind.{ItemKind}
use Rattle.line_shape.specs.declared.items.ItemKind.TheVariants as kind
use Rattle.line_shape.specs.declared.items.GnuLine.TheVariants as gnu
use Rattle.line_shape.specs.Directives.{is_define}
use Rattle.line_shape.specs.Signs.{is_name}
use Rattle.macro_body.specs.declared.definitions.Definition.{Definition}
use Rattle.macro_body.specs.Defining.{defined_by, in_gnu}
use Rattle.macro_body.specs.Notes as expansion
use Rattle.macro_expand.specs.Expansion.{expansion}
use Rattle.unit_steps.specs.Below.cond_eval.declared.faults.CondFault.{CondFault}
use Rattle.unit_steps.specs.Below.cond_eval.Evaluation.{condition}
use Rattle.source_files.specs.Limits.{the_limits}
use Rattle.source_files.specs.Faults.{Fault, fault_at, place_in, first_place}
use Rattle.source_files.specs.Files.{Source, SourceFile, Table, Carried, asked}
use Rattle.unit_steps.specs.Notes.{Note, Reaches, Happened, Undefined, Left, Answered, Named, Entered, Exited, ReadOnce}
use Rattle.unit_steps.specs.Names.{spelled_in, name_links, with_name}
use Rattle.unit_steps.specs.State.{Context, context, State, Did, did, Outcome, only, noted, onward}
use Rattle.source_files.specs.Search.{Header, Searched, candidates_of, behind_of, search}
use Rattle.source_files.specs.Opening.{Opening, opening}
use Rattle.include_tree.specs.OpeningStep.{with_opened, open_file}
use Rattle.unit_steps.specs.Expanding.{expanded_as, expanded_in, most_toks, past_limit, put_out, run_of}
use Rattle.unit_steps.specs.Conditions.{Piece, Plain, Asks, is_defined, pieces_from, answer_for, is_macro, test_notes, answered, left_over, valued, judged, asked_pieces, asked_toks, holds}
use Rattle.unit_steps.specs.Directives.{operand_in, define_notes, after_define, defined_as, after_undef, undefined_as, asks_name, opens_with, is_if, goes_with, says_once, with_once, said_once, pragma_of, is_read_once, may_define}
use Rattle.include_tree.specs.Including.{open_searched, open_header, Process, Inner, left_to, entered, unless_once, included, include_of, include_next_of}
use Rattle.unit_steps.specs.IncludeNames.{header_or, computed_header, header_named, written_header, next_named}
use Rattle.source_files.specs.HeaderNames.{is_header, header_in, header_of_toks, header_at, begins_header}
use Rattle.source_files.specs.Tables.{IsGrown}
use Rattle.include_tree.specs.Sections.{Group, Processed, Awaited, Over, Skipped, Section, section, are_processed, group_if, group_after, group_of_else, Turn, Opens, GoesOn, GoesLast, Ends, Stays, turn_of}
use Rattle.source_files.specs.Sources.{source_at}
use Rattle.include_tree.specs.Unit.{pseudo_path, first_state, outer_file, main_file, both_files, unit_outcome}
use Rattle.unit_steps.specs.Questions.{Question, Unasked, Looks, Lacks, asks_next, questions_from, found_as}
use Rattle.include_tree.specs.Asking.{there, is_there, look, looked, gnu_known, gnu_asked, gnu_holds, asks_files, opens_in, goes_in}
use Rattle.include_tree.specs.Walk.{ItemText, items_in, processed, Stepped, stepped, reaching, reaching_alive, go_on, opens, goes_on, in_section, turned, is_foreign, foreign_line, item_step, file_end, walk, file_items}
use Rattle.source_files.proofs.TableLemmas.{grown_refl, grown_trans, widens_asked}
use Rattle.include_tree.proofs.SearchLemmas.{search_wide}
use Rattle.source_files.proofs.SourcesLemmas.{opening-as}
use Rattle.include_tree.proofs.StayingLemmas.{source-grown}

-- ---- rules

-- the file is kept in the table
abbrev pub FileIs : Table → SourceFile → Type 0
FileIs table file = source_at table file.number ≡ Some file

-- item k of a kept file
pub record IsItem (table : Table) (file : SourceFile) (k : ℕ) (i : ItemText) : Type 0 where
  pub is_kept : FileIs table file
  pub at : slice_get (items_in file) k ≡ Some i

-- what happens that tells of no name and of no item
abbrev pub IsQuiet : Note → Type 0
IsQuiet (Answered t) = Unit {0}
IsQuiet (Named toks) = Unit {0}
IsQuiet (Entered at file before) = Unit {0}
IsQuiet (Exited at file before) = Unit {0}
IsQuiet (ReadOnce passed at file before) = Unit {0}
IsQuiet _ = ⊥

-- A relation of a state, of what happens then, and of the state behind it, that holds of each step of a unit over files
-- that are kept in a table.
pub record StepRules (R : State → List Note → State → Type 0) (table : Table) : Type 0 where
  -- nothing happens, and one step comes behind another
  pub none : (s : State) → R s [] s
  pub both : (s t u : State) (ns ms : List Note) → R s ns t → R t ms u → R s (ns ++ ms) u
  -- paths are asked for, files are opened, and tokens are put out
  pub tables : (s : State) (t : Table) → R s [] (record s { table = t })
  pub counts : (s : State) (n : ℕ) → R s [] (record s { before = n })
  -- a search for the next file of a name begins elsewhere
  pub places : (s : State) (behind : Option ℕ) → R s [] (record s { behind = behind })
  -- other files are read once
  pub once : (s : State) (numbers : List ℕ) → R s [] (record s { once = numbers })
  -- tokens are expanded
  pub expands : (run : Bool) (path : List ℕ) (toks : List Token) (s : State) (e : expansion.Expanded) → expansion s.macros path toks s.work ≡ Ok e
      → R s (map (Happened run s.before) e.notes) (record s { work = e.left })
  -- a name is asked for, is left over, and loses its macro
  pub tested : (name : Token) (s : State) → R s (test_notes name s) (with_name name s)
  pub left : (name : Token) (s : State) → R s (Left name s.before ∷ name_links name s) (with_name name s)
  pub undefined : (name : Token) (s : State) → R s (Undefined name s.before ∷ name_links name s) (after_undef name s)
  pub quiet : (note : Note) (s : State) → IsQuiet note → R s (note ∷ []) s
  -- an item is reached: a definition, which is made, or another one
  pub defined : (gnu : Bool) (file : SourceFile) (k : ℕ) (i : ItemText) (m : Definition) (s : State) → IsItem table file k i → i.kind ≡ kind.Define
      → defined_by i.toks ≡ Some m → R s (Reaches file.number k false s.before ∷ define_notes (in_gnu gnu m) s) (after_define (in_gnu gnu m) s)
  pub reaches : (file : SourceFile) (k : ℕ) (i : ItemText) (evaluated : Bool) (s : State) → IsItem table file k i → is_define i.kind ≡ false
      → R s (Reaches file.number k evaluated s.before ∷ []) s

-- ---- names

cond_table : (b : Bool) (s : State) (names : List Token) → IsGrown s.table (cond b s (record s { names = names })).table
cond_table true s names = grown_refl s.table
cond_table false s names = grown_refl s.table

name_grown : (name : Token) (s : State) → IsGrown s.table (with_name name s).table
name_grown name s = cond_table (is_some (spelled_in s.names name.text)) s (s.names ++ name ∷ [])

-- whatever the value
abbrev Any : {A : Type 0} → A → Type 0
Any a = Unit {0}

-- ---- steps

module _ (R : State → List Note → State → Type 0) (table : Table) (rules : StepRules R table) where
  -- A step only grows the table of the state; and where that grows into the table, the relation holds of what it gives, and
  -- V of its value.
  abbrev Goes : {A : Type 0} → Type 0 → (A → Type 0) → State → Outcome A → Type 0
  Goes pre V s (Ok d) = IsGrown s.table d.state.table × (pre → IsGrown d.state.table table → V d.value × R s d.notes d.state)
  Goes pre V s (Err found) = Unit {0}

  goes_more : {A : Type 0} (pre pre2 : Type 0) (V W : A → Type 0) (s : State) (m : Outcome A) → (pre2 → pre) → ((a : A) → pre2 → V a → W a)
      → Goes pre V s m → Goes pre2 W s m
  goes_more pre pre2 V W s (Ok d) h more k = (k.0, λ p reach. let r = k.1 (h p) reach in (more d.value p r.0, r.1))
  goes_more pre pre2 V W s (Err found) h more k = tt

  -- what happened before
  goes_noted : {A : Type 0} (pre : Type 0) (V : A → Type 0) (s : State) (notes : List Note) (m : Outcome A) → (pre → R s notes s)
      → Goes pre V s m → Goes pre V s (noted notes m)
  goes_noted pre V s notes (Ok d) so k = (k.0, λ p reach. let r = k.1 p reach in (r.0, rules.both s s d.state notes d.notes (so p) r.1))
  goes_noted pre V s notes (Err found) so k = tt

  behind_goes : {A B : Type 0} (pre : Type 0) (V : A → Type 0) (W : B → Type 0) (s : State) (d : Did A) (m : Outcome B)
      → Goes pre V s (Ok d) → Goes (pre × V d.value) W d.state m → Goes pre W s (noted d.notes m)
  behind_goes pre V W s d (Ok e) h k = (
    grown_trans s.table d.state.table e.state.table h.0 k.0,
    λ p reach.
        let first = h.1 p (grown_trans d.state.table e.state.table table k.0 reach) in
        let second = k.1 (p, first.0) reach in
        (second.0, rules.both s d.state e.state d.notes e.notes first.1 second.1),
  )
  behind_goes pre V W s d (Err found) h k = tt

  goes_onward : {A B : Type 0} (pre : Type 0) (V : A → Type 0) (W : B → Type 0) (s : State) (m : Outcome A) (next : A → State → Outcome B)
      → Goes pre V s m → ((a : A) (t : State) → Goes (pre × V a) W t (next a t)) → Goes pre W s (onward m next)
  goes_onward pre V W s (Ok d) next h k = behind_goes pre V W s d (next d.value d.state) h (k d.value d.state)
  goes_onward pre V W s (Err found) next h k = tt

  goes_cond : {A : Type 0} (pre : Type 0) (V : A → Type 0) (s : State) (b : Bool) (x y : Outcome A) → Goes pre V s x → Goes pre V s y → Goes pre V s (cond b x y)
  goes_cond pre V s true x y h k = h
  goes_cond pre V s false x y h k = k

  goes_test : {A : Type 0} (pre : Type 0) (V : A → Type 0) (s : State) (b : Bool) (found : Fault) (m : Outcome A) → Goes pre V s m → Goes pre V s (cond b (Err found) m)
  goes_test pre V s true found m k = tt
  goes_test pre V s false found m k = k

  goes_only : {A : Type 0} (pre : Type 0) (V : A → Type 0) (s : State) (a : A) → (pre → V a) → Goes pre V s (only a s)
  goes_only pre V s a h = (grown_refl s.table, λ p reach. (h p, rules.none s))

  -- whatever is known and whatever the value
  abbrev GoesAny : {A : Type 0} → Type 0 → State → Outcome A → Type 0
  GoesAny {A = A} pre s m = Goes pre (Any {A = A}) s m

  -- one step behind another
  then_goes : {A B : Type 0} (pre : Type 0) (s : State) (m : Outcome A) (next : A → State → Outcome B)
      → GoesAny pre s m → ((a : A) (t : State) → GoesAny pre t (next a t)) → GoesAny pre s (onward m next)
  then_goes {A = A} {B = B} pre s m next h k =
      goes_onward pre (Any {A = A}) (Any {A = B}) s m next h
      (λ a t. goes_more pre (pre × Any a) (Any {A = B}) (Any {A = B}) t (next a t) (λ p. p.0) (λ b p v. tt) (k a t))

  -- ---- runs

  expanded_as_goes : (pre : Type 0) (run : Bool) (file : SourceFile) (toks : List Token) (s : State) (r : Result expansion.Expanded expansion.Fault) → expansion s.macros file.path toks s.work ≡ r
      → GoesAny pre s (expanded_as run file s r)
  expanded_as_goes pre run file toks s (Err found) is = tt
  expanded_as_goes pre run file toks s (Ok e) is = (grown_refl s.table, λ p reach. (tt, rules.expands run file.path toks s e is))

  expanded_goes : (pre : Type 0) (run : Bool) (file : SourceFile) (toks : List Token) (s : State) → GoesAny pre s (expanded_in run file toks s)
  expanded_goes pre run file toks s = expanded_as_goes pre run file toks s (expansion s.macros file.path toks s.work) refl

  put_out_goes : (pre : Type 0) (ctx : Context) (file : SourceFile) (toks : List Token) (s : State) → GoesAny pre s (put_out ctx file toks s)
  put_out_goes pre ctx file toks s =
      goes_test pre (Any {A = List Token}) s (nat_lt (most_toks ctx) (s.before + length toks)) (past_limit file (drop (most_toks ctx - s.before) toks))
      (only toks (record s { before = s.before + length toks }))
      (grown_refl s.table, λ p reach. (tt, rules.counts s (s.before + length toks)))

  run_goes : (pre : Type 0) (ctx : Context) (file : SourceFile) (toks : List Token) (s : State) → GoesAny pre s (run_of ctx file toks s)
  run_goes pre ctx file toks s = then_goes pre s (expanded_in true file toks s) (put_out ctx file) (expanded_goes pre true file toks s) (λ out t. put_out_goes pre ctx file out t)

  -- ---- names that directives take

  undefined_goes : (pre : Type 0) (file : SourceFile) (at : Pos) (s : State) (o : Option Token) → GoesAny pre s (undefined_as file at s o)
  undefined_goes pre file at s None = tt
  undefined_goes pre file at s (Some name) = (name_grown name s, λ p reach. (tt, rules.undefined name s))

  asks_goes : (pre : Type 0) (file : SourceFile) (at : Pos) (answer : Bool → Bool) (s : State) (o : Option Token) → GoesAny pre s (asks_name file at answer s o)
  asks_goes pre file at answer s None = tt
  asks_goes pre file at answer s (Some name) = (name_grown name s, λ p reach. (tt, rules.tested name s))

  -- ---- conditions

  answered_grown : (pieces : List Piece) (s : State) → IsGrown s.table (answered pieces s).state.table
  unfolding answered
  answered_grown [] s = grown_refl s.table
  answered_grown (Plain t ∷ pieces) s = answered_grown pieces s
  answered_grown (Asks word name ∷ pieces) s =
      grown_trans s.table (with_name name s).table (answered pieces (with_name name s)).state.table (name_grown name s) (answered_grown pieces (with_name name s))

  answered_holds : (pieces : List Piece) (s : State) → R s (answered pieces s).notes (answered pieces s).state
  unfolding answered
  answered_holds [] s = rules.none s
  answered_holds (Plain t ∷ pieces) s = answered_holds pieces s
  answered_holds (Asks word name ∷ pieces) s =
      let a : Token = answer_for word (is_macro name s) in
      let t : State = with_name name s in
      let here : R s (test_notes name s ++ Answered a ∷ []) t = rules.both s t t (test_notes name s) (Answered a ∷ []) (rules.tested name s) (rules.quiet (Answered a) t tt) in
      rules.both s t (answered pieces t).state (test_notes name s ++ Answered a ∷ []) (answered pieces t).notes here (answered_holds pieces t)

  answered_goes : (pre : Type 0) (pieces : List Piece) (s : State) → GoesAny {A = List Token} pre s (Ok (answered pieces s))
  answered_goes pre pieces s = (answered_grown pieces s, λ p reach. (tt, answered_holds pieces s))

  left_grown : (toks : List Token) (s : State) → IsGrown s.table (left_over toks s).state.table
  unfolding left_over
  left_grown [] s = grown_refl s.table
  left_grown (t ∷ toks) s = elim (cases_Bool (is_name t)) [
    | inl name ↦ rw name (grown_trans s.table (with_name t s).table (left_over toks (with_name t s)).state.table (name_grown t s) (left_grown toks (with_name t s)))
    | inr other ↦ rw other (left_grown toks s)
  ]

  left_holds : (toks : List Token) (s : State) → R s (left_over toks s).notes (left_over toks s).state
  unfolding left_over
  left_holds [] s = rules.none s
  left_holds (t ∷ toks) s = elim (cases_Bool (is_name t)) [
    | inl name ↦
        rw name (rules.both s (with_name t s) (left_over toks (with_name t s)).state (Left t s.before ∷ name_links t s) (left_over toks (with_name t s)).notes
        (rules.left t s) (left_holds toks (with_name t s)))
    | inr other ↦ rw other (left_holds toks s)
  ]

  valued_goes : (pre : Type 0) (file : SourceFile) (at : Pos) (toks : List Token) (s : State) (r : Result Bool CondFault) → GoesAny pre s (valued file at toks s r)
  valued_goes pre file at toks s (Err found) = tt
  valued_goes pre file at toks s (Ok b) = (left_grown toks s, λ p reach. (tt, left_holds toks s))

  judged_goes : (pre : Type 0) (file : SourceFile) (at : Pos) (toks : List Token) (s : State) → GoesAny pre s (judged file at toks s)
  judged_goes pre file at toks s =
      goes_test pre (Any {A = Bool}) s (list_any is_defined toks) (fault_at file at cause.DefinedFromMacro) (valued file at toks s (condition toks)) (valued_goes pre file at toks s (condition toks))

  asked_pieces_go : (pre : Type 0) (file : SourceFile) (at : Pos) (s : State) (o : Option (List Piece)) → GoesAny pre s (asked_pieces file at s o)
  asked_pieces_go pre file at s None = tt
  asked_pieces_go pre file at s (Some pieces) =
      then_goes {A = List Token} pre s (Ok (answered pieces s)) (expanded_in false file) (answered_goes pre pieces s) (λ toks t. expanded_goes pre false file toks t)

  asked_goes : (pre : Type 0) (file : SourceFile) (at : Pos) (toks : List Token) (s : State) → GoesAny pre s (asked_toks file at toks s)
  asked_goes pre file at toks s = asked_pieces_go pre file at s (pieces_from 0 toks)

  holds_goes : (pre : Type 0) (file : SourceFile) (at : Pos) (toks : List Token) (s : State) → GoesAny pre s (holds file at toks s)
  holds_goes pre file at toks s = then_goes pre s (asked_toks file at toks s) (judged file at) (asked_goes pre file at toks s) (λ out t. judged_goes pre file at out t)

  -- ---- files

  module _ (source : Source) (unit : UnitValue) (earlier : ℕ) where
    -- what stays the same
    abbrev ctx : Context
    ctx = context source file_text unit the_limits earlier

    opened_goes : (pre : Type 0) (place : Place) (path : List ℕ) (s : State) (o : Opening) → opening the_limits file_text place path s.table ≡ o
        → Goes pre (FileIs table) s (with_opened s o)
    opened_goes pre place path s (Err found) is = tt
    opened_goes pre place path s (Ok r) is =
        let fresh = opening-as s.table r.1 place path r.0 is in
        ((fresh.widens source).grown, λ p reach. (source-grown r.1 table r.0.number r.0 reach fresh.is_kept, rules.tables s r.1))

    open_goes : (pre : Type 0) (place : Place) (path : List ℕ) (s : State) → Goes pre (FileIs table) s (open_file ctx place path s)
    open_goes pre place path s = opened_goes pre place path s (opening the_limits file_text place path s.table) refl

    -- a state with a table that has grown
    grown_goes : {A : Type 0} (pre : Type 0) (V : A → Type 0) (s : State) (t : Table) (m : Outcome A) → IsGrown s.table t
        → Goes pre V (record s { table = t }) m → Goes pre V s m
    grown_goes pre V s t (Ok d) grown h = (
      grown_trans s.table t d.state.table grown h.0,
      λ p reach. let r = h.1 p reach in (r.0, rules.both s (record s { table = t }) d.state [] d.notes (rules.tables s t) r.1),
    )
    grown_goes pre V s t (Err found) grown h = tt

    searched_goes : (pre : Type 0) (file : SourceFile) (at : Pos) (s : State) (found : Searched) (o : Option (List ℕ)) → IsGrown s.table found.table
        → Goes pre (FileIs table) s (open_searched ctx file at s found o)
    searched_goes pre file at s found None grown = tt
    searched_goes pre file at s found (Some path) grown =
        grown_goes pre (FileIs table) s found.table (open_file ctx (place_in file at) path (record s { table = found.table })) grown
        (open_goes pre (place_in file at) path (record s { table = found.table }))

    header_goes : (pre : Type 0) (file : SourceFile) (at : Pos) (next : Bool) (h : Header) (s : State) → Goes pre (FileIs table) s (open_header ctx file at next h s)
    header_goes pre file at next h s =
        let paths = candidates_of next h s.behind file.path unit in
        let found : Searched = search source paths s.table in
        searched_goes pre file at s found found.path (search_wide source paths s.table).grown

    or_goes : (pre : Type 0) (file : SourceFile) (at : Pos) (toks : List Token) (s : State) (o : Option Header) → GoesAny pre s (header_or file at toks s o)
    or_goes pre file at toks s None = tt
    or_goes pre file at toks s (Some header) = (grown_refl s.table, λ p reach. (tt, rules.quiet (Named toks) s tt))

    computed_goes : (pre : Type 0) (file : SourceFile) (at : Pos) (toks : List Token) (s : State) → GoesAny pre s (computed_header file at toks s)
    computed_goes pre file at toks s =
        then_goes pre s (expanded_in false file toks s) (λ out t. header_or file at out t (header_of_toks out)) (expanded_goes pre false file toks s)
        (λ out t. or_goes pre file at out t (header_of_toks out))

    named_goes : (pre : Type 0) (file : SourceFile) (at : Pos) (toks : List Token) (s : State) → GoesAny pre s (header_named file at toks s)
    named_goes pre file at [] s = tt
    named_goes pre file at (t ∷ toks) s =
        goes_cond pre (Any {A = Header}) s (is_header t.kind) (only (header_in t.text) s) (computed_header file at (t ∷ toks) s)
        (goes_only pre (Any {A = Header}) s (header_in t.text) (λ p. tt)) (computed_goes pre file at (t ∷ toks) s)

    written_goes : (pre : Type 0) (file : SourceFile) (at : Pos) (s : State) (o : Option Header) → GoesAny pre s (written_header file at s o)
    written_goes pre file at s None = tt
    written_goes pre file at s (Some h) = goes_only pre (Any {A = Header}) s h (λ p. tt)

    next_named_goes : (pre : Type 0) (file : SourceFile) (at : Pos) (toks : List Token) (s : State) → GoesAny pre s (next_named file at toks s)
    next_named_goes pre file at toks s =
        goes_cond pre (Any {A = Header}) s (begins_header toks) (written_header file at s (header_at toks)) (computed_header file at toks s)
        (written_goes pre file at s (header_at toks)) (computed_goes pre file at toks s)

    -- what is known of the items of included files
    abbrev ProcessGoes : Process → Type 0
    ProcessGoes process = (file : SourceFile) (s : State) → GoesAny (FileIs table file) s (process file s)

    abbrev InnerGoes : Inner → Type 0
    InnerGoes None = Unit {0}
    InnerGoes (Some process) = ProcessGoes process

    -- a state in which a search for the next file of a name begins elsewhere
    placed_goes : {A : Type 0} (pre : Type 0) (V : A → Type 0) (s : State) (behind : Option ℕ) (m : Outcome A) → Goes pre V (record s { behind = behind }) m → Goes pre V s m
    placed_goes pre V s behind (Ok d) h = (
      h.0,
      λ p reach. let r = h.1 p reach in (r.0, rules.both s (record s { behind = behind }) d.state [] d.notes (rules.places s behind) r.1),
    )
    placed_goes pre V s behind (Err found) h = tt

    left_goes : {A : Type 0} (pre : Type 0) (V : A → Type 0) (s : State) (behind : Option ℕ) (m : Outcome A) → Goes pre V s m → Goes pre V s (left_to behind m)
    left_goes pre V s behind (Ok d) h = (
      h.0,
      λ p reach.
          let r = h.1 p reach in
          let u : State = record d.state { behind = behind } in
          (r.0, subst (λ (notes : List Note). R s notes u) (append-nil d.notes) (rules.both s d.state u d.notes [] r.1 (rules.places d.state behind))),
    )
    left_goes pre V s behind (Err found) h = tt

    entered_goes : (process : Process) → ProcessGoes process → (pre : Type 0) (at : Pos) (behind : Option ℕ) (file : SourceFile) (s : State) → (pre → FileIs table file)
        → GoesAny pre s (entered process at behind file s)
    entered_goes process known pre at behind file s h =
        let inside : State = record s { behind = behind } in
        let exit : List Token → State → Outcome (List Token) = λ toks t. Ok (did toks (Exited at file.number t.before ∷ []) t) in
        goes_noted pre (Any {A = List Token}) s (Entered at file.number s.before ∷ []) (left_to s.behind (onward (process file inside) exit))
        (λ p. rules.quiet (Entered at file.number s.before) s tt)
        (left_goes pre (Any {A = List Token}) s s.behind (onward (process file inside) exit)
        (then_goes pre s (process file inside) exit
        (placed_goes pre (Any {A = List Token}) s behind (process file inside)
        (goes_more (FileIs table file) pre (Any {A = List Token}) (Any {A = List Token}) inside (process file inside) h (λ a p k. tt) (known file inside)))
        (λ toks t. (grown_refl t.table, λ p reach. (tt, rules.quiet (Exited at file.number t.before) t tt)))))

    passes_goes : (process : Process) → ProcessGoes process → (at : Pos) → ProcessGoes (unless_once at process)
    passes_goes process known at file s =
        goes_cond (FileIs table file) (Any {A = List Token}) s (is_read_once file.number s) (Ok (did [] (ReadOnce true at file.number s.before ∷ []) s)) (process file s)
        (grown_refl s.table, λ p reach. (tt, rules.quiet (ReadOnce true at file.number s.before) s tt)) (known file s)

    included_goes : (inner : Inner) → InnerGoes inner → (pre : Type 0) (file : SourceFile) (at : Pos) (next : Bool) (h : Header) (s : State)
        → GoesAny pre s (included ctx inner file at next h s)
    included_goes None known pre file at next h s = tt
    included_goes (Some process) known pre file at next h s =
        let place_of : SourceFile → Option ℕ = λ f. behind_of next h s.behind file.path unit f.path in
        goes_onward pre (FileIs table) (Any {A = List Token}) s (open_header ctx file at next h s) (λ f t. entered (unless_once at process) at (place_of f) f t) (header_goes pre file at next h s)
        (λ f t. entered_goes (unless_once at process) (passes_goes process known at) (pre × FileIs table f) at (place_of f) f t (λ p. p.1))

    include_goes : (inner : Inner) → InnerGoes inner → (pre : Type 0) (file : SourceFile) (at : Pos) (toks : List Token) (s : State)
        → GoesAny pre s (include_of ctx inner file at toks s)
    include_goes inner known pre file at toks s =
        then_goes pre s (header_named file at (drop 2 toks) s) (included ctx inner file at false) (named_goes pre file at (drop 2 toks) s)
        (λ h t. included_goes inner known pre file at false h t)

    include_next_goes : (inner : Inner) → InnerGoes inner → (pre : Type 0) (file : SourceFile) (at : Pos) (toks : List Token) (s : State)
        → GoesAny pre s (include_next_of ctx inner file at toks s)
    include_next_goes inner known pre file at toks s =
        then_goes pre s (next_named file at (drop 2 toks) s) (included ctx inner file at true) (next_named_goes pre file at (drop 2 toks) s)
        (λ h t. included_goes inner known pre file at true h t)

    -- ---- items

    nothing_goes : (pre : Type 0) (s : State) → GoesAny {A = List Token} pre s (only [] s)
    nothing_goes pre s = goes_only pre (Any {A = List Token}) s [] (λ p. tt)

    pragma_goes : (pre : Type 0) (gnu_ : Bool) (file : SourceFile) (at : Pos) (toks : List Token) (s : State) → GoesAny pre s (pragma_of gnu_ file at toks s)
    pragma_goes pre gnu_ file at toks s =
        let note : Note = ReadOnce false at file.number s.before in
        goes_cond pre (Any {A = List Token}) s (gnu_ && says_once toks) (said_once file at s) (only [] s)
        (grown_refl s.table, λ p reach. (tt, rules.both s s (with_once file.number s) (note ∷ []) [] (rules.quiet note s tt) (rules.once s (s.once ++ file.number ∷ []))))
        (nothing_goes pre s)

    processed_goes : (inner : Inner) → InnerGoes inner → (pre : Type 0) (file : SourceFile) (k : ItemKind) (at : Pos) (toks : List Token) (s : State)
        → is_define k ≡ false → GoesAny pre s (processed ctx inner file k at toks s)
    processed_goes inner known pre file kind.Run at toks s is = run_goes pre ctx file toks s
    processed_goes inner known pre file kind.Define at toks s is = absurd (cc)
    processed_goes inner known pre file kind.Undef at toks s is = undefined_goes pre file at s (operand_in toks)
    processed_goes inner known pre file kind.Include at toks s is = include_goes inner known pre file at toks s
    processed_goes inner known pre file kind.Error at toks s is = tt
    processed_goes inner known pre file (kind.Bad c place nests) at toks s is = tt
    processed_goes inner known pre file (kind.Gnu gnu.IncludeNext) at toks s is = include_next_goes inner known pre file at toks s
    processed_goes inner known pre file (kind.Gnu gnu.Message) at toks s is = nothing_goes pre s
    processed_goes inner known pre file (kind.Gnu gnu.Elifdef) at toks s is = nothing_goes pre s
    processed_goes inner known pre file (kind.Gnu gnu.Elifndef) at toks s is = nothing_goes pre s
    processed_goes inner known pre file kind.If at toks s is = nothing_goes pre s
    processed_goes inner known pre file kind.Ifdef at toks s is = nothing_goes pre s
    processed_goes inner known pre file kind.Ifndef at toks s is = nothing_goes pre s
    processed_goes inner known pre file kind.Elif at toks s is = nothing_goes pre s
    processed_goes inner known pre file kind.Else at toks s is = nothing_goes pre s
    processed_goes inner known pre file kind.Endif at toks s is = nothing_goes pre s
    processed_goes inner known pre file kind.Line at toks s is = nothing_goes pre s
    processed_goes inner known pre file kind.Pragma at toks s is = pragma_goes pre (is_gnu unit.standard) file at toks s
    processed_goes inner known pre file kind.Empty at toks s is = nothing_goes pre s

    -- ---- conditions of GNU C

    there_goes : (pre : Type 0) (file : SourceFile) (at : Pos) (s : State) (found : Searched) (o : Option (List ℕ)) → IsGrown s.table found.table → GoesAny pre s (there ctx file at s found o)
    there_goes pre file at s found None grown =
        let t : State = record s { table = found.table } in
        grown_goes pre (Any {A = Bool}) s found.table (only false t) grown (goes_only pre (Any {A = Bool}) t false (λ p. tt))
    there_goes pre file at s found (Some path) grown =
        let t : State = record s { table = found.table } in
        grown_goes pre (Any {A = Bool}) s found.table (onward (open_file ctx (place_in file at) path t) (λ f u. only true u)) grown
        (goes_onward pre (FileIs table) (Any {A = Bool}) t (open_file ctx (place_in file at) path t) (λ f u. only true u) (open_goes pre (place_in file at) path t)
        (λ f u. goes_only (pre × FileIs table f) (Any {A = Bool}) u true (λ p. tt)))

    is_there_goes : (pre : Type 0) (file : SourceFile) (at : Pos) (next : Bool) (h : Header) (s : State) → GoesAny pre s (is_there ctx file at next h s)
    is_there_goes pre file at next h s =
        let paths = candidates_of next h s.behind file.path unit in
        let found : Searched = search source paths s.table in
        there_goes pre file at s found found.path (search_wide source paths s.table).grown

    found_goes : (pre : Type 0) (word : Token) (b : Bool) (s : State) → GoesAny pre s (found_as word b s)
    found_goes pre word b s = (grown_refl s.table, λ p reach. (tt, rules.quiet (Answered (answer_for word b)) s tt))

    look_goes : (pre : Type 0) (file : SourceFile) (at : Pos) (q : Question) (s : State) → GoesAny pre s (look ctx file at q s)
    look_goes pre file at (Unasked t) s = goes_only pre (Any {A = Token}) s t (λ p. tt)
    look_goes pre file at (Looks word operand) s =
        then_goes pre s (header_or file at operand s (header_of_toks operand)) (λ h t. onward (is_there ctx file at (asks_next word) h t) (found_as word))
        (or_goes pre file at operand s (header_of_toks operand))
        (λ h t. then_goes pre t (is_there ctx file at (asks_next word) h t) (found_as word) (is_there_goes pre file at (asks_next word) h t) (λ b u. found_goes pre word b u))
    look_goes pre file at Lacks s = tt

    looked_goes : (pre : Type 0) (file : SourceFile) (at : Pos) (qs : List Question) (s : State) → GoesAny pre s (looked ctx file at qs s)
    unfolding looked
    looked_goes pre file at [] s = goes_only pre (Any {A = List Token}) s [] (λ p. tt)
    looked_goes pre file at (q ∷ qs) s =
        then_goes pre s (look ctx file at q s) (λ t u. onward (looked ctx file at qs u) (λ toks v. only (t ∷ toks) v)) (look_goes pre file at q s)
        (λ t u. then_goes pre u (looked ctx file at qs u) (λ toks v. only (t ∷ toks) v) (looked_goes pre file at qs u) (λ toks v. goes_only pre (Any {A = List Token}) v (t ∷ toks) (λ p. tt)))

    known_goes : (pre : Type 0) (file : SourceFile) (at : Pos) (toks : List Token) (s : State) → GoesAny pre s (gnu_known ctx file at toks s)
    known_goes pre file at toks s =
        then_goes pre s (looked ctx file at (questions_from false 0 toks) s) (judged file at) (looked_goes pre file at (questions_from false 0 toks) s) (λ out t. judged_goes pre file at out t)

    gnu_asked_goes : (pre : Type 0) (file : SourceFile) (at : Pos) (toks : List Token) (s : State) → GoesAny pre s (gnu_asked ctx file at toks s)
    gnu_asked_goes pre file at toks s = then_goes pre s (asked_toks file at toks s) (gnu_known ctx file at) (asked_goes pre file at toks s) (λ out t. known_goes pre file at out t)

    gnu_goes : (pre : Type 0) (file : SourceFile) (at : Pos) (toks : List Token) (s : State) → GoesAny pre s (gnu_holds ctx file at toks s)
    gnu_goes pre file at toks s =
        then_goes pre s (looked ctx file at (questions_from true 0 toks) s) (gnu_asked ctx file at) (looked_goes pre file at (questions_from true 0 toks) s) (λ out t. gnu_asked_goes pre file at out t)

    -- ---- sections

    opens_with_goes : (pre : Type 0) (k : ItemKind) (file : SourceFile) (at : Pos) (toks : List Token) (s : State) → GoesAny pre s (opens_with k file at toks s)
    opens_with_goes pre kind.If file at toks s = holds_goes pre file at (drop 2 toks) s
    opens_with_goes pre kind.Ifdef file at toks s = asks_goes pre file at (λ b. b) s (operand_in toks)
    opens_with_goes pre kind.Ifndef file at toks s = asks_goes pre file at not s (operand_in toks)
    opens_with_goes pre (kind.Bad c place nests) file at toks s = tt
    opens_with_goes pre (kind.Gnu line) file at toks s = tt
    opens_with_goes pre kind.Run file at toks s = tt
    opens_with_goes pre kind.Define file at toks s = tt
    opens_with_goes pre kind.Undef file at toks s = tt
    opens_with_goes pre kind.Elif file at toks s = tt
    opens_with_goes pre kind.Else file at toks s = tt
    opens_with_goes pre kind.Endif file at toks s = tt
    opens_with_goes pre kind.Include file at toks s = tt
    opens_with_goes pre kind.Line file at toks s = tt
    opens_with_goes pre kind.Error file at toks s = tt
    opens_with_goes pre kind.Pragma file at toks s = tt
    opens_with_goes pre kind.Empty file at toks s = tt

    goes_with_goes : (pre : Type 0) (k : ItemKind) (file : SourceFile) (at : Pos) (toks : List Token) (s : State) → GoesAny pre s (goes_with k file at toks s)
    goes_with_goes pre (kind.Gnu gnu.Elifdef) file at toks s = asks_goes pre file at (λ b. b) s (operand_in toks)
    goes_with_goes pre (kind.Gnu gnu.Elifndef) file at toks s = asks_goes pre file at not s (operand_in toks)
    goes_with_goes pre (kind.Gnu gnu.IncludeNext) file at toks s = tt
    goes_with_goes pre (kind.Gnu gnu.Message) file at toks s = tt
    goes_with_goes pre (kind.Bad c place nests) file at toks s = holds_goes pre file at (drop 2 toks) s
    goes_with_goes pre kind.Run file at toks s = holds_goes pre file at (drop 2 toks) s
    goes_with_goes pre kind.Define file at toks s = holds_goes pre file at (drop 2 toks) s
    goes_with_goes pre kind.Undef file at toks s = holds_goes pre file at (drop 2 toks) s
    goes_with_goes pre kind.If file at toks s = holds_goes pre file at (drop 2 toks) s
    goes_with_goes pre kind.Ifdef file at toks s = holds_goes pre file at (drop 2 toks) s
    goes_with_goes pre kind.Ifndef file at toks s = holds_goes pre file at (drop 2 toks) s
    goes_with_goes pre kind.Elif file at toks s = holds_goes pre file at (drop 2 toks) s
    goes_with_goes pre kind.Else file at toks s = holds_goes pre file at (drop 2 toks) s
    goes_with_goes pre kind.Endif file at toks s = holds_goes pre file at (drop 2 toks) s
    goes_with_goes pre kind.Include file at toks s = holds_goes pre file at (drop 2 toks) s
    goes_with_goes pre kind.Line file at toks s = holds_goes pre file at (drop 2 toks) s
    goes_with_goes pre kind.Error file at toks s = holds_goes pre file at (drop 2 toks) s
    goes_with_goes pre kind.Pragma file at toks s = holds_goes pre file at (drop 2 toks) s
    goes_with_goes pre kind.Empty file at toks s = holds_goes pre file at (drop 2 toks) s

    opens_in_goes : (pre : Type 0) (k : ItemKind) (file : SourceFile) (at : Pos) (toks : List Token) (s : State) → GoesAny pre s (opens_in ctx k file at toks s)
    opens_in_goes pre k file at toks s =
        goes_cond pre (Any {A = Bool}) s (asks_files unit.standard k) (gnu_holds ctx file at (drop 2 toks) s) (opens_with k file at toks s)
        (gnu_goes pre file at (drop 2 toks) s) (opens_with_goes pre k file at toks s)

    goes_in_goes : (pre : Type 0) (k : ItemKind) (file : SourceFile) (at : Pos) (toks : List Token) (s : State) → GoesAny pre s (goes_in ctx k file at toks s)
    goes_in_goes pre k file at toks s =
        goes_cond pre (Any {A = Bool}) s (asks_files unit.standard k) (gnu_holds ctx file at (drop 2 toks) s) (goes_with k file at toks s)
        (gnu_goes pre file at (drop 2 toks) s) (goes_with_goes pre k file at toks s)

    -- only lines of these kinds turn so
    turns_no_define : (k : ItemKind) (turn : Turn) → turn_of k ≡ turn → (turn ≡ Stays → ⊥) → is_define k ≡ false
    turns_no_define kind.Define turn is other = absurd (other (sym is))
    turns_no_define kind.If turn is other = refl
    turns_no_define kind.Ifdef turn is other = refl
    turns_no_define kind.Ifndef turn is other = refl
    turns_no_define (kind.Bad c place nests) turn is other = refl
    turns_no_define (kind.Gnu line) turn is other = refl
    turns_no_define kind.Run turn is other = refl
    turns_no_define kind.Undef turn is other = refl
    turns_no_define kind.Elif turn is other = refl
    turns_no_define kind.Else turn is other = refl
    turns_no_define kind.Endif turn is other = refl
    turns_no_define kind.Include turn is other = refl
    turns_no_define kind.Line turn is other = refl
    turns_no_define kind.Error turn is other = refl
    turns_no_define kind.Pragma turn is other = refl
    turns_no_define kind.Empty turn is other = refl

    reaching_goes : (file : SourceFile) (k : ℕ) (i : ItemText) (evaluated : Bool) (s : State) (m : Outcome Stepped) → is_define i.kind ≡ false
        → GoesAny (IsItem table file k i) s m → GoesAny (IsItem table file k i) s (reaching file k evaluated s m)
    reaching_goes file k i evaluated s m other h =
        goes_noted (IsItem table file k i) (Any {A = Stepped}) s (Reaches file.number k evaluated s.before ∷ []) m (λ is. rules.reaches file k i evaluated s is other) h

    only_goes : (pre : Type 0) (s : State) (d : Stepped) → GoesAny pre s (only d s)
    only_goes pre s d = goes_only pre (Any {A = Stepped}) s d (λ p. tt)

    -- what follows a test or a value
    then_only : {A : Type 0} (pre : Type 0) (s : State) (m : Outcome A) (next : A → Stepped) → GoesAny pre s m → GoesAny pre s (onward m (λ a t. only (next a) t))
    then_only pre s m next h = then_goes pre s m (λ a t. only (next a) t) h (λ a t. only_goes pre t (next a))

    opens_goes : (file : SourceFile) (k : ℕ) (i : ItemText) (sections : List Section) (s : State) → is_define i.kind ≡ false
        → GoesAny (IsItem table file k i) s (opens ctx file k i sections s)
    opens_goes file k i sections s other =
        goes_cond (IsItem table file k i) (Any {A = Stepped}) s (are_processed sections)
        (reaching file k (is_if i.kind) s (onward (opens_in ctx i.kind file i.at i.toks s) (λ b t. only (stepped [] (section i.at (group_if b) false ∷ sections)) t)))
        (only (stepped [] (section i.at Skipped false ∷ sections)) s)
        (reaching_goes file k i (is_if i.kind) s (onward (opens_in ctx i.kind file i.at i.toks s) (λ b t. only (stepped [] (section i.at (group_if b) false ∷ sections)) t)) other
        (then_only (IsItem table file k i) s (opens_in ctx i.kind file i.at i.toks s) (λ b. stepped [] (section i.at (group_if b) false ∷ sections))
        (opens_in_goes (IsItem table file k i) i.kind file i.at i.toks s)))
        (only_goes (IsItem table file k i) s (stepped [] (section i.at Skipped false ∷ sections)))

    goes_on_goes : (file : SourceFile) (k : ℕ) (i : ItemText) (open_ : Section) (sections : List Section) (s : State) (g : Group) → is_define i.kind ≡ false
        → GoesAny (IsItem table file k i) s (goes_on ctx file k i open_ sections s g)
    goes_on_goes file k i open_ sections s Awaited other =
        reaching_goes file k i true s (onward (goes_in ctx i.kind file i.at i.toks s) (λ b t. only (go_on open_ (group_if b) false sections) t)) other
        (then_only (IsItem table file k i) s (goes_in ctx i.kind file i.at i.toks s) (λ b. go_on open_ (group_if b) false sections)
        (goes_in_goes (IsItem table file k i) i.kind file i.at i.toks s))
    goes_on_goes file k i open_ sections s Skipped other = only_goes (IsItem table file k i) s (go_on open_ Skipped false sections)
    goes_on_goes file k i open_ sections s Processed other =
        reaching_goes file k i false s (only (go_on open_ (group_after Processed) false sections) s) other (only_goes (IsItem table file k i) s (go_on open_ (group_after Processed) false sections))
    goes_on_goes file k i open_ sections s Over other =
        reaching_goes file k i false s (only (go_on open_ (group_after Over) false sections) s) other (only_goes (IsItem table file k i) s (go_on open_ (group_after Over) false sections))

    alive_goes : (file : SourceFile) (k : ℕ) (i : ItemText) (g : Group) (s : State) (d : Stepped) → is_define i.kind ≡ false
        → GoesAny (IsItem table file k i) s (reaching_alive file k g s (only d s))
    alive_goes file k i Processed s d other = reaching_goes file k i false s (only d s) other (only_goes (IsItem table file k i) s d)
    alive_goes file k i Awaited s d other = reaching_goes file k i false s (only d s) other (only_goes (IsItem table file k i) s d)
    alive_goes file k i Over s d other = reaching_goes file k i false s (only d s) other (only_goes (IsItem table file k i) s d)
    alive_goes file k i Skipped s d other = only_goes (IsItem table file k i) s d

    in_section_goes : (pre : Type 0) (s : State) (file : SourceFile) (i : ItemText) (turn : Turn) (sections : List Section) (next : Section → List Section → Outcome Stepped)
        → ((o : Section) (around : List Section) → GoesAny pre s (next o around)) → GoesAny pre s (in_section file i turn sections next)
    in_section_goes pre s file i turn [] next h = tt
    in_section_goes pre s file i Ends (o ∷ around) next h = h o around
    in_section_goes pre s file i Opens (o ∷ around) next h = goes_test pre (Any {A = Stepped}) s o.after_else (fault_at file i.at cause.UnbalancedIf) (next o around) (h o around)
    in_section_goes pre s file i GoesOn (o ∷ around) next h = goes_test pre (Any {A = Stepped}) s o.after_else (fault_at file i.at cause.UnbalancedIf) (next o around) (h o around)
    in_section_goes pre s file i GoesLast (o ∷ around) next h = goes_test pre (Any {A = Stepped}) s o.after_else (fault_at file i.at cause.UnbalancedIf) (next o around) (h o around)
    in_section_goes pre s file i Stays (o ∷ around) next h = goes_test pre (Any {A = Stepped}) s o.after_else (fault_at file i.at cause.UnbalancedIf) (next o around) (h o around)

    -- a definition that is reached is made
    defined_goes : (gnu : Bool) (file : SourceFile) (k : ℕ) (i : ItemText) (sections : List Section) (s : State) (o : Option Definition) → i.kind ≡ kind.Define → defined_by i.toks ≡ o
        → GoesAny (IsItem table file k i) s (reaching file k false s (onward (defined_as gnu file i.at s o) (λ toks t. only (stepped toks sections) t)))
    defined_goes gnu file k i sections s None is by = tt
    defined_goes gnu file k i sections s (Some m) is by = either (may_define gnu m)
      where
        either : (b : Bool) → GoesAny (IsItem table file k i) s (reaching file k false s (onward
            (cond b (Ok (did [] (define_notes (in_gnu gnu m) s) (after_define (in_gnu gnu m) s))) (Err (fault_at file i.at cause.BadDirective))) (λ toks t. only (stepped toks sections) t)))
        either false = tt
        either true = (
          name_grown m.name s,
          λ item reach. (
            tt,
            rules.both s (after_define (in_gnu gnu m) s) (after_define (in_gnu gnu m) s) (Reaches file.number k false s.before ∷ define_notes (in_gnu gnu m) s) []
                (rules.defined gnu file k i m s item is by) (rules.none (after_define (in_gnu gnu m) s)),
          ),
        )

    define_kind : (k : ItemKind) → is_define k ≡ true → k ≡ kind.Define
    define_kind kind.Define is = refl
    define_kind _ is = absurd (cc)

    stays_goes : (inner : Inner) → InnerGoes inner → (file : SourceFile) (k : ℕ) (i : ItemText) (sections : List Section) (s : State)
        → GoesAny (IsItem table file k i) s (reaching file k false s (onward (processed ctx inner file i.kind i.at i.toks s) (λ toks t. only (stepped toks sections) t)))
    stays_goes inner known file k i sections s = elim (cases_Bool (is_define i.kind)) [
      | inl define ↦
          let is = define_kind i.kind define in
          let Q : ItemKind → Type 0 = λ kd. GoesAny (IsItem table file k i) s (reaching file k false s (onward (processed ctx inner file kd i.at i.toks s) (λ toks t. only (stepped toks sections) t))) in
          subst Q (sym is) (defined_goes (is_gnu ctx.unit.standard) file k i sections s (defined_by i.toks) is refl)
      | inr other ↦
          reaching_goes file k i false s (onward (processed ctx inner file i.kind i.at i.toks s) (λ toks t. only (stepped toks sections) t)) other
          (then_only (IsItem table file k i) s (processed ctx inner file i.kind i.at i.toks s) (λ toks. stepped toks sections)
          (processed_goes inner known (IsItem table file k i) file i.kind i.at i.toks s other))
    ]

    turned_goes : (inner : Inner) → InnerGoes inner → (file : SourceFile) (k : ℕ) (i : ItemText) (sections : List Section) (s : State) (turn : Turn) → turn_of i.kind ≡ turn
        → GoesAny (IsItem table file k i) s (turned ctx inner file k i sections s turn)
    turned_goes inner known file k i sections s Opens turn = opens_goes file k i sections s (turns_no_define i.kind Opens turn (λ e. absurd (cc)))
    turned_goes inner known file k i sections s GoesOn turn =
        in_section_goes (IsItem table file k i) s file i GoesOn sections (λ open_ around. goes_on ctx file k i open_ around s open_.group)
        (λ o around. goes_on_goes file k i o around s o.group (turns_no_define i.kind GoesOn turn (λ e. absurd (cc))))
    turned_goes inner known file k i sections s GoesLast turn =
        in_section_goes (IsItem table file k i) s file i GoesLast sections (λ open_ around. reaching_alive file k open_.group s (only (go_on open_ (group_of_else open_.group) true around) s))
        (λ o around. alive_goes file k i o.group s (go_on o (group_of_else o.group) true around) (turns_no_define i.kind GoesLast turn (λ e. absurd (cc))))
    turned_goes inner known file k i sections s Ends turn =
        in_section_goes (IsItem table file k i) s file i Ends sections (λ open_ around. reaching_alive file k open_.group s (only (stepped [] around) s))
        (λ o around. alive_goes file k i o.group s (stepped [] around) (turns_no_define i.kind Ends turn (λ e. absurd (cc))))
    turned_goes inner known file k i sections s Stays turn =
        goes_cond (IsItem table file k i) (Any {A = Stepped}) s (are_processed sections)
        (reaching file k false s (onward (processed ctx inner file i.kind i.at i.toks s) (λ toks t. only (stepped toks sections) t)))
        (only (stepped [] sections) s) (stays_goes inner known file k i sections s) (only_goes (IsItem table file k i) s (stepped [] sections))

    -- a line that GNU C alone has, in a unit of another standard
    foreign_goes : (pre : Type 0) (file : SourceFile) (i : ItemText) (sections : List Section) (s : State) → GoesAny pre s (foreign_line file i sections s)
    foreign_goes pre file i sections s =
        goes_cond pre (Any {A = Stepped}) s (are_processed sections) (Err (fault_at file i.at cause.BadDirective)) (only (stepped [] sections) s) tt
        (only_goes pre s (stepped [] sections))

    step_goes : (inner : Inner) → InnerGoes inner → (file : SourceFile) (k : ℕ) (i : ItemText) (sections : List Section) (s : State)
        → GoesAny (IsItem table file k i) s (item_step ctx inner file k i sections s)
    step_goes inner known file k i sections s =
        goes_cond (IsItem table file k i) (Any {A = Stepped}) s (is_foreign unit.standard i.kind) (foreign_line file i sections s)
        (turned ctx inner file k i sections s (turn_of i.kind)) (foreign_goes (IsItem table file k i) file i sections s)
        (turned_goes inner known file k i sections s (turn_of i.kind) refl)

    -- ---- all items

    end_goes : (pre : Type 0) (file : SourceFile) (sections : List Section) (s : State) → GoesAny pre s (file_end file sections s)
    end_goes pre file [] s = nothing_goes pre s
    end_goes pre file (o ∷ sections) s = tt

    -- tokens behind tokens
    both_goes : (pre : Type 0) (toks : List Token) (s : State) (m : Outcome (List Token)) → GoesAny pre s m → GoesAny pre s (onward m (λ more u. only (toks ++ more) u))
    both_goes pre toks s m h = then_goes pre s m (λ more u. only (toks ++ more) u) h (λ more u. goes_only pre (Any {A = List Token}) u (toks ++ more) (λ p. tt))

    -- the items of a kept file from number k on
    record AreItems (file : SourceFile) (k : ℕ) (items : List ItemText) : Type 0 where
      is_kept : FileIs table file
      at : (j : ℕ) (i : ItemText) → slice_get items j ≡ Some i → slice_get (items_in file) (k + j) ≡ Some i

    first_item : (file : SourceFile) (k : ℕ) (i : ItemText) (items : List ItemText) → AreItems file k (i ∷ items) → IsItem table file k i
    first_item file k i items h =
        let same : k + 0 ≡ k = omega arith in
        record { is_kept = h.is_kept; at = subst (λ (n : ℕ). slice_get (items_in file) n ≡ Some i) same (h.at 0 i refl) }

    later_items : (file : SourceFile) (k : ℕ) (i : ItemText) (items : List ItemText) → AreItems file k (i ∷ items) → AreItems file (k + 1) items
    later_items file k i items h = record {
      is_kept = h.is_kept;
      at = λ j x e.
          let same : k + suc j ≡ k + 1 + j = omega arith in
          subst (λ (n : ℕ). slice_get (items_in file) n ≡ Some x) same (h.at (suc j) x e);
    }

    walk_goes : (inner : Inner) → InnerGoes inner → (file : SourceFile) (k : ℕ) (items : List ItemText) (sections : List Section) (s : State)
        → GoesAny (AreItems file k items) s (walk ctx inner file k items sections s)
    unfolding walk
    walk_goes inner known file k [] sections s = end_goes (AreItems file k []) file sections s
    walk_goes inner known file k (i ∷ items) sections s =
        then_goes (AreItems file k (i ∷ items)) s (item_step ctx inner file k i sections s) (λ d t. onward (walk ctx inner file (k + 1) items d.sections t) (λ toks u. only (d.toks ++ toks) u))
        (goes_more (IsItem table file k i) (AreItems file k (i ∷ items)) (Any {A = Stepped}) (Any {A = Stepped}) s (item_step ctx inner file k i sections s)
        (λ p. first_item file k i items p) (λ a p h. tt) (step_goes inner known file k i sections s))
        (λ d t. both_goes (AreItems file k (i ∷ items)) d.toks t (walk ctx inner file (k + 1) items d.sections t)
        (goes_more (AreItems file (k + 1) items) (AreItems file k (i ∷ items)) (Any {A = List Token}) (Any {A = List Token}) t (walk ctx inner file (k + 1) items d.sections t)
        (λ p. later_items file k i items p) (λ a p h. tt) (walk_goes inner known file (k + 1) items d.sections t)))

    all_items : (file : SourceFile) → FileIs table file → AreItems file 0 (items_in file)
    all_items file is = record {
      is_kept = is;
      at = λ j i e. let same : j ≡ 0 + j = omega arith in subst (λ (n : ℕ). slice_get (items_in file) n ≡ Some i) same e;
    }

    file_goes : (inner : Inner) → InnerGoes inner → (file : SourceFile) (s : State) → GoesAny (FileIs table file) s (walk ctx inner file 0 (items_in file) [] s)
    file_goes inner known file s =
        goes_more (AreItems file 0 (items_in file)) (FileIs table file) (Any {A = List Token}) (Any {A = List Token}) s (walk ctx inner file 0 (items_in file) [] s)
        (λ p. all_items file p) (λ a p h. tt) (walk_goes inner known file 0 (items_in file) [] s)

    files_go : (room : ℕ) → ProcessGoes (file_items ctx room)
    unfolding file_items
    files_go zero file s = file_goes None tt file s
    files_go (suc room) file s = file_goes (Some (file_items ctx room)) (files_go room) file s

    -- ---- units

    outer_goes : (pre : Type 0) (path : List ℕ) (s : State) → GoesAny pre s (outer_file ctx path s)
    outer_goes pre path s =
        goes_onward pre (FileIs table) (Any {A = List Token}) s (open_file ctx (first_place path) path s) (file_items ctx (ctx.limits.open_files - 1))
        (open_goes pre (first_place path) path s)
        (λ f t. goes_more (FileIs table f) (pre × FileIs table f) (Any {A = List Token}) (Any {A = List Token}) t (file_items ctx (ctx.limits.open_files - 1) f t) (λ p. p.1) (λ a p h. tt)
        (files_go (ctx.limits.open_files - 1) f t))

    main_goes : (pre : Type 0) (path : List ℕ) (s : State) → GoesAny pre s (main_file ctx path s)
    main_goes pre path s =
        grown_goes pre (Any {A = List Token}) s (asked source path s.table) (outer_file ctx path (record s { table = asked source path s.table })) (widens_asked source path s.table).grown
        (outer_goes pre path (record s { table = asked source path s.table }))

    both_files_go : (defines path : List ℕ) (s : State) → GoesAny (Unit {0}) s (both_files ctx defines path s)
    both_files_go defines path s =
        then_goes (Unit {0}) s (outer_file ctx defines s) (λ toks t. onward (main_file ctx path t) (λ more u. only (toks ++ more) u)) (outer_goes (Unit {0}) defines s)
        (λ toks t. both_goes (Unit {0}) toks t (main_file ctx path t) (main_goes (Unit {0}) path t))

-- A relation that holds of each step of a unit without a fault holds of its notes and of the states at its two ends. The
-- kept files are those of a table into which its own grows.
pub unit_goes : (R : State → List Note → State → Type 0) (source : Source) (number : ℕ) (unit : UnitValue) (before : Carried) (d : Did (List Token)) (table : Table)
    → unit_outcome the_limits file_text source number unit before ≡ Ok d → IsGrown d.state.table table → StepRules R table
    → R (first_state the_limits number unit before.table) d.notes d.state
unit_goes R source number unit before d table is grown rules =
    let s : State = first_state the_limits number unit before.table in
    let all : GoesAny R table rules {A = List Token} (Unit {0}) s (Ok d) =
    subst (λ (o : Outcome (List Token)). GoesAny R table rules {A = List Token} (Unit {0}) s o) is
    (both_files_go R table rules source unit before.toks (pseudo_path number unit before.table) unit.path s) in
    (all.1 tt grown).1
