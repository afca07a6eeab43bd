-- What stays true of the table of files: whatever no step that asks for a path or opens a file undoes. Here the
-- steps of expansions, definitions, conditions and searches.
use Rattle.std.proofs.Common.{◌≡◌, ℕ, ◌+◌, nat_lt, nat_le, Bool, true, false, cond, is_some, List, [], ◌∷◌, ◌++◌, length, Option, None, Some, Result, Ok, Err, refl, inl, inr}
use Rattle.std.proofs.lemmas.Bool.{cases_Bool, and_parts}
use Rattle.std.specs.List.{list_any, list_all, filter}
use Rattle.std.specs.Str.{is_utf8}
use Rattle.cs_base.specs.declared.causes.Cause.TheVariants.{BadDirective}
use Rattle.cs_base.specs.declared.causes.Cause.TheVariants.{DefinedFromMacro, TooManyFiles, TooManyBytes}
use Rattle.cs_base.specs.declared.positions.Place.{Place}
use Rattle.cs_base.specs.declared.positions.Pos.{Pos}
use Rattle.cs_base.specs.Token.{Token}
use Rattle.cs_base.proofs.BoolLemmas.{and_not-false as not_pseudo}
use Rattle.source_files.specs.Below.lexer.FileText.{TextValue, LexFault, FileTooLarge, OpenComment}
use Rattle.source_files.specs.Below.line_shape.Signs.{is_name}
use Rattle.unit_steps.specs.Below.cond_eval.declared.faults.CondFault.{CondFault}
use Rattle.unit_steps.specs.Below.cond_eval.Evaluation.{condition}
use Rattle.unit_steps.specs.Below.macro_body.declared.definitions.Definition.{Definition}
use Rattle.unit_steps.specs.Below.macro_body.Notes as expansion
use Rattle.unit_steps.specs.Below.macro_expand.Expansion.{expansion}
use Rattle.unit_steps.specs.Below.macro_body.Defining.{defined_by, in_gnu}
use Rattle.source_files.specs.Limits.{Limits}
use Rattle.source_files.specs.Files.{Source, Found, Lines, Absent, Unopened, Opened, Made, Table, SourceFile, found_at, opened, asked, number_of, files_opened}
use Rattle.source_files.specs.Faults.{Fault, fault, fault_at}
use Rattle.unit_steps.specs.State.{Context, State, only, did}
use Rattle.source_files.specs.Opening.{Reader, Opening, file_read, readable, first_opened, are_too_many, opened_as, opening}
use Rattle.source_files.specs.Search.{Searched, can_be_asked, search, search_on}
use Rattle.include_tree.specs.OpeningStep.{with_opened, open_file}
use Rattle.unit_steps.specs.Names.{with_name, spelled_in}
use Rattle.unit_steps.specs.Expanding.{expanded_as, expanded_in, most_toks, put_out, run_of}
use Rattle.unit_steps.specs.Conditions.{Piece, Plain, Asks, pieces_from, answered, left_over, valued, judged, asked_pieces, asked_toks, holds, is_defined}
use Rattle.unit_steps.specs.Directives.{defined_as, define_of, undefined_as, undef_of, operand_in, asks_name, define_notes, after_define, may_define}
use Rattle.include_tree.specs.Laws.{IfDone}
use Rattle.include_tree.specs.PseudoFiles.{is_pseudo}
use Rattle.include_tree.proofs.OutcomeLemmas.{onward_done, test_done}

-- What no step undoes.
pub record IsStable (source : Source) (J : Table → Type 0) : Type 0 where
  pub asks : (path : List ℕ) (t : Table) → is_pseudo path ≡ false → J t → J (asked source path t)
  pub opens : (path bytes : List ℕ) (t : Table) → found_at path t ≡ Some (Unopened bytes) → J t → J (opened path bytes t)

-- it is true of the table behind a value
abbrev pub Stays : {A : Type 0} → (Table → Type 0) → A → State → Type 0
Stays J a t = J t.table

cond_stays : (J : Table → Type 0) (b : Bool) (s t : State) → J s.table → J t.table → J (cond b s t).table
cond_stays J true s t h k = h
cond_stays J false s t h k = k

name_stays : (J : Table → Type 0) (name : Token) (s : State) → J s.table → J (with_name name s).table
name_stays J name s h =
    cond_stays J (is_some (spelled_in s.names name.text)) s (record s { names = s.names ++ name ∷ [] }) h h

-- ---- expansions

expanded_as_stays : (J : Table → Type 0) (run : Bool) (file : SourceFile) (s : State) (r : Result expansion.Expanded expansion.Fault) → J s.table
    → IfDone (Stays {A = List Token} J) (expanded_as run file s r)
expanded_as_stays J run file s (Ok e) h = h
expanded_as_stays J run file s (Err found) h = tt

pub expanded_stays : (J : Table → Type 0) (run : Bool) (file : SourceFile) (toks : List Token) (s : State) → J s.table
    → IfDone (Stays {A = List Token} J) (expanded_in run file toks s)
expanded_stays J run file toks s h = expanded_as_stays J run file s (expansion s.macros file.path toks s.work) h

put_out_stays : (J : Table → Type 0) (ctx : Context) (file : SourceFile) (toks : List Token) (s : State) → J s.table
    → IfDone (Stays {A = List Token} J) (put_out ctx file toks s)
put_out_stays J ctx file toks s h =
    test_done (Stays {A = List Token} J) (nat_lt (most_toks ctx) (s.before + length toks)) _
    (only toks (record s { before = s.before + length toks })) h

pub run_stays : (J : Table → Type 0) (ctx : Context) (file : SourceFile) (toks : List Token) (s : State) → J s.table
    → IfDone (Stays {A = List Token} J) (run_of ctx file toks s)
run_stays J ctx file toks s h =
    onward_done (Stays {A = List Token} J) (Stays {A = List Token} J) (expanded_in true file toks s) (put_out ctx file)
    (expanded_stays J true file toks s h) (λ out t k. put_out_stays J ctx file out t k)

-- ---- definitions and tests

defined_as_stays : (J : Table → Type 0) (gnu : Bool) (file : SourceFile) (at : Pos) (s : State) (o : Option Definition) → J s.table
    → IfDone (Stays {A = List Token} J) (defined_as gnu file at s o)
defined_as_stays J gnu file at s None h = tt
defined_as_stays J gnu file at s (Some m) h = by (may_define gnu m)
  where
    own : Definition
    own = in_gnu gnu m

    by : (b : Bool) → IfDone (Stays {A = List Token} J) (cond b (Ok (did [] (define_notes own s) (after_define own s))) (Err (fault_at file at BadDirective)))
    by true = name_stays J m.name s h
    by false = tt

pub define_stays : (J : Table → Type 0) (gnu : Bool) (file : SourceFile) (at : Pos) (toks : List Token) (s : State) → J s.table
    → IfDone (Stays {A = List Token} J) (define_of gnu file at toks s)
define_stays J gnu file at toks s h = defined_as_stays J gnu file at s (defined_by toks) h

undefined_as_stays : (J : Table → Type 0) (file : SourceFile) (at : Pos) (s : State) (o : Option Token) → J s.table
    → IfDone (Stays {A = List Token} J) (undefined_as file at s o)
undefined_as_stays J file at s None h = tt
undefined_as_stays J file at s (Some name) h = name_stays J name s h

pub undef_stays : (J : Table → Type 0) (file : SourceFile) (at : Pos) (toks : List Token) (s : State) → J s.table
    → IfDone (Stays {A = List Token} J) (undef_of file at toks s)
undef_stays J file at toks s h = undefined_as_stays J file at s (operand_in toks) h

pub asks_stays : (J : Table → Type 0) (file : SourceFile) (at : Pos) (answer : Bool → Bool) (s : State) (o : Option Token) → J s.table
    → IfDone (Stays {A = Bool} J) (asks_name file at answer s o)
asks_stays J file at answer s None h = tt
asks_stays J file at answer s (Some name) h = name_stays J name s h

-- ---- conditions

answered_stays : (J : Table → Type 0) (pieces : List Piece) (s : State) → J s.table → J (answered pieces s).state.table
unfolding answered
answered_stays J [] s h = h
answered_stays J (Plain t ∷ pieces) s h = answered_stays J pieces s h
answered_stays J (Asks word name ∷ pieces) s h = answered_stays J pieces (with_name name s) (name_stays J name s h)

left_over_stays : (J : Table → Type 0) (toks : List Token) (s : State) → J s.table → J (left_over toks s).state.table
unfolding left_over
left_over_stays J [] s h = h
left_over_stays J (t ∷ toks) s h = elim (cases_Bool (is_name t)) [
  | inl name ↦ rw name (left_over_stays J toks (with_name t s) (name_stays J t s h))
  | inr other ↦ rw other (left_over_stays J toks s h)
]

valued_stays : (J : Table → Type 0) (file : SourceFile) (at : Pos) (toks : List Token) (s : State) (r : Result Bool CondFault) → J s.table
    → IfDone (Stays {A = Bool} J) (valued file at toks s r)
valued_stays J file at toks s (Ok b) h = left_over_stays J toks s h
valued_stays J file at toks s (Err found) h = tt

pub judged_stays : (J : Table → Type 0) (file : SourceFile) (at : Pos) (toks : List Token) (s : State) → J s.table
    → IfDone (Stays {A = Bool} J) (judged file at toks s)
judged_stays J file at toks s h =
    test_done (Stays {A = Bool} J) (list_any is_defined toks) (fault_at file at DefinedFromMacro) (valued file at toks s (condition toks))
    (valued_stays J file at toks s (condition toks) h)

asked_pieces_stays : (J : Table → Type 0) (file : SourceFile) (at : Pos) (s : State) (o : Option (List Piece)) → J s.table
    → IfDone (Stays {A = List Token} J) (asked_pieces file at s o)
asked_pieces_stays J file at s None h = tt
asked_pieces_stays J file at s (Some pieces) h =
    onward_done (Stays {A = List Token} J) (Stays {A = List Token} J) (Ok (answered pieces s)) (expanded_in false file) (answered_stays J pieces s h)
    (λ toks t k. expanded_stays J false file toks t k)

pub asked_stays : (J : Table → Type 0) (file : SourceFile) (at : Pos) (toks : List Token) (s : State) → J s.table
    → IfDone (Stays {A = List Token} J) (asked_toks file at toks s)
asked_stays J file at toks s h = asked_pieces_stays J file at s (pieces_from 0 toks) h

pub holds_stays : (J : Table → Type 0) (file : SourceFile) (at : Pos) (toks : List Token) (s : State) → J s.table
    → IfDone (Stays {A = Bool} J) (holds file at toks s)
holds_stays J file at toks s h =
    onward_done (Stays {A = List Token} J) (Stays {A = Bool} J) (asked_toks file at toks s) (judged file at) (asked_stays J file at toks s h)
    (λ out t k. judged_stays J file at out t k)

-- ---- searches

pub asked_is : (path : List ℕ) → can_be_asked path ≡ true → is_pseudo path ≡ false
asked_is path h = not_pseudo (is_utf8 path) (is_pseudo path) h

search_on_stays : (J : Table → Type 0) (path : List ℕ) (t : Table) (rest : Table → Searched) → ((u : Table) → J u → J (rest u).table) → (o : Option Found) → J t
    → J (search_on path t rest o).table
search_on_stays J path t rest k None h = k t h
search_on_stays J path t rest k (Some Absent) h = k t h
search_on_stays J path t rest k (Some Lines) h = k t h
search_on_stays J path t rest k (Some (Unopened bytes)) h = h
search_on_stays J path t rest k (Some (Opened bytes)) h = h
search_on_stays J path t rest k (Some (Made bytes)) h = h

pub search_stays : (source : Source) (J : Table → Type 0) → IsStable source J → (paths : List (List ℕ)) (t : Table) → list_all can_be_asked paths ≡ true → J t
    → J (search source paths t).table
unfolding search
search_stays source J k [] t all h = h
search_stays source J k (path ∷ paths) t all h =
    search_on_stays J path (asked source path t) (search source paths)
    (λ u g. search_stays source J k paths u ((and_parts (can_be_asked path) (list_all can_be_asked paths) all).1) g)
    (found_at path (asked source path t))
    (k.asks path t (asked_is path ((and_parts (can_be_asked path) (list_all can_be_asked paths) all).0)) h)

pub list_all-filtered : {X : Type 0} (p : X → Bool) (xs : List X) → list_all p (filter p xs) ≡ true
list_all-filtered p [] = refl
list_all-filtered p (x ∷ xs) = elim (cases_Bool (p x)) [
  | inl passes ↦ rw passes (rw passes (list_all-filtered p xs))
  | inr fails ↦ rw fails (list_all-filtered p xs)
]

-- ---- opening

abbrev OpensStable : (Table → Type 0) → Opening → Type 0
OpensStable J (Ok r) = J r.1
OpensStable J (Err found) = Unit {0}

file_read_stays : (J : Table → Type 0) (u : Table) (place : Place) (number : ℕ) (path : List ℕ) (r : Result TextValue LexFault) → J u
    → OpensStable J (file_read place number path u r)
file_read_stays J u place number path (Ok text) h = h
file_read_stays J u place number path (Err FileTooLarge) h = tt
file_read_stays J u place number path (Err (OpenComment at line column)) h = tt

test_stays : (J : Table → Type 0) (b : Bool) (found : Fault) (o : Opening) → OpensStable J o → OpensStable J (cond b (Err found) o)
test_stays J true found o h = tt
test_stays J false found o h = h

first_opened_stays : (J : Table → Type 0) (limits : Limits) (reader : Reader) (place : Place) (path bytes : List ℕ) (t : Table) → J (opened path bytes t)
    → OpensStable J (first_opened limits reader place path bytes t)
first_opened_stays J limits reader place path bytes t h =
    test_stays J (nat_le limits.files (files_opened t)) (fault place TooManyFiles)
    (cond (are_too_many limits reader path bytes t) (Err (fault place TooManyBytes)) (readable reader place path bytes (opened path bytes t)))
    (test_stays J (are_too_many limits reader path bytes t) (fault place TooManyBytes) (readable reader place path bytes (opened path bytes t))
    (file_read_stays J (opened path bytes t) place (number_of path (opened path bytes t)) path
    (reader (number_of path (opened path bytes t)) bytes) h))

opened_as_stays : (source : Source) (J : Table → Type 0) → IsStable source J → (limits : Limits) (reader : Reader) (place : Place) (path : List ℕ) (t : Table) (o : Option Found)
    → found_at path t ≡ o → J t → OpensStable J (opened_as limits reader place path t o)
opened_as_stays source J k limits reader place path t None e h = tt
opened_as_stays source J k limits reader place path t (Some Lines) e h = tt
opened_as_stays source J k limits reader place path t (Some Absent) e h = tt
opened_as_stays source J k limits reader place path t (Some (Unopened bytes)) e h =
    first_opened_stays J limits reader place path bytes t (k.opens path bytes t e h)
opened_as_stays source J k limits reader place path t (Some (Opened bytes)) e h =
    file_read_stays J t place (number_of path t) path (reader (number_of path t) bytes) h
opened_as_stays source J k limits reader place path t (Some (Made bytes)) e h =
    file_read_stays J t place (number_of path t) path (reader (number_of path t) bytes) h

with_opened_stays : (J : Table → Type 0) (s : State) (o : Opening) → OpensStable J o → IfDone (Stays {A = SourceFile} J) (with_opened s o)
with_opened_stays J s (Ok r) h = h
with_opened_stays J s (Err found) h = tt

pub open_file_stays : (ctx : Context) (J : Table → Type 0) → IsStable ctx.source J → (place : Place) (path : List ℕ) (s : State) → J s.table
    → IfDone (Stays {A = SourceFile} J) (open_file ctx place path s)
open_file_stays ctx J k place path s h =
    with_opened_stays J s (opening ctx.limits ctx.reader place path s.table)
    (opened_as_stays ctx.source J k ctx.limits ctx.reader place path s.table (found_at path s.table) refl h)
