-- Lines of directives do over the edited files what they did.
use Rattle.std.proofs.Common.{◌≡◌, ℕ, ◌+◌, Bool, true, false, cond, is_some, List, [], ◌∷◌, ◌++◌, length, map, drop, codes, Option, Some, None, Result, Ok, Err, ◌&&◌, refl, ap, sym, subst, ◌∙◌}
use Rattle.std.specs.List.{list_any, flat_map}
use Rattle.std.specs.Option.{option_map}
use Rattle.std.specs.Str.{bytes_eq}
use Rattle.std.proofs.lemmas.Option.{none-some, same_Some}
use Rattle.cs_base.specs.declared.causes.Cause.TheVariants.{BadDirective}
use Rattle.cs_base.specs.declared.causes.Cause.TheVariants as cause
use Rattle.cs_base.specs.declared.positions.Pos.{Pos}
use Rattle.cs_base.specs.Token.{Token, origin_at}
use Rattle.cs_base.specs.Units.{UnitValue}
use Rattle.unit_steps.specs.Below.cond_eval.declared.faults.CondFault.{CondFault}
use Rattle.unit_steps.specs.Below.cond_eval.Evaluation.{condition}
use Rattle.line_shape.specs.Signs.{is_name}
use Rattle.macro_body.specs.declared.definitions.Definition.{Definition}
use Rattle.line_shape.specs.MacroLine.{MacroParts, macro_of}
use Rattle.macro_body.specs.Defining.{form_of, definition_of, defined_by, in_gnu}
use Rattle.macro_body.specs.Hides.{toks_of}
use Rattle.macro_body.specs.Live.{with_macro, without_macro}
use Rattle.macro_body.specs.Notes as expansion
use Rattle.macro_expand.specs.Expansion as expanding
use Rattle.lexer.specs.FileText.{TextValue}
use Rattle.source_files.specs.Faults.{fault_at}
use Rattle.source_files.specs.Files.{SourceFile, Table}
use Rattle.source_files.specs.HeaderNames.{is_header, header_in, header_of_toks, header_at, begins_header}
use Rattle.source_files.specs.Search.{Header, behind_of}
use Rattle.source_files.specs.Tables.{IsGrown, AreFound}
use Rattle.source_files.proofs.TableLemmas.{grown_refl}
use Rattle.unit_steps.specs.Conditions.{Piece, Plain, Asks, pieces_from, is_macro, test_notes, answer_for, answered, left_name, left_over, valued, judged, asked_pieces, asked_toks, holds, is_defined}
use Rattle.unit_steps.specs.Directives.{operand_in, define_notes, after_define, defined_as, define_of, after_undef, undefined_as, undef_of, asks_name, says_once, with_once, said_once, pragma_of, is_read_once, may_define}
use Rattle.unit_steps.specs.Expanding.{expanded_as, expanded_in}
use Rattle.unit_steps.specs.IncludeNames.{header_or, computed_header, header_named, written_header, next_named}
use Rattle.unit_steps.specs.Names.{spelled_in, linked_with, name_links, with_name, parameter_named, definition_links}
use Rattle.unit_steps.specs.Notes.{Note, Happened, Defined, Undefined, Tested, Left, Answered, Entered, Exited, ReadOnce, Named}
use Rattle.unit_steps.specs.State.{State, Did, did, Outcome, only, onward}
use Rattle.include_tree.specs.Including.{Process, Inner, left_to, entered, unless_once, included, include_of, include_next_of, open_header}
use Rattle.include_tree.specs.Walk.{items_in}
use Rattle.unit_laws.specs.Edited.{Edit, edited_state}
use Rattle.expansion_laws.specs.Alike.{stands_for_line}
use Rattle.unit_laws.specs.Walking.{is_line_word, AreItemsAlike, text_items, KeepsTexts, with_text, IsEdited, IsReachedAt}
use Rattle.unit_laws.proofs.ReorderedStepLemmas.{World, LineMacros, AreQuiet, quiet_both, Fits, Still, Goes, Same, itself, plus_none, none_begins, still_only, goes_only, goes_noted, then_still, still_then, goes_then, goes_cond, still_cond, still_test}
use Rattle.unit_laws.proofs.OpenLemmas.{FileGoes, ctx, ctx2, header_goes}

-- ---- names

edited_cond : (edit : Edit) (b : Bool) (x y : State) → cond b (edited_state edit x) (edited_state edit y) ≡ edited_state edit (cond b x y)
edited_cond edit true x y = refl
edited_cond edit false x y = refl

name_edited : (edit : Edit) (name : Token) (s : State) → with_name name (edited_state edit s) ≡ edited_state edit (with_name name s)
name_edited edit name s = edited_cond edit (is_some (spelled_in s.names name.text)) s (record s { names = s.names ++ name ∷ [] })

same_cond : {X : Type 0} (f : State → X) (b : Bool) (x y : State) → f x ≡ f y → f (cond b y x) ≡ f y
same_cond f true x y h = refl
same_cond f false x y h = h

name_table : (name : Token) (s : State) → (with_name name s).table ≡ s.table
name_table name s = same_cond (λ (t : State). t.table) (is_some (spelled_in s.names name.text)) (record s { names = s.names ++ name ∷ [] }) s refl

name_before : (name : Token) (s : State) → (with_name name s).before ≡ s.before
name_before name s = same_cond (λ (t : State). t.before) (is_some (spelled_in s.names name.text)) (record s { names = s.names ++ name ∷ [] }) s refl

name_macros : (name : Token) (s : State) → (with_name name s).macros ≡ s.macros
name_macros name s = same_cond (λ (t : State). t.macros) (is_some (spelled_in s.names name.text)) (record s { names = s.names ++ name ∷ [] }) s refl

name_lines : (name : Token) (s : State) → LineMacros s.macros → LineMacros (with_name name s).macros
name_lines name s h = subst LineMacros (sym (name_macros name s)) h

-- ---- definitions

no_line : (b : Bool) → stands_for_line (form_of b) ≡ true → ⊥
no_line true e = absurd cc
no_line false e = absurd cc

parts_no_line : (name : Token) (o : Option MacroParts) (m : Definition) → option_map (definition_of name) o ≡ Some m → stands_for_line m.form ≡ true → ⊥
parts_no_line name None m e h = absurd (none-some m e)
parts_no_line name (Some parts) m e h = no_line parts.function (ap (λ (d : Definition). stands_for_line d.form) (same_Some (definition_of name parts) m e) ∙ h)

-- no line defines a macro that stands for the number of a line, or of the unit
defined_no_line : (toks : List Token) (m : Definition) → defined_by toks ≡ Some m → stands_for_line m.form ≡ true → ⊥
defined_no_line [] m e h = absurd (none-some m e)
defined_no_line (hash ∷ []) m e h = absurd (none-some m e)
defined_no_line (hash ∷ word ∷ []) m e h = absurd (none-some m e)
defined_no_line (hash ∷ word ∷ name ∷ toks) m e h = parts_no_line name (macro_of toks) m e h

-- so it is under a name
abbrev LineAt : List ℕ → Definition → Type 0
LineAt name m = stands_for_line m.form ≡ true → (origin_at m.name 0 ≡ None) × (is_line_word name ≡ true)

with_line : (m d : Definition) (name : List ℕ) (old : Option Definition) (b : Bool) → (stands_for_line m.form ≡ true → ⊥) → (old ≡ Some d → LineAt name d) → cond b (Some m) old ≡ Some d → LineAt name d
with_line m d name old true lacks there e = λ h. absurd (lacks (ap (λ (x : Definition). stands_for_line x.form) (same_Some m d e) ∙ h))
with_line m d name old false lacks there e = there e

without_line : (d : Definition) (name : List ℕ) (old : Option Definition) (b : Bool) → (old ≡ Some d → LineAt name d) → cond b None old ≡ Some d → LineAt name d
without_line d name old true there e = absurd (none-some d e)
without_line d name old false there e = there e

-- ---- steps that look at no file

-- It is the same over the edited files, and leaves the table and the tokens.
record IsSteady {A : Type 0} (edit : Edit) (s : State) (d d2 : Did A) : Type 0 where
  value : d2.value ≡ d.value
  notes : d2.notes ≡ d.notes
  state : d2.state ≡ edited_state edit d.state
  table : d.state.table ≡ s.table
  before : d.state.before ≡ s.before
  lines : LineMacros s.macros → LineMacros d.state.macros
  quiet : AreQuiet d.notes

steady_fits : {A : Type 0} (w : World) (s : State) (d d2 : Did A) → IsSteady w.edit s d d2 → Fits w s → Fits w d.state
steady_fits w s d d2 k fits = (subst (λ (t : Table). AreFound w.old t) (sym k.table) fits.0, k.lines fits.1)

steady_grown : {A : Type 0} (edit : Edit) (s : State) (d d2 : Did A) → IsSteady edit s d d2 → IsGrown s.table d.state.table
steady_grown edit s d d2 k = subst (IsGrown s.table) (sym k.table) (grown_refl s.table)

steady_goes : {A : Type 0} (w : World) (s : State) (d d2 : Did A) → IsSteady w.edit s d d2 → Still w Same s (Ok d) (Ok d2)
steady_goes w s d d2 k = λ fits. record {
  too = record { value = d2.value; notes = d2.notes; is = ap (λ (t : State). Ok (did d2.value d2.notes t)) k.state; goes = k.value };
  fits = steady_fits w s d d2 k fits;
  before = k.before;
  grown = steady_grown w.edit s d d2 k;
  quiet = k.quiet;
}

links_quiet : (name : Token) (o : Option Token) → AreQuiet (linked_with name o)
links_quiet name None = λ b. (tt, tt)
links_quiet name (Some first) = λ b. ((tt, tt), (tt, tt))

behind_quiet : (note : Note) (notes : List Note) → AreQuiet (note ∷ []) → AreQuiet notes → AreQuiet (note ∷ notes)
behind_quiet note notes h k = quiet_both (note ∷ []) notes h k

tested_quiet : (name : Token) (s : State) → AreQuiet (test_notes name s)
tested_quiet name s = behind_quiet (Tested name s.before) (name_links name s) (λ b. ((tt, tt), (tt, tt))) (links_quiet name (spelled_in s.names name.text))

pub happened_quiet : (run : Bool) (before : ℕ) (notes : List expansion.Note) → AreQuiet (map (Happened run before) notes)
happened_quiet run before [] = λ b. (tt, tt)
happened_quiet run before (n ∷ ns) = behind_quiet (Happened run before n) (map (Happened run before) ns) (λ b. ((tt, tt), (tt, tt))) (happened_quiet run before ns)

uses_quiet : (params body : List Token) → AreQuiet (flat_map (λ t. linked_with t (parameter_named params t)) body)
uses_quiet params [] = λ b. (tt, tt)
uses_quiet params (t ∷ body) =
    quiet_both (linked_with t (parameter_named params t)) (flat_map (λ t. linked_with t (parameter_named params t)) body) (links_quiet t (parameter_named params t)) (uses_quiet params body)

define_quiet : (m : Definition) (s : State) → AreQuiet (define_notes m s)
define_quiet m s =
    behind_quiet (Defined m s.before) (name_links m.name s ++ definition_links m) (λ b. ((tt, tt), (tt, tt)))
    (quiet_both (name_links m.name s) (definition_links m) (links_quiet m.name (spelled_in s.names m.name.text)) (uses_quiet m.params m.body))

answered_steady : (edit : Edit) (pieces : List Piece) (s : State) → IsSteady edit s (answered pieces s) (answered pieces (edited_state edit s))
unfolding answered
answered_steady edit [] s = record { value = refl; notes = refl; state = refl; table = refl; before = refl; lines = λ h. h; quiet = λ b. (tt, tt) }
answered_steady edit (Plain t ∷ pieces) s =
    let k = answered_steady edit pieces s in
    record { value = ap (λ (l : List Token). t ∷ l) k.value; notes = k.notes; state = k.state; table = k.table; before = k.before; lines = k.lines; quiet = k.quiet }
answered_steady edit (Asks word name ∷ pieces) s =
    let k = answered_steady edit pieces (with_name name s) in
    let there : answered pieces (with_name name (edited_state edit s)) ≡ answered pieces (edited_state edit (with_name name s)) = ap (answered pieces) (name_edited edit name s) in
    record {
      value = ap (λ (d : Did (List Token)). answer_for word (is_macro name s) ∷ d.value) there ∙ ap (λ (l : List Token). answer_for word (is_macro name s) ∷ l) k.value;
      notes = ap (λ (d : Did (List Token)). front s ++ d.notes) there ∙ ap (λ (l : List Note). front s ++ l) k.notes;
      state = ap (λ (d : Did (List Token)). d.state) there ∙ k.state;
      table = k.table ∙ name_table name s;
      before = k.before ∙ name_before name s;
      lines = λ h. k.lines (name_lines name s h);
      quiet = quiet_both (front s) (answered pieces (with_name name s)).notes
          (quiet_both (test_notes name s) (Answered (answer_for word (is_macro name s)) ∷ []) (tested_quiet name s) (λ b. ((tt, tt), (tt, tt)))) k.quiet;
    }
  where
    front : State → List Note
    front s = test_notes name s ++ Answered (answer_for word (is_macro name s)) ∷ []

left_by : (edit : Edit) (t : Token) (toks : List Token) (s : State) → IsSteady edit s (left_over toks s) (left_over toks (edited_state edit s))
    → IsSteady edit (with_name t s) (left_over toks (with_name t s)) (left_over toks (edited_state edit (with_name t s))) → (b : Bool)
    → IsSteady edit s (cond b (left_name t s (left_over toks (with_name t s))) (left_over toks s))
    (cond b (left_name t (edited_state edit s) (left_over toks (with_name t (edited_state edit s)))) (left_over toks (edited_state edit s)))
left_by edit t toks s h k false = h
left_by edit t toks s h k true =
    let there : left_over toks (with_name t (edited_state edit s)) ≡ left_over toks (edited_state edit (with_name t s)) = ap (left_over toks) (name_edited edit t s) in
    record {
      value = refl;
      notes = ap (λ (d : Did (Unit {0})). Left t s.before ∷ name_links t s ++ d.notes) there ∙ ap (λ (l : List Note). Left t s.before ∷ name_links t s ++ l) k.notes;
      state = ap (λ (d : Did (Unit {0})). d.state) there ∙ k.state;
      table = k.table ∙ name_table t s;
      before = k.before ∙ name_before t s;
      lines = λ h. k.lines (name_lines t s h);
      quiet = behind_quiet (Left t s.before) (name_links t s ++ (left_over toks (with_name t s)).notes) (λ b. ((tt, tt), (tt, tt)))
          (quiet_both (name_links t s) (left_over toks (with_name t s)).notes (links_quiet t (spelled_in s.names t.text)) k.quiet);
    }

left_steady : (edit : Edit) (toks : List Token) (s : State) → IsSteady edit s (left_over toks s) (left_over toks (edited_state edit s))
unfolding left_over
left_steady edit [] s = record { value = refl; notes = refl; state = refl; table = refl; before = refl; lines = λ h. h; quiet = λ b. (tt, tt) }
left_steady edit (t ∷ toks) s = left_by edit t toks s (left_steady edit toks s) (left_steady edit toks (with_name t s)) (is_name t)

module _ (w : World) where
  -- an expansion that is no run's
  expanded_goes : (file : SourceFile) (text : TextValue) (s : State) (r : Result expansion.Expanded expansion.Fault)
      → Still w Same s (expanded_as false file s r) (expanded_as false (with_text file text) (edited_state w.edit s) r)
  expanded_goes file text s (Err found) = tt
  expanded_goes file text s (Ok e) = λ fits. record {
    too = record { value = toks_of e.toks; notes = map (Happened false s.before) e.notes; is = refl; goes = refl };
    fits = fits;
    before = refl;
    grown = grown_refl s.table;
    quiet = happened_quiet false s.before e.notes;
  }

  valued_goes : (file : SourceFile) (text : TextValue) (at : Pos) (toks : List Token) (s : State) (r : Result Bool CondFault)
      → Still w Same s (valued file at toks s r) (valued (with_text file text) at toks (edited_state w.edit s) r)
  valued_goes file text at toks s (Err found) = tt
  valued_goes file text at toks s (Ok b) =
      let k = left_steady w.edit toks s in
      let d = left_over toks s in
      let d2 = left_over toks (edited_state w.edit s) in
      steady_goes w s (did b d.notes d.state) (did b d2.notes d2.state) (record { value = refl; notes = k.notes; state = k.state; table = k.table; before = k.before; lines = k.lines; quiet = k.quiet })

  pub judged_goes : (file : SourceFile) (text : TextValue) (at : Pos) (out : List Token) (t : State)
      → Still w Same t (judged file at out t) (judged (with_text file text) at out (edited_state w.edit t))
  judged_goes file text at out t =
      still_test w Same t (list_any is_defined out) (fault_at file at cause.DefinedFromMacro) (fault_at (with_text file text) at cause.DefinedFromMacro)
      (valued file at out t (condition out)) (valued (with_text file text) at out (edited_state w.edit t) (condition out)) (valued_goes file text at out t (condition out))

  pub asked_goes : (file : SourceFile) (text : TextValue) (at : Pos) (toks : List Token) (s : State)
      → Still w Same s (asked_toks file at toks s) (asked_toks (with_text file text) at toks (edited_state w.edit s))
  asked_goes file text at toks s = by (pieces_from 0 toks)
    where
      by : (o : Option (List Piece)) → Still w Same s (asked_pieces file at s o) (asked_pieces (with_text file text) at (edited_state w.edit s) o)
      by None = tt
      by (Some pieces) =
          then_still w Same Same s (Ok (answered pieces s)) (Ok (answered pieces (edited_state w.edit s))) (expanded_in false file) (expanded_in false (with_text file text))
          (steady_goes w s (answered pieces s) (answered pieces (edited_state w.edit s)) (answered_steady w.edit pieces s))
          (λ a b t r. subst (λ (l : List Token). Still w Same t (expanded_in false file a t) (expanded_in false (with_text file text) l (edited_state w.edit t))) (sym r)
          (expanded_goes file text t (expanding.expansion t.macros file.path a t.work)))

  pub holds_goes : (file : SourceFile) (text : TextValue) (at : Pos) (toks : List Token) (s : State)
      → Still w Same s (holds file at toks s) (holds (with_text file text) at toks (edited_state w.edit s))
  holds_goes file text at toks s =
      then_still w Same Same s (asked_toks file at toks s) (asked_toks (with_text file text) at toks (edited_state w.edit s)) (judged file at) (judged (with_text file text) at)
      (asked_goes file text at toks s)
      (λ a b u r. subst (λ (l : List Token). Still w Same u (judged file at a u) (judged (with_text file text) at l (edited_state w.edit u))) (sym r) (judged_goes file text at a u))

  -- a name that is asked for
  pub asks_goes : (file new : SourceFile) (at : Pos) (answer : Bool → Bool) (s : State) (o : Option Token)
      → Still w Same s (asks_name file at answer s o) (asks_name new at answer (edited_state w.edit s) o)
  asks_goes file new at answer s None = tt
  asks_goes file new at answer s (Some name) =
      steady_goes w s (did (answer (is_macro name s)) (test_notes name s) (with_name name s)) (did (answer (is_macro name s)) (test_notes name s) (with_name name (edited_state w.edit s)))
      (record { value = refl; notes = refl; state = name_edited w.edit name s; table = name_table name s; before = name_before name s; lines = name_lines name s; quiet = tested_quiet name s })

  -- ---- lines that put nothing out

  -- no token is put out
  abbrev pub Put : ℕ → List Token → List Token → Type 0
  Put before toks toks2 = w.V before toks toks2

  silent_goes : (s : State) (d d2 : Did (List Token)) → IsSteady w.edit s d d2 → d.value ≡ [] → Goes w itself Put s (Ok d) (Ok d2)
  silent_goes s d d2 k none = λ fits. record {
    fits = steady_fits w s d d2 k fits;
    counted = k.before ∙ plus_none s.before ∙ ap (λ (l : List Token). s.before + length l) (sym none);
    grown = steady_grown w.edit s d d2 k;
    up = (k.quiet d.state.before).0;
    down = (k.quiet s.before).1;
    begins = none_begins d.value (IsReachedAt s.before d.notes) none;
    too = λ within. record {
      value = d2.value;
      notes = d2.notes;
      is = ap (λ (t : State). Ok (did d2.value d2.notes t)) k.state;
      goes = subst (λ (l : List Token). w.V s.before d.value l) (sym (k.value ∙ none)) (subst (λ (l : List Token). w.V s.before l []) (sym none) (w.v_none s.before));
    };
  }

  defined_goes : (file new : SourceFile) (at : Pos) (m : Definition) (s : State) → (stands_for_line m.form ≡ true → ⊥) → (b : Bool)
      → Goes w itself Put s (cond b (Ok (did [] (define_notes m s) (after_define m s))) (Err (fault_at file at BadDirective)))
      (cond b (Ok (did [] (define_notes m (edited_state w.edit s)) (after_define m (edited_state w.edit s)))) (Err (fault_at new at BadDirective)))
  defined_goes file new at m s other false = tt
  defined_goes file new at m s other true =
      silent_goes s (did [] (define_notes m s) (after_define m s)) (did [] (define_notes m s) (after_define m (edited_state w.edit s)))
      (record {
        value = refl;
        notes = refl;
        state = ap (λ (t : State). record t { macros = with_macro m s.macros }) (name_edited w.edit m.name s);
        table = name_table m.name s;
        before = name_before m.name s;
        lines = λ h name d e. with_line m d name (s.macros name) (bytes_eq name m.name.text) other (h name d) e;
        quiet = define_quiet m s;
      }) refl

  pub define_goes : (gnu : Bool) (file new : SourceFile) (at : Pos) (toks : List Token) (s : State)
      → Goes w itself Put s (define_of gnu file at toks s) (define_of gnu new at toks (edited_state w.edit s))
  define_goes gnu file new at toks s = by (defined_by toks) refl
    where
      by : (o : Option Definition) → defined_by toks ≡ o → Goes w itself Put s (defined_as gnu file at s o) (defined_as gnu new at (edited_state w.edit s) o)
      by None is = tt
      by (Some m) is = defined_goes file new at (in_gnu gnu m) s (defined_no_line toks m is) (may_define gnu m)

  pub undef_goes : (file new : SourceFile) (at : Pos) (toks : List Token) (s : State)
      → Goes w itself Put s (undef_of file at toks s) (undef_of new at toks (edited_state w.edit s))
  undef_goes file new at toks s = by (operand_in toks)
    where
      by : (o : Option Token) → Goes w itself Put s (undefined_as file at s o) (undefined_as new at (edited_state w.edit s) o)
      by None = tt
      by (Some name) =
          silent_goes s (did [] (Undefined name s.before ∷ name_links name s) (after_undef name s)) (did [] (Undefined name s.before ∷ name_links name s) (after_undef name (edited_state w.edit s)))
          (record {
            value = refl;
            notes = refl;
            state = ap (λ (t : State). record t { macros = without_macro name.text s.macros }) (name_edited w.edit name s);
            table = name_table name s;
            before = name_before name s;
            lines = λ h n d e. without_line d n (s.macros n) (bytes_eq n name.text) (h n d) e;
            quiet = behind_quiet (Undefined name s.before) (name_links name s) (λ b. ((tt, tt), (tt, tt))) (links_quiet name (spelled_in s.names name.text));
          }) refl

  -- ---- files that are read once

  -- the file of a line that says so
  said_goes : (file : SourceFile) (text : TextValue) (at : Pos) (s : State) → Goes w itself Put s (said_once file at s) (said_once (with_text file text) at (edited_state w.edit s))
  said_goes file text at s =
      let note : Note = ReadOnce false at file.number s.before in
      silent_goes s (did [] (note ∷ []) (with_once file.number s)) (did [] (note ∷ []) (with_once file.number (edited_state w.edit s)))
      (record { value = refl; notes = refl; state = refl; table = refl; before = refl; lines = λ h. h; quiet = λ b. ((tt, tt), (tt, tt)) }) refl

  pub pragma_goes : (gnu : Bool) (file : SourceFile) (text : TextValue) (at : Pos) (toks : List Token) (s : State)
      → Goes w itself Put s (pragma_of gnu file at toks s) (pragma_of gnu (with_text file text) at toks (edited_state w.edit s))
  pragma_goes gnu file text at toks s =
      goes_cond w itself Put s (gnu && says_once toks) (said_once file at s) (only [] s) (said_once (with_text file text) at (edited_state w.edit s)) (only [] (edited_state w.edit s))
      (said_goes file text at s) (goes_only w itself Put s [] [] (w.v_none s.before) refl)

  -- ---- include lines

  pub header_or_goes : (file new : SourceFile) (at : Pos) (toks : List Token) (s : State) (o : Option Header)
      → Still w Same s (header_or file at toks s o) (header_or new at toks (edited_state w.edit s) o)
  header_or_goes file new at toks s None = tt
  header_or_goes file new at toks s (Some h) =
      steady_goes w s (did h (Named toks ∷ []) s) (did h (Named toks ∷ []) (edited_state w.edit s)) (record { value = refl; notes = refl; state = refl; table = refl; before = refl; lines = λ h. h; quiet = λ b. ((tt, tt), (tt, tt)) })

  computed_goes : (file : SourceFile) (text : TextValue) (at : Pos) (toks : List Token) (s : State)
      → Still w Same s (computed_header file at toks s) (computed_header (with_text file text) at toks (edited_state w.edit s))
  computed_goes file text at toks s =
      then_still w Same Same s (expanded_in false file toks s) (expanded_in false (with_text file text) toks (edited_state w.edit s))
      (λ out t. header_or file at out t (header_of_toks out)) (λ out t. header_or (with_text file text) at out t (header_of_toks out))
      (expanded_goes file text s (expanding.expansion s.macros file.path toks s.work))
      (λ a b t r. subst (λ (l : List Token). Still w Same t (header_or file at a t (header_of_toks a)) (header_or (with_text file text) at l (edited_state w.edit t) (header_of_toks l))) (sym r)
      (header_or_goes file (with_text file text) at a t (header_of_toks a)))

  named_goes : (file : SourceFile) (text : TextValue) (at : Pos) (toks : List Token) (s : State)
      → Still w Same s (header_named file at toks s) (header_named (with_text file text) at toks (edited_state w.edit s))
  named_goes file text at [] s = tt
  named_goes file text at (t ∷ toks) s =
      still_cond w Same s (is_header t.kind) (only (header_in t.text) s) (computed_header file at (t ∷ toks) s)
      (only (header_in t.text) (edited_state w.edit s)) (computed_header (with_text file text) at (t ∷ toks) (edited_state w.edit s))
      (still_only w Same s (header_in t.text) (header_in t.text) refl) (computed_goes file text at (t ∷ toks) s)

  written_goes : (file : SourceFile) (text : TextValue) (at : Pos) (s : State) (o : Option Header)
      → Still w Same s (written_header file at s o) (written_header (with_text file text) at (edited_state w.edit s) o)
  written_goes file text at s None = tt
  written_goes file text at s (Some h) = still_only w Same s h h refl

  next_named_goes : (file : SourceFile) (text : TextValue) (at : Pos) (toks : List Token) (s : State)
      → Still w Same s (next_named file at toks s) (next_named (with_text file text) at toks (edited_state w.edit s))
  next_named_goes file text at toks s =
      still_cond w Same s (begins_header toks) (written_header file at s (header_at toks)) (computed_header file at toks s)
      (written_header (with_text file text) at (edited_state w.edit s) (header_at toks)) (computed_header (with_text file text) at toks (edited_state w.edit s))
      (written_goes file text at s (header_at toks)) (computed_goes file text at toks s)

  -- the items of an included file
  abbrev pub ProcessGoes : Process → Process → Type 0
  ProcessGoes process process2 = (file : SourceFile) (text : TextValue) → AreItemsAlike (items_in file) (text_items text) → (s : State) → IsEdited w.edit w.old s.table file text
      → Goes w itself Put s (process file s) (process2 (with_text file text) (edited_state w.edit s))

  abbrev pub InnerGoes : Inner → Inner → Type 0
  InnerGoes None None = Unit {0}
  InnerGoes (Some process) (Some process2) = ProcessGoes process process2
  InnerGoes _ _ = ⊥

  -- which files are read once is the same over the edited files
  passes_goes : (process process2 : Process) → ProcessGoes process process2 → (at : Pos) → ProcessGoes (unless_once at process) (unless_once at process2)
  passes_goes process process2 goes at file text items s edited =
      let note : Note = ReadOnce true at file.number s.before in
      goes_cond w itself Put s (is_read_once file.number s) (Ok (did [] (note ∷ []) s)) (process file s) (Ok (did [] (note ∷ []) (edited_state w.edit s))) (process2 (with_text file text) (edited_state w.edit s))
      (silent_goes s (did [] (note ∷ []) s) (did [] (note ∷ []) (edited_state w.edit s))
      (record { value = refl; notes = refl; state = refl; table = refl; before = refl; lines = λ h. h; quiet = λ b. ((tt, tt), (tt, tt)) }) refl)
      (goes file text items s edited)

  -- where a search for the next file of a name begins is the same over the edited files
  placed_goes : (s : State) (behind : Option ℕ) (m new : Outcome (List Token)) → Goes w itself Put (record s { behind = behind }) m new → Goes w itself Put s m new
  placed_goes s behind (Err fault) new h = tt
  placed_goes s behind (Ok d) new h = λ fits.
      let k = h fits in
      record {
        fits = k.fits;
        counted = k.counted;
        grown = k.grown;
        up = k.up;
        down = k.down;
        begins = k.begins;
        too = λ within. let t = k.too within in record { value = t.value; notes = t.notes; is = t.is; goes = t.goes };
      }

  left_goes : (s : State) (behind : Option ℕ) (m new : Outcome (List Token)) → Goes w itself Put s m new → Goes w itself Put s (left_to behind m) (left_to behind new)
  left_goes s behind (Err fault) new h = tt
  left_goes s behind (Ok d) new h = λ fits.
      let k = h fits in
      record {
        fits = k.fits;
        counted = k.counted;
        grown = k.grown;
        up = k.up;
        down = k.down;
        begins = k.begins;
        too = λ within. let t = k.too within in record { value = t.value; notes = t.notes; is = ap (left_to behind) t.is; goes = t.goes };
      }

  module _ (keeps : KeepsTexts w.edit w.old) (unit : UnitValue) (earlier : ℕ) where
    entered_goes : (process process2 : Process) → ProcessGoes process process2 → (at : Pos) (behind : Option ℕ) (file : SourceFile) (text : TextValue) → AreItemsAlike (items_in file) (text_items text)
        → (s : State) → IsEdited w.edit w.old s.table file text
        → Goes w itself Put s (entered process at behind file s) (entered process2 at behind (with_text file text) (edited_state w.edit s))
    entered_goes process process2 goes at behind file text items s edited =
        let inside : State = record s { behind = behind } in
        let exit : List Token → State → Outcome (List Token) = λ toks t. Ok (did toks (Exited at file.number t.before ∷ []) t) in
        let old : Outcome (List Token) = process file inside in
        let new : Outcome (List Token) = process2 (with_text file text) (edited_state w.edit inside) in
        goes_noted w itself Put s (Entered at file.number s.before ∷ []) (left_to s.behind (onward old exit)) (left_to s.behind (onward new exit))
        (tt, tt) (tt, tt) (left_goes s s.behind (onward old exit) (onward new exit)
        (goes_then w itself Put itself Put s old new (λ toks. toks) (λ t. Exited at file.number t.before ∷ [])
        (λ a. refl) (λ b x y v. v) (λ t. refl) (λ t b. ((tt, tt), (tt, tt))) (placed_goes s behind old new (goes file text items inside edited))))

    included_goes : (inner inner2 : Inner) → InnerGoes inner inner2 → (file : SourceFile) (text : TextValue) (at : Pos) (next : Bool) (h : Header) (s : State)
        → Goes w itself Put s (included (ctx w keeps unit earlier) inner file at next h s) (included (ctx2 w keeps unit earlier) inner2 (with_text file text) at next h (edited_state w.edit s))
    included_goes None None goes file text at next h s = tt
    included_goes None (Some process2) goes file text at next h s = tt
    included_goes (Some process) None goes file text at next h s = absurd goes
    included_goes (Some process) (Some process2) goes file text at next h s =
        let place_of : SourceFile → Option ℕ = λ f. behind_of next h s.behind file.path unit f.path in
        still_then w (FileGoes w) itself Put s (open_header (ctx w keeps unit earlier) file at next h s) (open_header (ctx2 w keeps unit earlier) (with_text file text) at next h (edited_state w.edit s))
        (λ f t. entered (unless_once at process) at (place_of f) f t) (λ f t. entered (unless_once at process2) at (place_of f) f t) (header_goes w keeps unit earlier file text at next h s)
        (λ f f2 t r. subst (λ (g : SourceFile). Goes w itself Put t (entered (unless_once at process) at (place_of f) f t) (entered (unless_once at process2) at (place_of g) g (edited_state w.edit t))) (sym r.1)
        (entered_goes (unless_once at process) (unless_once at process2) (passes_goes process process2 goes at) at (place_of f) f r.0 r.2 t r.3))

    -- a line whose header is found so
    line_goes : (inner inner2 : Inner) → InnerGoes inner inner2 → (file : SourceFile) (text : TextValue) (at : Pos) (next : Bool) (s : State) (m new : Outcome Header) → Still w Same s m new
        → Goes w itself Put s (onward m (included (ctx w keeps unit earlier) inner file at next)) (onward new (included (ctx2 w keeps unit earlier) inner2 (with_text file text) at next))
    line_goes inner inner2 goes file text at next s m new same =
        still_then w Same itself Put s m new (included (ctx w keeps unit earlier) inner file at next) (included (ctx2 w keeps unit earlier) inner2 (with_text file text) at next) same
        (λ h h2 t r. subst (λ (x : Header). Goes w itself Put t (included (ctx w keeps unit earlier) inner file at next h t) (included (ctx2 w keeps unit earlier) inner2 (with_text file text) at next x (edited_state w.edit t))) (sym r)
        (included_goes inner inner2 goes file text at next h t))

    pub include_goes : (inner inner2 : Inner) → InnerGoes inner inner2 → (file : SourceFile) (text : TextValue) (at : Pos) (toks : List Token) (s : State)
        → Goes w itself Put s (include_of (ctx w keeps unit earlier) inner file at toks s) (include_of (ctx2 w keeps unit earlier) inner2 (with_text file text) at toks (edited_state w.edit s))
    include_goes inner inner2 goes file text at toks s =
        line_goes inner inner2 goes file text at false s (header_named file at (drop 2 toks) s) (header_named (with_text file text) at (drop 2 toks) (edited_state w.edit s))
        (named_goes file text at (drop 2 toks) s)

    pub include_next_goes : (inner inner2 : Inner) → InnerGoes inner inner2 → (file : SourceFile) (text : TextValue) (at : Pos) (toks : List Token) (s : State)
        → Goes w itself Put s (include_next_of (ctx w keeps unit earlier) inner file at toks s) (include_next_of (ctx2 w keeps unit earlier) inner2 (with_text file text) at toks (edited_state w.edit s))
    include_next_goes inner inner2 goes file text at toks s =
        line_goes inner inner2 goes file text at true s (next_named file at (drop 2 toks) s) (next_named (with_text file text) at (drop 2 toks) (edited_state w.edit s))
        (next_named_goes file text at (drop 2 toks) s)
