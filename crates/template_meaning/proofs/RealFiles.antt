-- Only a text that the program makes has the path of a pseudo file: it is so of each table that a workspace leads to; and the first
-- number is that of the pseudo file of lines.
use Rattle.std.proofs.Common.{◌≡◌, ℕ, ◌+◌, Bool, true, false, cond, is_some, List, [], ◌∷◌, Option, Some, None, Result, Ok, Err, refl, sym, ap, subst, ◌∙◌, inl, inr}
use Rattle.std.specs.Prelude.{All, slice_get}
use Rattle.std.specs.Str.{bytes_eq}
use Rattle.std.proofs.lemmas.Bool.{cases_Bool, false≢true}
use Rattle.std.proofs.lemmas.List.Elements.{All-head, All-tail}
use Rattle.std.proofs.lemmas.Option.{none-some, same_Some}
use Rattle.cs_base.specs.Token.{Token}
use Rattle.cs_base.specs.Units.{UnitValue, IsUnit, defines_of}
use Rattle.cs_base.proofs.AnswerLemmas.{map_err_ok as unmapped}
use Rattle.cs_base.proofs.FileMapLemmas.{bytes_eq-equal}
use Rattle.cs_base.proofs.OptionLemmas.{ok_same}
use Rattle.lexer.specs.FileText.{file_text}
use Rattle.ws_file.specs.Workspace.{WorkspaceValue, IsWorkspace}
use Rattle.source_files.specs.Faults.{Fault}
use Rattle.source_files.specs.Files.{Source, Found, Lines, Absent, Unopened, Opened, Made, Entry, entry, Table, Carried, nothing_carried, found_at, found_in, numbered, asked, opened, defines_path, lines_path}
use Rattle.source_files.specs.Limits.{the_limits}
use Rattle.source_files.specs.Tables.{IsGrown, BeginsWithLines}
use Rattle.unit_steps.specs.State.{Context, context, State, Outcome}
use Rattle.include_tree.specs.Laws.{IfDone}
use Rattle.include_tree.specs.Preprocessed.{Preprocessed, preprocessed, preprocessed_by}
use Rattle.include_tree.specs.PseudoFiles.{is_pseudo}
use Rattle.include_tree.specs.Unit.{pseudo_path, first_state, unit_outcome}
use Rattle.include_tree.proofs.DefinesLemmas.{with_defines_has}
use Rattle.include_tree.proofs.StayLemmas.{IsStable, Stays}
use Rattle.include_tree.proofs.StayingWalk.{both_files_stay}
use Rattle.analysis.specs.Analysis.{UnitsValue, AnalysisValue, analysis_and, with_unit, unit_read, analysed_from, analysis_of}
use Rattle.analysis.specs.Texts.{UnitFault, unit_fault, unit_with}
use Rattle.analysis.proofs.CarryLemmas.{unit_real}
use Rattle.analysis.proofs.MadeLemmas.{ok_holds, done_first}
use Rattle.edited_unit_laws.proofs.AnalysedUnitLemmas.{units_are}

-- a path that is asked for is none of a pseudo file
abbrev pub IsRealIfAsked : List ℕ → Found → Type 0
IsRealIfAsked path (Made bytes) = Unit {0}
IsRealIfAsked path Lines = Unit {0}
IsRealIfAsked path _ = is_pseudo path ≡ false

abbrev pub AskedAreReal : Table → Type 0
AskedAreReal [] = Unit {0}
AskedAreReal (e ∷ table) = IsRealIfAsked e.path e.found × AskedAreReal table

real_push : (path : List ℕ) (found : Found) (t : Table) → IsRealIfAsked path found → AskedAreReal t → AskedAreReal (numbered path found t)
real_push path found [] new h = (new, tt)
real_push path found (e ∷ t) new h = (h.0, real_push path found t new h.1)

found_real : (path : List ℕ) (o : Option (List ℕ)) → is_pseudo path ≡ false → IsRealIfAsked path (found_in o)
found_real path None real = real
found_real path (Some bytes) real = real

asked_real : (path : List ℕ) (bytes : Option (List ℕ)) (t : Table) (o : Option Found) → is_pseudo path ≡ false → AskedAreReal t
    → AskedAreReal (cond (is_some o) t (numbered path (found_in bytes) t))
asked_real path bytes t None real h = real_push path (found_in bytes) t (found_real path bytes real) h
asked_real path bytes t (Some found) real h = h

-- a file that is opened was asked for
opened_real : (path bytes : List ℕ) (t : Table) → found_at path t ≡ Some (Unopened bytes) → AskedAreReal t → AskedAreReal (opened path bytes t)
unfolding opened found_at
opened_real path bytes [] there h = tt
opened_real path bytes (e ∷ t) there h = elim (cases_Bool (bytes_eq path e.path)) [
  | inl same ↦
      let is : Some e.found ≡ Some (Unopened bytes) = rw same at there in
      let own : e.found ≡ Unopened bytes = same_Some e.found (Unopened bytes) is in
      let real : is_pseudo e.path ≡ false = subst (IsRealIfAsked e.path) own h.0 in
      rw same (ap is_pseudo (bytes_eq-equal path e.path same) ∙ real, h.1)
  | inr other ↦ rw other (h.0, opened_real path bytes t (rw other at there) h.1)
]

real_stable : (source : Source) → IsStable source AskedAreReal
real_stable source = record {
  asks = λ path t real h. asked_real path (source path) t (found_at path t) real h;
  opens = λ path bytes t there h. opened_real path bytes t there h;
}

-- ---- units

unit_asks : (source : Source) (number : ℕ) (unit : UnitValue) (before : Carried) → is_pseudo unit.path ≡ false → AskedAreReal before.table
    → IfDone (Stays {A = List Token} AskedAreReal) (unit_outcome the_limits file_text source number unit before)
unit_asks source number unit before real h =
    let ctx : Context = context source file_text unit the_limits before.toks in
    let s : State = first_state the_limits number unit before.table in
    both_files_stay ctx AskedAreReal (real_stable source) (pseudo_path number unit before.table) unit.path s real
    (with_defines_has AskedAreReal number unit before.table h (real_push (defines_path number) (Made (defines_of unit)) before.table tt h))

real_by : (earlier : ℕ) (o : Outcome (List Token)) (p : Preprocessed) → IfDone (Stays {A = List Token} AskedAreReal) o → preprocessed_by earlier o ≡ Ok p
    → AskedAreReal p.after.table
real_by earlier (Ok d) p h e = ok_holds {E = Fault} (λ (q : Preprocessed). AskedAreReal q.after.table) _ p e h
real_by earlier (Err found) p h e = absurd (cc)

real_after : (source : Source) (number : ℕ) (unit : UnitValue) (before : Carried) (p : Preprocessed) → is_pseudo unit.path ≡ false → AskedAreReal before.table
    → preprocessed source number unit before ≡ Ok p → AskedAreReal p.after.table
unfolding preprocessed
real_after source number unit before p real h e =
    real_by before.toks (unit_outcome the_limits file_text source number unit before) p (unit_asks source number unit before real h) e

units_real : (source : Source) (number : ℕ) (units : List UnitValue) (before : Carried) (v : UnitsValue) → All IsUnit units → AskedAreReal before.table
    → analysed_from source number units before ≡ Ok v → AskedAreReal v.table
unfolding analysed_from
units_real source number [] before v are h e = ok_holds {E = UnitFault} (λ (u : UnitsValue). AskedAreReal u.table) _ v e h
units_real source number (unit ∷ units) before v are h e =
    let p = done_first (unit_with source number unit before) _ v e in
    let u = done_first (unit_read unit.standard number unit.path p.0) _ v p.2 in
    let later = done_first (analysed_from source (number + 1) units p.0.after) _ v u.2 in
    let after = real_after source number unit before p.0 (unit_real unit (All-head IsUnit unit units are)) h
    (unmapped (preprocessed source number unit before) (unit_fault number) p.0 p.1) in
    let rest = units_real source (number + 1) units p.0.after later.0 (All-tail IsUnit unit units are) after later.1 in
    ok_holds {E = UnitFault} (λ (w : UnitsValue). AskedAreReal w.table) (with_unit u.0 later.0) v later.2 rest

pub asked_are_real : (source : Source) (ws : WorkspaceValue) (a : AnalysisValue) → IsWorkspace ws → analysis_of source ws ≡ Ok a → AskedAreReal a.table
asked_are_real source ws a is e =
    let all = done_first (analysed_from source 1 ws.units nothing_carried) _ a e in
    ok_holds {E = UnitFault} (λ (b : AnalysisValue). AskedAreReal b.table) (analysis_and ws all.0.units all.0.table) a all.2
    (units_real source 1 ws.units nothing_carried all.0 is.are_units (tt, tt) all.1)

-- ---- the first number

first_lines : (old new : Table) → IsGrown (entry lines_path Lines ∷ old) new → BeginsWithLines new
first_lines old [] h = absurd h
first_lines old (e ∷ new) h = elim h.1 [
  | inl same ↦ ap (λ (p : List ℕ). Some (entry p e.found)) h.0 ∙ ap (λ (f : Found). Some (entry lines_path f)) same
  | inr opened_ ↦ absurd (let no_lines = opened_.1 in cc)
]

pub begins_with_lines : (source : Source) (ws : WorkspaceValue) (a : AnalysisValue) → analysis_of source ws ≡ Ok a → BeginsWithLines a.table
begins_with_lines source ws a e =
    let all = done_first (analysed_from source 1 ws.units nothing_carried) _ a e in
    let same = ok_same {D = UnitFault} (analysis_and ws all.0.units all.0.table) a all.2 in
    subst (λ (b : AnalysisValue). BeginsWithLines b.table) same (first_lines [] all.0.table (units_are source 1 ws.units nothing_carried all.0 all.1).0)
