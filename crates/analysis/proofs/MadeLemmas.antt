-- Only pseudo files are made: it is so of each table that a unit leads to.
use Rattle.std.proofs.Common.{◌≡◌, ℕ, ◌+◌, ◌-◌, cond, is_some, List, [], ◌∷◌, Option, None, Some, Result, Ok, Err, refl, subst, inl, inr}
use Rattle.std.specs.Str.{bytes_eq}
use Rattle.std.proofs.lemmas.Bool.{cases_Bool}
use Rattle.cs_base.specs.Answer.{result_then}
use Rattle.cs_base.specs.Token.{Token}
use Rattle.cs_base.specs.Units.{UnitValue, defines_of}
use Rattle.cs_base.proofs.AnswerLemmas.{map_err_ok as unmapped}
use Rattle.lexer.specs.FileText.{file_text}
use Rattle.ws_file.specs.Workspace.{WorkspaceValue}
use Rattle.include_tree.specs.Below.source_files.Faults.{Fault, first_place}
use Rattle.include_tree.specs.Below.source_files.Files.{Source, SourceFile, Found, Made, Table, Carried, nothing_carried, found_at, found_in, numbered, asked, opened, defines_path}
use Rattle.include_tree.specs.Below.source_files.Limits.{Limits, the_limits}
use Rattle.include_tree.specs.Below.unit_steps.State.{Context, context, State, Outcome}
use Rattle.include_tree.specs.Below.source_files.Opening.{Reader}
use Rattle.include_tree.specs.OpeningStep.{open_file}
use Rattle.include_tree.specs.Walk.{file_items}
use Rattle.include_tree.specs.Unit.{pseudo_path, first_state, outer_file, main_file, unit_outcome}
use Rattle.include_tree.specs.Preprocessed.{Preprocessed, preprocessed, preprocessed_by}
use Rattle.include_tree.specs.Laws.{IfDone}
use Rattle.include_tree.proofs.DefinesLemmas.{with_defines_has}
use Rattle.include_tree.proofs.OutcomeLemmas.{onward_done}
use Rattle.include_tree.proofs.StayLemmas.{IsStable, Stays, open_file_stays}
use Rattle.include_tree.proofs.StayingWalk.{files_stay}
use Rattle.analysis.specs.Texts.{UnitFault, unit_fault, unit_with}
use Rattle.analysis.specs.Analysis.{UnitsValue, AnalysisValue, analysis_and, with_unit, unit_read, analysed_from, analysis_of}
use Rattle.analysis.specs.Tables.{IsPseudoIfMade, MadeArePseudo}

-- ---- one number more, and one file opened

pub made-push : (path : List ℕ) (found : Found) (t : Table) → IsPseudoIfMade path found → MadeArePseudo t → MadeArePseudo (numbered path found t)
made-push path found [] new h = (new, tt)
made-push path found (e ∷ t) new h = (h.0, made-push path found t new h.1)

read_not_made : (path : List ℕ) (o : Option (List ℕ)) → IsPseudoIfMade path (found_in o)
read_not_made path None = tt
read_not_made path (Some bytes) = tt

pub asked_made : (path : List ℕ) (bytes : Option (List ℕ)) (t : Table) (o : Option Found) → MadeArePseudo t
    → MadeArePseudo (cond (is_some o) t (numbered path (found_in bytes) t))
asked_made path bytes t None h = made-push path (found_in bytes) t (read_not_made path bytes) h
asked_made path bytes t (Some found) h = h

opened_made : (path bytes : List ℕ) (t : Table) → MadeArePseudo t → MadeArePseudo (opened path bytes t)
unfolding opened
opened_made path bytes [] h = tt
opened_made path bytes (e ∷ t) h = elim (cases_Bool (bytes_eq path e.path)) [
  | inl same ↦ rw same (tt, h.1)
  | inr other ↦ rw other (h.0, opened_made path bytes t h.1)
]

made_stable : (source : Source) → IsStable source MadeArePseudo
made_stable source = record {
  asks = λ path t real h. asked_made path (source path) t (found_at path t) h;
  opens = λ path bytes t there h. opened_made path bytes t h;
}

-- ---- a unit

pub outer_made : (ctx : Context) (path : List ℕ) (s : State) → MadeArePseudo s.table
    → IfDone (Stays {A = List Token} MadeArePseudo) (outer_file ctx path s)
outer_made ctx path s h =
    onward_done (Stays {A = SourceFile} MadeArePseudo) (Stays {A = List Token} MadeArePseudo) (open_file ctx (first_place path) path s) (file_items ctx (ctx.limits.open_files - 1))
    (open_file_stays ctx MadeArePseudo (made_stable ctx.source) (first_place path) path s h)
    (λ f t g. files_stay ctx MadeArePseudo (made_stable ctx.source) (ctx.limits.open_files - 1) f t g)

main_made : (ctx : Context) (path : List ℕ) (s : State) → MadeArePseudo s.table
    → IfDone (Stays {A = List Token} MadeArePseudo) (main_file ctx path s)
main_made ctx path s h =
    outer_made ctx path (record s { table = asked ctx.source path s.table }) (asked_made path (ctx.source path) s.table (found_at path s.table) h)

unit_made : (limits : Limits) (reader : Reader) (source : Source) (number : ℕ) (unit : UnitValue) (before : Carried)
    → MadeArePseudo before.table → IfDone (Stays {A = List Token} MadeArePseudo) (unit_outcome limits reader source number unit before)
unit_made limits reader source number unit before h =
    let ctx : Context = context source reader unit limits before.toks in
    let s : State = first_state limits number unit before.table in
    let first = with_defines_has MadeArePseudo number unit before.table h (made-push (defines_path number) (Made (defines_of unit)) before.table refl h) in
    let own : List ℕ = pseudo_path number unit before.table in
    onward_done (Stays {A = List Token} MadeArePseudo) (Stays {A = List Token} MadeArePseudo) (outer_file ctx own s) _ (outer_made ctx own s first)
    (λ toks t g. onward_done (Stays {A = List Token} MadeArePseudo) (Stays {A = List Token} MadeArePseudo) (main_file ctx unit.path t) _ (main_made ctx unit.path t g)
    (λ more u f. f))

pub ok_holds : {X E : Type 0} (P : X → Type 0) (a b : X) → ◌≡◌ {A = Result X E} (Ok a) (Ok b) → P a → P b
ok_holds P a b e h = let same : a ≡ b = cc in subst P same h

made_by : (earlier : ℕ) (o : Outcome (List Token)) (p : Preprocessed) → IfDone (Stays {A = List Token} MadeArePseudo) o
    → preprocessed_by earlier o ≡ Ok p → MadeArePseudo p.after.table
made_by earlier (Ok d) p h e = ok_holds {E = Fault} (λ (q : Preprocessed). MadeArePseudo q.after.table) _ p e h
made_by earlier (Err found) p h e = absurd cc

pub made_after : (source : Source) (number : ℕ) (unit : UnitValue) (before : Carried) (p : Preprocessed) → MadeArePseudo before.table
    → preprocessed source number unit before ≡ Ok p → MadeArePseudo p.after.table
unfolding preprocessed
made_after source number unit before p h e =
    made_by before.toks (unit_outcome the_limits file_text source number unit before) p (unit_made the_limits file_text source number unit before h) e

-- ---- units in order

-- the value of a step that is done, and that of the step behind it
pub done_first : {X Y E : Type 0} (r : Result X E) (next : X → Result Y E) (y : Y) → result_then next r ≡ Ok y → (x : X) × (r ≡ Ok x) × (next x ≡ Ok y)
done_first (Ok x) next y e = (x, refl, e)
done_first (Err fault) next y e = absurd cc

units_made : (source : Source) (number : ℕ) (units : List UnitValue) (before : Carried) (v : UnitsValue) → MadeArePseudo before.table
    → analysed_from source number units before ≡ Ok v → MadeArePseudo v.table
unfolding analysed_from
units_made source number [] before v h e = ok_holds {E = UnitFault} (λ (u : UnitsValue). MadeArePseudo u.table) _ v e h
units_made source number (unit ∷ units) before v h e =
    let p = done_first (unit_with source number unit before) _ v e in
    let u = done_first (unit_read unit.standard number unit.path p.0) _ v p.2 in
    let later = done_first (analysed_from source (number + 1) units p.0.after) _ v u.2 in
    let after = made_after source number unit before p.0 h (unmapped (preprocessed source number unit before) (unit_fault number) p.0 p.1) in
    let rest = units_made source (number + 1) units p.0.after later.0 after later.1 in
    ok_holds {E = UnitFault} (λ (w : UnitsValue). MadeArePseudo w.table) (with_unit u.0 later.0) v later.2 rest

pub made_files_pseudo : (source : Source) (ws : WorkspaceValue) (a : AnalysisValue) → analysis_of source ws ≡ Ok a → MadeArePseudo a.table
made_files_pseudo source ws a e =
    let all = done_first (analysed_from source 1 ws.units nothing_carried) _ a e in
    ok_holds {E = UnitFault} (λ (b : AnalysisValue). MadeArePseudo b.table) (analysis_and ws all.0.units all.0.table) a all.2
    (units_made source 1 ws.units nothing_carried all.0 (tt, tt) all.1)
