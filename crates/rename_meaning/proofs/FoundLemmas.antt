-- What no step undoes is true of the table of an analysis: it is what its source holds, and no file that was opened is a
-- pseudo file.
use Rattle.std.proofs.Common.{◌≡◌, ℕ, ◌+◌, ◌-◌, Bool, true, false, cond, is_some, List, [], ◌∷◌, Option, Some, None, Ok, Err, inl, inr, subst, ◌∙◌, ap}
use Rattle.std.specs.Prelude.{All}
use Rattle.std.specs.Str.{bytes_eq}
use Rattle.std.proofs.lemmas.Bool.{cases_Bool}
use Rattle.std.proofs.lemmas.List.Elements.{All-head, All-tail}
use Rattle.std.proofs.lemmas.Option.{same_Some}
use Rattle.cs_base.proofs.FileMapLemmas.{bytes_eq-equal}
use Rattle.cs_base.proofs.OptionLemmas.{ok_same}
use Rattle.cs_base.proofs.BoolLemmas.{and_not-false as not_pseudo}
use Rattle.cs_base.proofs.AnswerLemmas.{map_err_ok as unmapped}
use Rattle.cs_base.specs.Token.{Token}
use Rattle.cs_base.specs.Units.{UnitValue, IsUnit, defines_of}
use Rattle.lexer.specs.FileText.{file_text}
use Rattle.ws_file.specs.Workspace.{WorkspaceValue, IsWorkspace}
use Rattle.source_files.specs.Faults.{Fault, first_place}
use Rattle.source_files.specs.Files.{Source, SourceFile, Found, Unopened, Opened, Made, Table, Carried, nothing_carried, defines_path, numbered, found_at, found_in, asked, opened}
use Rattle.include_tree.specs.Laws.{IfDone}
use Rattle.source_files.specs.Tables.{AreFound}
use Rattle.source_files.specs.Limits.{Limits, the_limits}
use Rattle.include_tree.specs.OpeningStep.{open_file}
use Rattle.include_tree.specs.PseudoFiles.{is_pseudo}
use Rattle.unit_steps.specs.State.{Context, context, State, Outcome}
use Rattle.source_files.specs.Opening.{Reader}
use Rattle.include_tree.specs.Preprocessed.{Preprocessed, preprocessed, preprocessed_by}
use Rattle.include_tree.specs.Unit.{pseudo_path, first_state, outer_file, main_file, unit_outcome}
use Rattle.include_tree.specs.Walk.{file_items}
use Rattle.include_tree.proofs.DefinesLemmas.{with_defines_has}
use Rattle.include_tree.proofs.OutcomeLemmas.{onward_done}
use Rattle.include_tree.proofs.StayLemmas.{IsStable, Stays, open_file_stays}
use Rattle.include_tree.proofs.StayingWalk.{files_stay}
use Rattle.source_files.proofs.TableLemmas.{widens_asked, widens_opened}
use Rattle.analysis.specs.Analysis.{UnitsValue, AnalysisValue, analysis_and, with_unit, unit_read, analysed_from, analysis_of}
use Rattle.analysis.specs.Texts.{UnitFault, unit_fault, unit_with}
use Rattle.edited_unit_laws.proofs.AnalysedUnitLemmas.{done_first}

-- ---- all units

-- What no step of a unit undoes, where this is true of the path of its file.
record TableRules (source : Source) (J : Table → Type 0) (K : List ℕ → Type 0) : Type 0 where
  stable : IsStable source J
  made : (t : Table) (path bytes : List ℕ) → J t → J (numbered path (Made bytes) t)
  main : (t : Table) (path : List ℕ) → K path → J t → J (asked source path t)

abbrev AllPaths : (List ℕ → Type 0) → List UnitValue → Type 0
AllPaths K [] = Unit {0}
AllPaths K (unit ∷ units) = K unit.path × AllPaths K units

module _ (source : Source) (J : Table → Type 0) (K : List ℕ → Type 0) (rules : TableRules source J K) where
  outer_stays : (reader : Reader) (unit : UnitValue) (limits : Limits) (earlier : ℕ) (path : List ℕ) (s : State) → J s.table
      → IfDone (Stays {A = List Token} J) (outer_file (context source reader unit limits earlier) path s)
  outer_stays reader unit limits earlier path s h =
      let ctx : Context = context source reader unit limits earlier in
      onward_done (Stays {A = SourceFile} J) (Stays {A = List Token} J) (open_file ctx (first_place path) path s) (file_items ctx (ctx.limits.open_files - 1))
      (open_file_stays ctx J rules.stable (first_place path) path s h)
      (λ f t g. files_stay ctx J rules.stable (ctx.limits.open_files - 1) f t g)

  unit_stays : (limits : Limits) (reader : Reader) (number : ℕ) (unit : UnitValue) (before : Carried) → K unit.path → J before.table
      → IfDone (Stays {A = List Token} J) (unit_outcome limits reader source number unit before)
  unit_stays limits reader number unit before own h =
      let ctx : Context = context source reader unit limits before.toks in
      let s : State = first_state limits number unit before.table in
      let first = with_defines_has J number unit before.table h (rules.made before.table (defines_path number) (defines_of unit) h) in
      let pseudo : List ℕ = pseudo_path number unit before.table in
      onward_done (Stays {A = List Token} J) (Stays {A = List Token} J) (outer_file ctx pseudo s) _ (outer_stays reader unit limits before.toks pseudo s first)
      (λ toks t g. onward_done (Stays {A = List Token} J) (Stays {A = List Token} J) (main_file ctx unit.path t) _
      (outer_stays reader unit limits before.toks unit.path (record t { table = asked source unit.path t.table }) (rules.main t.table unit.path own g)) (λ more u f. f))

  after_by : (before : Carried) (o : Outcome (List Token)) (p : Preprocessed) → IfDone (Stays {A = List Token} J) o → preprocessed_by before.toks o ≡ Ok p → J p.after.table
  after_by before (Ok d) p h e =
      let same = ok_same {D = Fault} _ p e in
      let P : Preprocessed → Type 0 = λ q. J q.after.table in
      subst P same h
  after_by before (Err found) p h e = absurd (cc)

  after_unit : (number : ℕ) (unit : UnitValue) (before : Carried) (p : Preprocessed) → K unit.path → J before.table → preprocessed source number unit before ≡ Ok p → J p.after.table
  unfolding preprocessed
  after_unit number unit before p own h e =
      after_by before (unit_outcome the_limits file_text source number unit before) p (unit_stays the_limits file_text number unit before own h) e

  after_units : (number : ℕ) (units : List UnitValue) (before : Carried) (v : UnitsValue) → AllPaths K units → J before.table → analysed_from source number units before ≡ Ok v → J v.table
  unfolding analysed_from
  after_units number [] before v own h e =
      let same = ok_same {D = UnitFault} _ v e in
      let P : UnitsValue → Type 0 = λ w. J w.table in
      subst P same h
  after_units number (unit ∷ units) before v own h e =
      let p = done_first (unit_with source number unit before) _ v e in
      let u = done_first (unit_read unit.standard number unit.path p.0) _ v p.2 in
      let later = done_first (analysed_from source (number + 1) units p.0.after) _ v u.2 in
      let is_text = unmapped (preprocessed source number unit before) (unit_fault number) p.0 p.1 in
      let rest = after_units (number + 1) units p.0.after later.0 own.1 (after_unit number unit before p.0 own.0 h is_text) later.1 in
      let same = ok_same {D = UnitFault} (with_unit u.0 later.0) v later.2 in
      let P : UnitsValue → Type 0 = λ w. J w.table in
      subst P same rest

  analysis_stays : (ws : WorkspaceValue) (a : AnalysisValue) → AllPaths K ws.units → J nothing_carried.table → analysis_of source ws ≡ Ok a → J a.table
  analysis_stays ws a own h e =
      let all = done_first (analysed_from source 1 ws.units nothing_carried) _ a e in
      let same = ok_same {D = UnitFault} (analysis_and ws all.0.units all.0.table) a all.2 in
      let P : AnalysisValue → Type 0 = λ b. J b.table in
      subst P same (after_units 1 ws.units nothing_carried all.0 own h all.1)

-- ---- what the source holds

abbrev AnyPath : List ℕ → Type 0
AnyPath path = Unit {0}

any_paths : (units : List UnitValue) → AllPaths AnyPath units
any_paths [] = tt
any_paths (unit ∷ units) = (tt, any_paths units)

found_push : (source : Source) (t : Table) (path bytes : List ℕ) → AreFound source t → AreFound source (numbered path (Made bytes) t)
found_push source [] path bytes h = (tt, tt)
found_push source (e ∷ t) path bytes h = (h.0, found_push source t path bytes h.1)

found_rules : (source : Source) → TableRules source (AreFound source) AnyPath
found_rules source = record {
  stable = record {
    asks = λ path t real h. (widens_asked source path t).found h;
    opens = λ path bytes t there h. (widens_opened source path bytes t there).found h;
  };
  made = found_push source;
  main = λ t path own h. (widens_asked source path t).found h;
}

-- What the table of an analysis tells is what the source holds.
pub analysis_finds : (source : Source) (ws : WorkspaceValue) (a : AnalysisValue) → analysis_of source ws ≡ Ok a → AreFound source a.table
analysis_finds source ws a e = analysis_stays source (AreFound source) AnyPath (found_rules source) ws a (any_paths ws.units) (tt, tt) e

-- ---- opened files

-- a file that is there is no pseudo file
abbrev pub IsReal : List ℕ → Found → Type 0
IsReal path (Unopened bytes) = is_pseudo path ≡ false
IsReal path (Opened bytes) = is_pseudo path ≡ false
IsReal path _ = Unit {0}

abbrev pub AreReal : Table → Type 0
AreReal [] = Unit {0}
AreReal (e ∷ table) = IsReal e.path e.found × AreReal table

real_push : (t : Table) (path : List ℕ) (found : Found) → IsReal path found → AreReal t → AreReal (numbered path found t)
real_push [] path found here h = (here, tt)
real_push (e ∷ t) path found here h = (h.0, real_push t path found here h.1)

real_found : (path : List ℕ) (o : Option (List ℕ)) → is_pseudo path ≡ false → IsReal path (found_in o)
real_found path None real = tt
real_found path (Some bytes) real = real

real_asked : (path : List ℕ) (o : Option (List ℕ)) (t : Table) (b : Bool) → is_pseudo path ≡ false → AreReal t → AreReal (cond b t (numbered path (found_in o) t))
real_asked path o t true real h = h
real_asked path o t false real h = real_push t path (found_in o) (real_found path o real) h

real_opened : (path bytes : List ℕ) (t : Table) → found_at path t ≡ Some (Unopened bytes) → AreReal t → AreReal (opened path bytes t)
unfolding found_at opened
real_opened path bytes [] there h = tt
real_opened path bytes (e ∷ t) there h = elim (cases_Bool (bytes_eq path e.path)) [
  | inl same ↦
      let is : e.found ≡ Unopened bytes = same_Some e.found (Unopened bytes) (rw same at there) in
      let real : IsReal e.path (Unopened bytes) = subst (IsReal e.path) is h.0 in
      let own : is_pseudo path ≡ false = ap is_pseudo (bytes_eq-equal path e.path same) ∙ real in
      rw same (own, h.1)
  | inr other ↦ rw other (h.0, real_opened path bytes t (rw other at there) h.1)
]

abbrev pub IsRealPath : List ℕ → Type 0
IsRealPath path = is_pseudo path ≡ false

real_rules : (source : Source) → TableRules source AreReal IsRealPath
real_rules source = record {
  stable = record {
    asks = λ path t real h. real_asked path (source path) t (is_some (found_at path t)) real h;
    opens = λ path bytes t there h. real_opened path bytes t there h;
  };
  made = λ t path bytes h. real_push t path (Made bytes) tt h;
  main = λ t path own h. real_asked path (source path) t (is_some (found_at path t)) own h;
}

real_paths : (units : List UnitValue) → All IsUnit units → AllPaths IsRealPath units
real_paths [] are = tt
real_paths (unit ∷ units) are = (
  (let here = All-head IsUnit unit units are in not_pseudo _ (is_pseudo unit.path) here.is_placed),
  real_paths units (All-tail IsUnit unit units are),
)

-- No file that an analysis opened is a pseudo file.
pub analysis_real : (source : Source) (ws : WorkspaceValue) (a : AnalysisValue) → IsWorkspace ws → analysis_of source ws ≡ Ok a → AreReal a.table
analysis_real source ws a is e = analysis_stays source AreReal IsRealPath (real_rules source) ws a (real_paths ws.units is.are_units) (tt, tt) e
