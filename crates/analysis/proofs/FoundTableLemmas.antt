-- What a table tells of files is what they hold: it is so of each table that a unit leads to.
use Rattle.std.proofs.Common.{◌≡◌, ℕ, ◌+◌, ◌-◌, List, [], ◌∷◌, Ok, Err}
use Rattle.cs_base.specs.Token.{Token}
use Rattle.cs_base.specs.Units.{UnitValue, defines_of}
use Rattle.cs_base.proofs.AnswerLemmas.{map_err_ok as unmapped}
use Rattle.lexer.specs.FileText.{file_text}
use Rattle.include_tree.specs.Below.source_files.Faults.{Fault, first_place}
use Rattle.include_tree.specs.Below.source_files.Files.{Source, SourceFile, Made, Table, Carried, nothing_carried, numbered, asked, defines_path}
use Rattle.include_tree.specs.Below.source_files.Limits.{Limits, the_limits}
use Rattle.include_tree.specs.Below.source_files.Opening.{Reader}
use Rattle.include_tree.specs.Below.source_files.Tables.{AreFound}
use Rattle.include_tree.specs.Below.unit_steps.State.{Context, context, State, Outcome}
use Rattle.include_tree.specs.OpeningStep.{open_file}
use Rattle.include_tree.specs.Walk.{file_items}
use Rattle.include_tree.specs.Unit.{pseudo_path, first_state, outer_file, main_file, unit_outcome}
use Rattle.include_tree.specs.Preprocessed.{Preprocessed, preprocessed, preprocessed_by}
use Rattle.include_tree.specs.Laws.{IfDone}
use Rattle.include_tree.proofs.DefinesLemmas.{with_defines_has}
use Rattle.include_tree.proofs.Below.source_files.TableLemmas.{widens_asked, widens_opened}
use Rattle.include_tree.proofs.OutcomeLemmas.{onward_done}
use Rattle.include_tree.proofs.StayLemmas.{IsStable, Stays, open_file_stays}
use Rattle.include_tree.proofs.StayingWalk.{files_stay}
use Rattle.analysis.specs.Texts.{UnitFault, unit_fault, unit_with}
use Rattle.analysis.specs.Analysis.{UnitsValue, AnalysisValue, analysis_and, with_unit, unit_read, analysed_from}
use Rattle.analysis.specs.Tables.{TablesAreFound}
use Rattle.analysis.proofs.MadeLemmas.{ok_holds, done_first}

found_push : (source : Source) (t : Table) (path bytes : List ℕ) → AreFound source t → AreFound source (numbered path (Made bytes) t)
found_push source [] path bytes h = (tt, tt)
found_push source (e ∷ t) path bytes h = (h.0, found_push source t path bytes h.1)

module _ (source : Source) where
  abbrev Found : Table → Type 0
  Found t = AreFound source t

  stable : IsStable source Found
  stable = record {
    asks = λ path t real h. (widens_asked source path t).found h;
    opens = λ path bytes t there h. (widens_opened source path bytes t there).found h;
  }

  outer_found : (reader : Reader) (unit : UnitValue) (limits : Limits) (earlier : ℕ) (path : List ℕ) (s : State) → Found s.table
      → IfDone (Stays {A = List Token} Found) (outer_file (context source reader unit limits earlier) path s)
  outer_found reader unit limits earlier path s h =
      let ctx : Context = context source reader unit limits earlier in
      onward_done (Stays {A = SourceFile} Found) (Stays {A = List Token} Found) (open_file ctx (first_place path) path s) (file_items ctx (ctx.limits.open_files - 1))
      (open_file_stays ctx Found stable (first_place path) path s h)
      (λ f t g. files_stay ctx Found stable (ctx.limits.open_files - 1) f t g)

  unit_found : (limits : Limits) (reader : Reader) (number : ℕ) (unit : UnitValue) (before : Carried) → Found before.table
      → IfDone (Stays {A = List Token} Found) (unit_outcome limits reader source number unit before)
  unit_found limits reader number unit before h =
      let ctx : Context = context source reader unit limits before.toks in
      let s : State = first_state limits number unit before.table in
      let first = with_defines_has Found number unit before.table h (found_push source before.table (defines_path number) (defines_of unit) h) in
      let own : List ℕ = pseudo_path number unit before.table in
      onward_done (Stays {A = List Token} Found) (Stays {A = List Token} Found) (outer_file ctx own s) _
      (outer_found reader unit limits before.toks own s first)
      (λ toks t g. onward_done (Stays {A = List Token} Found) (Stays {A = List Token} Found) (main_file ctx unit.path t) _
      (outer_found reader unit limits before.toks unit.path (record t { table = asked source unit.path t.table }) ((widens_asked source unit.path t.table).found g))
      (λ more u f. f))

  found_by : (earlier : ℕ) (o : Outcome (List Token)) (p : Preprocessed) → IfDone (Stays {A = List Token} Found) o
      → preprocessed_by earlier o ≡ Ok p → Found p.after.table
  found_by earlier (Ok d) p h e = ok_holds {E = Fault} (λ (q : Preprocessed). Found q.after.table) _ p e h
  found_by earlier (Err found) p h e = absurd cc

  found_after : (number : ℕ) (unit : UnitValue) (before : Carried) (p : Preprocessed) → Found before.table
      → preprocessed source number unit before ≡ Ok p → Found p.after.table
  unfolding preprocessed
  found_after number unit before p h e =
      found_by before.toks (unit_outcome the_limits file_text source number unit before) p (unit_found the_limits file_text number unit before h) e

  units_found : (number : ℕ) (units : List UnitValue) (before : Carried) (v : UnitsValue) → Found before.table
      → analysed_from source number units before ≡ Ok v → Found v.table
  unfolding analysed_from
  units_found number [] before v h e = ok_holds {E = UnitFault} (λ (u : UnitsValue). Found u.table) _ v e h
  units_found number (unit ∷ units) before v h e =
      let p = done_first (unit_with source number unit before) _ v e in
      let u = done_first (unit_read unit.standard number unit.path p.0) _ v p.2 in
      let later = done_first (analysed_from source (number + 1) units p.0.after) _ v u.2 in
      let after = found_after number unit before p.0 h (unmapped (preprocessed source number unit before) (unit_fault number) p.0 p.1) in
      let rest = units_found (number + 1) units p.0.after later.0 after later.1 in
      ok_holds {E = UnitFault} (λ (w : UnitsValue). Found w.table) (with_unit u.0 later.0) v later.2 rest

pub tables_found : TablesAreFound
tables_found source ws a e =
    let all = done_first (analysed_from source 1 ws.units nothing_carried) _ a e in
    ok_holds {E = UnitFault} (λ (b : AnalysisValue). AreFound source b.table) (analysis_and ws all.0.units all.0.table) a all.2
    (units_found source 1 ws.units nothing_carried all.0 (tt, tt) all.1)
