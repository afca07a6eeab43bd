-- Each path has one number in the table of an analysis, since it has from unit to unit.
use Rattle.std.proofs.Common.{◌≡◌, ◌≤◌, ◌+◌, ◌^◌, ℕ, List, [], ◌∷◌, None, Ok, Err, length, refl, arith}
use Rattle.std.specs.Prelude.{All}
use Rattle.std.proofs.lemmas.List.Elements.{All-head, All-tail}
use Rattle.cs_base.specs.Token.{Token}
use Rattle.cs_base.specs.Units.{UnitValue, IsUnit}
use Rattle.cs_base.proofs.AnswerLemmas.{map_err_ok as unmapped}
use Rattle.lexer.specs.FileText.{file_text}
use Rattle.include_tree.specs.Below.source_files.Limits.{the_limits}
use Rattle.include_tree.specs.Below.source_files.Faults.{Fault}
use Rattle.include_tree.specs.Below.source_files.Files.{Source, Carried, nothing_carried, found_at, defines_path}
use Rattle.include_tree.specs.Below.source_files.Tables.{HasEachOnce}
use Rattle.include_tree.specs.Below.unit_steps.State.{Outcome, context}
use Rattle.include_tree.specs.Unit.{unit_outcome}
use Rattle.include_tree.specs.Preprocessed.{Preprocessed, preprocessed, preprocessed_by}
use Rattle.include_tree.specs.Laws.{IfDone, UnitEnds}
use Rattle.include_tree.proofs.WalkLemmas.{units_end}
use Rattle.analysis.specs.Analysis.{UnitsValue, AnalysisValue, analysis_and, with_unit, unit_read, analysed_from}
use Rattle.analysis.specs.Carrying.{IsFresh}
use Rattle.analysis.specs.Texts.{UnitFault, unit_fault, unit_with}
use Rattle.analysis.proofs.CarryLemmas.{fresh_first, fresh_on}
use Rattle.analysis.specs.Tables.{PathsStandOnce}
use Rattle.analysis.proofs.CountLemmas.{few_done}
use Rattle.analysis.proofs.MadeLemmas.{ok_holds, done_first}

once_by : (earlier : ℕ) (o : Outcome (List Token)) (p : Preprocessed) → IfDone (λ toks t. HasEachOnce t.table) o → preprocessed_by earlier o ≡ Ok p
    → HasEachOnce p.after.table
once_by earlier (Ok d) p once e = ok_holds {E = Fault} (λ q. HasEachOnce q.after.table) _ p e once
once_by earlier (Err fault) p once e = absurd cc

unit_once : (source : Source) (number : ℕ) (unit : UnitValue) (before : Carried) (p : Preprocessed) → HasEachOnce before.table
    → found_at (defines_path number) before.table ≡ None → preprocessed source number unit before ≡ Ok p → HasEachOnce p.after.table
unfolding preprocessed
unit_once source number unit before p once none e =
    once_by before.toks (unit_outcome the_limits file_text source number unit before) p
    (few_done (unit_outcome the_limits file_text source number unit before) _ _
    (λ toks t (ends : UnitEnds (context source file_text unit the_limits before.toks) before.table (length toks) t). (let w = ends.table in w.once once))
    (units_end the_limits file_text source number unit before none)) e

units_once : (source : Source) (number : ℕ) (units : List UnitValue) (before : Carried) (v : UnitsValue) → All IsUnit units
    → number + length units ≤ 2 ^ 32 → IsFresh number before.table → HasEachOnce before.table
    → analysed_from source number units before ≡ Ok v → HasEachOnce v.table
unfolding analysed_from
units_once source number [] before v are small fresh once e = ok_holds {E = UnitFault} (λ (u : UnitsValue). HasEachOnce u.table) _ v e once
units_once source number (unit ∷ units) before v are small fresh once e =
    let p = done_first (unit_with source number unit before) _ v e in
    let u = done_first (unit_read unit.standard number unit.path p.0) _ v p.2 in
    let later = done_first (analysed_from source (number + 1) units p.0.after) _ v u.2 in
    let done = unmapped (preprocessed source number unit before) (unit_fault number) p.0 p.1 in
    let here = unit_once source number unit before p.0 once (fresh number (omega arith) (omega arith)) done in
    let rest = units_once source (number + 1) units p.0.after later.0 (All-tail IsUnit unit units are) (omega arith)
    (fresh_on source number unit before p.0 (All-head IsUnit unit units are) (omega arith) fresh done) here later.1 in
    ok_holds {E = UnitFault} (λ (w : UnitsValue). HasEachOnce w.table) (with_unit u.0 later.0) v later.2 rest

pub paths_once : PathsStandOnce
paths_once source ws a is e =
    let all = done_first (analysed_from source 1 ws.units nothing_carried) _ a e in
    let small = is.are_few in
    let once = units_once source 1 ws.units nothing_carried all.0 is.are_units (omega arith) (fresh_first 1) refl all.1 in
    ok_holds {E = UnitFault} (λ (b : AnalysisValue). HasEachOnce b.table) (analysis_and ws all.0.units all.0.table) a all.2 once
