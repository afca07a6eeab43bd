-- Each token of the units of a workspace is of a run.
use Rattle.std.proofs.Common.{◌≡◌, ◌<◌, ℕ, zero, suc, ◌+◌, List, [], ◌∷◌, length, Ok, ap, sym, subst, ◌∙◌}
use Rattle.std.proofs.lemmas.Option.{none-some, same_Some}
use Rattle.cs_base.specs.Answer.{result_then}
use Rattle.cs_base.specs.Units.{UnitValue}
use Rattle.cs_base.proofs.AnswerLemmas.{unmapped}
use Rattle.source_files.specs.Files.{Source, Table, Carried, nothing_carried}
use Rattle.source_files.specs.Tables.{IsGrown, AreFound}
use Rattle.unit_steps.specs.Texts.{UnitTextValue}
use Rattle.include_tree.specs.Preprocessed.{Preprocessed, preprocessed}
use Rattle.analysis.specs.Analysis.{UnitAnalysis, UnitsValue, analysis_and, analysed_from}
use Rattle.analysis.specs.Texts.{TextsValue, texts_and, UnitFault, unit_fault, with_front, unit_with, texts_from}
use Rattle.analysis.specs.Changed.{texts_in}
use Rattle.edited_unit_laws.specs.Analyses.{AnalysesHaveTexts}
use Rattle.edited_unit_laws.proofs.AloneLemmas.{ok-same}
use Rattle.edited_unit_laws.proofs.WorkspaceLemmas.{then-ok}
use Rattle.unit_laws.specs.TokenRuns.{TokenRun, UnitTokensAreOfRuns}
use Rattle.unit_laws.specs.Walking.{IsOf}
use Rattle.source_files.proofs.TableLemmas.{grown_refl, grown_trans}
use Rattle.unit_laws.proofs.TokenRunLemmas.{token_run_grown}
use Rattle.edited_unit_laws.specs.TokenRuns.{WorkspaceOfRuns, WorkspaceTokensAreOfRuns}
use Rattle.edited_unit_laws.proofs.ReorderedTextLemmas.{texts_grown}

-- the same of units from some number on
record UnitsOfRuns (old : Source) (files : Table) (us : List UnitAnalysis) (table : Table) : Type 0 where
  tokens : (u : UnitAnalysis) → IsOf us u → (b : ℕ) → b < length u.text.toks → TokenRun files u.text b
  found : AreFound old table

units_of_runs : UnitTokensAreOfRuns → (old : Source) (number : ℕ) (units : List UnitValue) (before : Carried) (us : List UnitAnalysis) (table files : Table)
    → texts_from old number units before ≡ Ok (texts_and (texts_in us) table) → AreFound old before.table → IsGrown table files → UnitsOfRuns old files us table
unfolding texts_from
units_of_runs law old number [] before [] table files h found reach =
    let same : before.table ≡ table = ap (λ (x : TextsValue). x.table) (ok-same {E = UnitFault} (texts_and [] before.table) (texts_and [] table) h) in
    record { tokens = λ u at. absurd (none-some u at.1); found = subst (AreFound old) same found }
units_of_runs law old number [] before (u ∷ us) table files h found reach =
    let same = ap (λ (x : TextsValue). x.texts) (ok-same {E = UnitFault} (texts_and [] before.table) (texts_and (texts_in (u ∷ us)) table) h) in
    absurd cc
units_of_runs law old number (unit ∷ units) before [] table files h found reach =
    let first = then-ok (λ p. result_then (λ later. Ok (with_front p.text later)) (texts_from old (number + 1) units p.after)) (unit_with old number unit before) (texts_and [] table) h in
    let rest = then-ok (λ later. Ok (with_front first.0.text later)) (texts_from old (number + 1) units first.0.after) (texts_and [] table) first.2 in
    let same = ap (λ (x : TextsValue). x.texts) (ok-same {E = UnitFault} (with_front first.0.text rest.0) (texts_and [] table) rest.2) in
    absurd cc
units_of_runs law old number (unit ∷ units) before (u ∷ us) table files h found reach =
    let whole : TextsValue = texts_and (texts_in (u ∷ us)) table in
    let first = then-ok (λ p. result_then (λ later. Ok (with_front p.text later)) (texts_from old (number + 1) units p.after)) (unit_with old number unit before) whole h in
    let p : Preprocessed = first.0 in
    let p_is : preprocessed old number unit before ≡ Ok p = unmapped (unit_fault number) (preprocessed old number unit before) p first.1 in
    let rest = then-ok (λ later. Ok (with_front p.text later)) (texts_from old (number + 1) units p.after) whole first.2 in
    let t : TextsValue = rest.0 in
    let same : with_front p.text t ≡ whole = ok-same {E = UnitFault} (with_front p.text t) whole rest.2 in
    let texts : p.text ∷ t.texts ≡ u.text ∷ texts_in us = ap (λ (x : TextsValue). x.texts) same in
    let one : u.text ≡ p.text = cc in
    let others : t.texts ≡ texts_in us = cc in
    let table_is : t.table ≡ table = ap (λ (x : TextsValue). x.table) same in
    let later : texts_from old (number + 1) units p.after ≡ Ok (texts_and (texts_in us) table) =
    rest.1 ∙ ap (λ (x : List UnitTextValue). Ok (texts_and x t.table)) others ∙ ap (λ (x : Table). Ok (texts_and (texts_in us) x)) table_is in
    let grown : IsGrown p.after.table files = grown_trans p.after.table table files (texts_grown old (number + 1) units p.after (texts_and (texts_in us) table) later) reach in
    let r = law old number unit before p p_is found in
    let k = units_of_runs law old (number + 1) units p.after us table files later r.found reach in
    let here : (b : ℕ) → b < length u.text.toks → TokenRun files u.text b = λ b lt.
    subst (λ (x : UnitTextValue). TokenRun files x b) (sym one)
    (token_run_grown p.after.table files p.text b grown (r.tokens b (subst (λ (x : UnitTextValue). b < length x.toks) one lt))) in
    record { tokens = λ v at. of_each v at here k.tokens; found = k.found }
  where
    of_each : (v : UnitAnalysis) → IsOf (u ∷ us) v → ((b : ℕ) → b < length u.text.toks → TokenRun files u.text b)
        → ((w : UnitAnalysis) → IsOf us w → (b : ℕ) → b < length w.text.toks → TokenRun files w.text b) → (b : ℕ) → b < length v.text.toks → TokenRun files v.text b
    of_each v (zero, is) one more = subst (λ (w : UnitAnalysis). (b : ℕ) → b < length w.text.toks → TokenRun files w.text b) (same_Some u v is) one
    of_each v (suc k, is) one more = more v (k, is)

pub workspace_of_runs : AnalysesHaveTexts → UnitTokensAreOfRuns → WorkspaceTokensAreOfRuns
workspace_of_runs texts law = λ source ws a h.
    let first = then-ok (λ (v : UnitsValue). Ok (analysis_and ws v.units v.table)) (analysed_from source 1 ws.units nothing_carried) a h in
    let v : UnitsValue = first.0 in
    let whole : analysis_and ws v.units v.table ≡ a = ok-same {E = UnitFault} (analysis_and ws v.units v.table) a first.2 in
    let found : AreFound source nothing_carried.table = (tt, tt) in
    let are = texts source 1 ws.units nothing_carried v first.1 in
    let k = units_of_runs law source 1 ws.units nothing_carried v.units v.table v.table are.0 found (grown_refl v.table) in
    subst (WorkspaceOfRuns source) whole (record { tokens = k.tokens; found = k.found })
