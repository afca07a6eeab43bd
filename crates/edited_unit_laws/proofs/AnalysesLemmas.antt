-- An analysis is the texts of its units, each read and bound; so that of the edited files is the renamed one.
use Rattle.std.proofs.Common.{◌≡◌, ℕ, ◌+◌, List, [], ◌∷◌, map, Result, Ok, refl, ap, sym, subst, ◌∙◌}
use Rattle.cs_base.specs.declared.ws_units.Standard.{Standard}
use Rattle.cs_base.specs.Answer.{result_then, result_map_err}
use Rattle.cs_base.proofs.AnswerLemmas.{unmapped}
use Rattle.macro_expand.specs.Renaming.{Renaming}
use Rattle.source_files.specs.Faults.{Fault}
use Rattle.source_files.specs.Files.{Table, nothing_carried}
use Rattle.source_files.specs.Tables.{IsGrown}
use Rattle.unit_steps.specs.Texts.{UnitTextValue}
use Rattle.include_tree.specs.Preprocessed.{Preprocessed}
use Rattle.source_files.proofs.TableLemmas.{grown_refl}
use Rattle.analysis.specs.Below.c99_read.Reading.{Stop, read_of}
use Rattle.analysis.specs.Below.c99_grammar.Dialects.{dialect}
use Rattle.analysis.specs.Below.c99_grammar.Standard.{grammar}
use Rattle.analysis.specs.Below.scope_bind.Named.{Fault as BindFault}
use Rattle.analysis.specs.Below.scope_bind.Bound.{Bound}
use Rattle.analysis.specs.Below.gnu_bind.Bound.{binding_by}
use Rattle.analysis.specs.Below.scope_bind.Causes.{cause_of, index_of}
use Rattle.analysis.specs.Texts.{TextsValue, texts_and, UnitFault, unit_fault, with_front, unit_with, texts_from}
use Rattle.analysis.specs.Analysis.{UnitAnalysis, unit_analysis, UnitsValue, units_and, AnalysisValue, analysis_and, with_unit, fault_at_index, bound_unit, read_unit, unit_read, stop_index, stop_cause, analysed_from}
use Rattle.edited_unit_laws.specs.Lines.{Each}
use Rattle.edited_unit_laws.specs.Edited.{edited_carried}
use Rattle.edited_unit_laws.specs.UnitTexts.{renamed_text}
use Rattle.edited_unit_laws.proofs.WorkspaceLemmas.{workspaces_are_renamed, then-ok}
use Rattle.edited_unit_laws.specs.Analyses.{IsRead, AreOfStandards, AnalysesHaveTexts, TextsHaveAnalyses, renamed_unit_analysis, renamed_units, renamed_analysis, ReadsAlike, UnitAnalysesAreRenamed, WorkspaceAnalysisIsRenamed}
use Rattle.analysis.specs.Changed.{texts_in}
use Rattle.edited_unit_laws.proofs.AloneLemmas.{ok-same}

-- ---- one unit

-- a unit that is accepted has this standard and this text, which is read and bound so
record IsUnit (standard : Standard) (text : UnitTextValue) (u : UnitAnalysis) : Type 0 where
  same : u.text ≡ text
  own : u.standard ≡ standard
  read : IsRead u

-- a fault of reading, and one of binding, at its place in the unit
abbrev stopped : Preprocessed → List ℕ → Stop → Fault
stopped p path stop = fault_at_index p.after.table path p.text.toks (stop_index stop) (stop_cause stop)

abbrev unbound : Preprocessed → List ℕ → BindFault → Fault
unbound p path f = fault_at_index p.after.table path p.text.toks (index_of f) (cause_of f)

unit-of : (standard : Standard) (number : ℕ) (path : List ℕ) (p : Preprocessed) (u : UnitAnalysis) → unit_read standard number path p ≡ Ok u → IsUnit standard p.text u
unit-of standard number path p u h =
    let whole : read_unit standard p.after.table path p.text ≡ Ok u = unmapped (unit_fault number) (read_unit standard p.after.table path p.text) u h in
    let tree = then-ok (bound_unit standard p.after.table path p.text) (result_map_err (stopped p path) (read_of (grammar (dialect standard)) p.text.toks)) u whole in
    let bound = then-ok {E = Fault} (λ (b : Bound). Ok (unit_analysis standard p.text tree.0 b)) (result_map_err (unbound p path) (binding_by standard p.text.toks tree.0)) u tree.2 in
    let same : unit_analysis standard p.text tree.0 bound.0 ≡ u = ok-same {E = Fault} (unit_analysis standard p.text tree.0 bound.0) u bound.2 in
    let read : IsRead (unit_analysis standard p.text tree.0 bound.0) = record {
      reads = unmapped (stopped p path) (read_of (grammar (dialect standard)) p.text.toks) tree.0 tree.1;
      binds = unmapped (unbound p path) (binding_by standard p.text.toks tree.0) bound.0 bound.1;
    } in
    record { same = sym (ap (λ (x : UnitAnalysis). x.text) same); own = sym (ap (λ (x : UnitAnalysis). x.standard) same); read = subst IsRead same read }

of-unit : (standard : Standard) (number : ℕ) (path : List ℕ) (p : Preprocessed) (u : UnitAnalysis) → u.text ≡ p.text → u.standard ≡ standard → IsRead u
    → unit_read standard number path p ≡ Ok u
of-unit standard number path p u same own read =
    let here : read_of (grammar (dialect u.standard)) p.text.toks ≡ Ok u.tree = subst (λ (x : UnitTextValue). read_of (grammar (dialect u.standard)) x.toks ≡ Ok u.tree) same read.reads in
    let reads : read_of (grammar (dialect standard)) p.text.toks ≡ Ok u.tree = subst (λ (x : Standard). read_of (grammar (dialect x)) p.text.toks ≡ Ok u.tree) own here in
    let bound : binding_by u.standard p.text.toks u.tree ≡ Ok u.bound = subst (λ (x : UnitTextValue). binding_by u.standard x.toks u.tree ≡ Ok u.bound) same read.binds in
    let binds : binding_by standard p.text.toks u.tree ≡ Ok u.bound = subst (λ (x : Standard). binding_by x p.text.toks u.tree ≡ Ok u.bound) own bound in
    rw reads (rw binds (
    ap (λ (x : UnitTextValue). Ok (unit_analysis standard x u.tree u.bound)) (sym same)
    ∙ ap (λ (x : Standard). Ok (unit_analysis x u.text u.tree u.bound)) (sym own)
    ))

-- ---- units in order

pub analyses_have_texts : AnalysesHaveTexts
unfolding analysed_from texts_from
analyses_have_texts source number [] before v h =
    let same : units_and [] before.table ≡ v = ok-same {E = UnitFault} (units_and [] before.table) v h in
    subst (λ (x : UnitsValue). (texts_from source number [] before ≡ Ok (texts_and (texts_in x.units) x.table)) × (Each IsRead x.units × AreOfStandards [] x.units)) same (refl, (tt, refl))
analyses_have_texts source number (unit ∷ units) before v h =
    let first = then-ok _ (unit_with source number unit before) v h in
    let p : Preprocessed = first.0 in
    let second = then-ok _ (unit_read unit.standard number unit.path p) v first.2 in
    let u : UnitAnalysis = second.0 in
    let rest = then-ok _ (analysed_from source (number + 1) units p.after) v second.2 in
    let later : UnitsValue = rest.0 in
    let is = unit-of unit.standard number unit.path p u second.1 in
    let behind = analyses_have_texts source (number + 1) units p.after later rest.1 in
    let texts : texts_from source number (unit ∷ units) before ≡ Ok (texts_and (u.text ∷ texts_in later.units) later.table) =
    ap (λ (r : Result Preprocessed UnitFault). result_then (λ q. result_then (λ l. Ok (with_front q.text l)) (texts_from source (number + 1) units q.after)) r) first.1
    ∙ ap (λ (r : Result TextsValue UnitFault). result_then (λ l. Ok (with_front p.text l)) r) behind.0
    ∙ ap (λ (x : UnitTextValue). Ok (texts_and (x ∷ texts_in later.units) later.table)) (sym is.same) in
    let own : AreOfStandards (unit ∷ units) (u ∷ later.units) =
    ap (λ (x : Standard). x ∷ map (λ (w : UnitAnalysis). w.standard) later.units) is.own ∙ ap (λ (xs : List Standard). unit.standard ∷ xs) behind.1.1 in
    let same : with_unit u later ≡ v = ok-same {E = UnitFault} (with_unit u later) v rest.2 in
    subst (λ (x : UnitsValue). (texts_from source number (unit ∷ units) before ≡ Ok (texts_and (texts_in x.units) x.table)) × (Each IsRead x.units × AreOfStandards (unit ∷ units) x.units)) same
    (texts, ((is.read, behind.1.0), own))

-- lists of texts of one length or another
texts-nil : (us : List UnitAnalysis) → [] ≡ texts_in us → us ≡ []
texts-nil [] h = refl
texts-nil (u ∷ us) h = absurd (cc)

pub texts_have_analyses : TextsHaveAnalyses
unfolding analysed_from texts_from
texts_have_analyses source number [] before us table h read own =
    let same : texts_and [] before.table ≡ texts_and (texts_in us) table = ok-same {E = UnitFault} (texts_and [] before.table) (texts_and (texts_in us) table) h in
    let none : us ≡ [] = texts-nil us (ap (λ (x : TextsValue). x.texts) same) in
    let files : before.table ≡ table = ap (λ (x : TextsValue). x.table) same in
    rw none (ap (λ (x : Table). Ok (units_and [] x)) files)
texts_have_analyses source number (unit ∷ units) before [] table h read own =
    let first = then-ok _ (unit_with source number unit before) (texts_and [] table) h in
    let rest = then-ok _ (texts_from source (number + 1) units first.0.after) (texts_and [] table) first.2 in
    let same = ap (λ (x : TextsValue). x.texts) (ok-same {E = UnitFault} (with_front first.0.text rest.0) (texts_and [] table) rest.2) in
    absurd (cc)
texts_have_analyses source number (unit ∷ units) before (u ∷ us) table h read own =
    let first = then-ok _ (unit_with source number unit before) (texts_and (texts_in (u ∷ us)) table) h in
    let p : Preprocessed = first.0 in
    let rest = then-ok _ (texts_from source (number + 1) units p.after) (texts_and (texts_in (u ∷ us)) table) first.2 in
    let t : TextsValue = rest.0 in
    let whole : with_front p.text t ≡ texts_and (texts_in (u ∷ us)) table = ok-same {E = UnitFault} (with_front p.text t) (texts_and (texts_in (u ∷ us)) table) rest.2 in
    let texts : p.text ∷ t.texts ≡ u.text ∷ texts_in us = ap (λ (x : TextsValue). x.texts) whole in
    let one : u.text ≡ p.text = cc in
    let others : t.texts ≡ texts_in us = cc in
    let files : t.table ≡ table = ap (λ (x : TextsValue). x.table) whole in
    let behind : texts_from source (number + 1) units p.after ≡ Ok (texts_and (texts_in us) table) =
    rest.1 ∙ ap (λ (x : List UnitTextValue). Ok (texts_and x t.table)) others ∙ ap (λ (x : Table). Ok (texts_and (texts_in us) x)) files in
    let mine : u.standard ≡ unit.standard = cc in
    let others_own : AreOfStandards units us = cc in
    let later = texts_have_analyses source (number + 1) units p.after us table behind read.1 others_own in
    let here = of-unit unit.standard number unit.path p u one mine read.0 in
    ap (λ (r : Result Preprocessed UnitFault). result_then (λ q. result_then (λ x. result_then (λ l. Ok (with_unit x l)) (analysed_from source (number + 1) units q.after)) (unit_read unit.standard number unit.path q)) r) first.1
    ∙ ap (λ (r : Result UnitAnalysis UnitFault). result_then (λ x. result_then (λ l. Ok (with_unit x l)) (analysed_from source (number + 1) units p.after)) r) here
    ∙ ap (λ (r : Result UnitsValue UnitFault). result_then (λ l. Ok (with_unit u l)) r) later

-- ---- over edited files

texts-renamed : (r : Renaming) (us : List UnitAnalysis) → map (renamed_text r) (texts_in us) ≡ texts_in (map (renamed_unit_analysis r) us)
texts-renamed r [] = refl
texts-renamed r (u ∷ us) = ap (λ (x : List UnitTextValue). renamed_text r u.text ∷ x) (texts-renamed r us)

standards-renamed : (r : Renaming) (us : List UnitAnalysis) → map (λ (u : UnitAnalysis). u.standard) (map (renamed_unit_analysis r) us) ≡ map (λ (u : UnitAnalysis). u.standard) us
standards-renamed r [] = refl
standards-renamed r (u ∷ us) = ap (λ (x : List Standard). u.standard ∷ x) (standards-renamed r us)

reads-renamed : (r : Renaming) (us : List UnitAnalysis) → Each (ReadsAlike r) us → Each IsRead (map (renamed_unit_analysis r) us)
reads-renamed r [] h = tt
reads-renamed r (u ∷ us) h = (h.0, reads-renamed r us h.1)

pub units_are_renamed : UnitAnalysesAreRenamed
units_are_renamed c names old new number units before v h reach keeps alike =
    let t : TextsValue = texts_and (texts_in v.units) v.table in
    let are = analyses_have_texts old number units before v h in
    let anew = workspaces_are_renamed c names old new number units before t are.0 reach keeps in
    let table : Table = (renamed_units c v).table in
    texts_have_analyses new number units (edited_carried c.editing before) (renamed_units c v).units table
    (anew ∙ ap (λ (x : List UnitTextValue). Ok (texts_and x table)) (texts-renamed c.renaming v.units))
    (reads-renamed c.renaming v.units alike) (standards-renamed c.renaming v.units ∙ are.1.1)

pub analysis_is_renamed : WorkspaceAnalysisIsRenamed
analysis_is_renamed c names old new ws a h same keeps alike =
    let first = then-ok _ (analysed_from old 1 ws.units nothing_carried) a h in
    let v : UnitsValue = first.0 in
    let whole : analysis_and ws v.units v.table ≡ a = ok-same {E = UnitFault} (analysis_and ws v.units v.table) a first.2 in
    let files : v.table ≡ c.files = ap (λ (x : AnalysisValue). x.table) whole ∙ same in
    let each : Each (ReadsAlike c.renaming) v.units = subst (λ (x : AnalysisValue). Each (ReadsAlike c.renaming) x.units) (sym whole) alike in
    let anew = units_are_renamed c names old new 1 ws.units nothing_carried v first.1 (subst (IsGrown v.table) files (grown_refl v.table)) keeps each in
    ap (λ (r : Result UnitsValue UnitFault). result_then (λ all. Ok (analysis_and ws all.units all.table)) r) anew
    ∙ ap (λ (x : AnalysisValue). Ok (renamed_analysis c x)) whole
