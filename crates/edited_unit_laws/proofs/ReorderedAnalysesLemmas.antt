-- The analysis over the edited files is that of texts in the new order, each read and bound.
use Rattle.std.proofs.Common.{◌≡◌, ℕ, zero, suc, List, [], ◌∷◌, length, map, Result, Ok, Some, refl, ap, sym, subst, ◌∙◌}
use Rattle.std.specs.Prelude.{slice_get}
use Rattle.std.proofs.lemmas.Option.{none-some, same_Some}
use Rattle.cs_base.specs.Answer.{result_then}
use Rattle.cs_base.specs.declared.ws_units.Standard.{Standard}
use Rattle.source_files.specs.Files.{Table, nothing_carried}
use Rattle.source_files.specs.Tables.{AreFound}
use Rattle.unit_steps.specs.Texts.{UnitTextValue}
use Rattle.analysis.specs.Analysis.{UnitAnalysis, UnitsValue, units_and, AnalysisValue, analysis_and, analysed_from}
use Rattle.analysis.specs.Texts.{texts_and, UnitFault}
use Rattle.analysis.specs.Changed.{texts_in}
use Rattle.edited_unit_laws.specs.Analyses.{IsRead, AnalysesHaveTexts, TextsHaveAnalyses}
use Rattle.edited_unit_laws.specs.Lines.{Each}
use Rattle.edited_unit_laws.proofs.AloneLemmas.{ok-same}
use Rattle.edited_unit_laws.proofs.WorkspaceLemmas.{then-ok}
use Rattle.unit_laws.specs.Edited.{edited_files, edited_carried}
use Rattle.unit_laws.specs.Reordered.{UnitsAreReordered}
use Rattle.unit_laws.specs.Walking.{IsOf, plains}
use Rattle.source_files.proofs.TableLemmas.{grown_refl}
use Rattle.edited_unit_laws.specs.ReorderedAnalyses.{UnitCuts, ReadsSo, IsReorderedText, AreReordered, AllStand, UnitAnalysesAreReordered, WorkspaceIsReordered}
use Rattle.edited_unit_laws.proofs.ReorderedTextLemmas.{AreArranged, texts_too}

-- units with these texts, one by one
record UnitsToo (order : List ℕ) (cuts : UnitCuts) (us : List UnitAnalysis) (texts : List UnitTextValue) : Type 0 where
  units : List UnitAnalysis
  texts_are : texts_in units ≡ texts
  many : length units ≡ length us
  read : Each IsRead units
  standards : map (λ (u : UnitAnalysis). u.standard) units ≡ map (λ (u : UnitAnalysis). u.standard) us
  each : (k : ℕ) (u x : UnitAnalysis) → slice_get us k ≡ Some u → slice_get units k ≡ Some x → IsReorderedText order (cuts u) u x

units_too : (order : List ℕ) (cuts : UnitCuts) (us : List UnitAnalysis) (texts : List UnitTextValue) → AreArranged order cuts us texts → ((u : UnitAnalysis) → IsOf us u → ReadsSo order (cuts u) u)
    → UnitsToo order cuts us texts
units_too order cuts [] [] are reads = record { units = []; texts_are = refl; many = refl; read = tt; standards = refl; each = λ k u x h. absurd (none-some u h) }
units_too order cuts [] (t ∷ ts) are reads = absurd are
units_too order cuts (u ∷ us) [] are reads = absurd are
units_too order cuts (u ∷ us) (t ∷ ts) are reads =
    let v = reads u (0, refl) t are.0 in
    let k = units_too order cuts us ts are.1 (λ w at. reads w (suc at.0, at.1)) in
    let here : IsReorderedText order (cuts u) u v.0 =
    record { standard = v.2; toks = ap (λ (x : UnitTextValue). plains x.toks) v.1 ∙ are.0; read = v.3 } in
    record {
      units = v.0 ∷ k.units;
      texts_are = ap (λ (x : UnitTextValue). x ∷ texts_in k.units) v.1 ∙ ap (λ (l : List UnitTextValue). t ∷ l) k.texts_are;
      many = ap suc k.many;
      read = (v.3, k.read);
      standards =
          ap (λ (s : Standard). s ∷ map (λ (w : UnitAnalysis). w.standard) k.units) v.2 ∙ ap (λ (l : List Standard). u.standard ∷ l) k.standards;
      each = λ m w x at at2. each_of v.0 k.units here k.each m w x at at2;
    }
  where
    each_of : (y : UnitAnalysis) (ys : List UnitAnalysis) → IsReorderedText order (cuts u) u y
        → ((k : ℕ) (w x : UnitAnalysis) → slice_get us k ≡ Some w → slice_get ys k ≡ Some x → IsReorderedText order (cuts w) w x)
        → (k : ℕ) (w x : UnitAnalysis) → slice_get (u ∷ us) k ≡ Some w → slice_get (y ∷ ys) k ≡ Some x → IsReorderedText order (cuts w) w x
    each_of y ys first rest zero w x at at2 =
        subst (λ (a : UnitAnalysis). IsReorderedText order (cuts a) a x) (same_Some u w at) (subst (λ (b : UnitAnalysis). IsReorderedText order (cuts u) u b) (same_Some y x at2) first)
    each_of y ys first rest (suc k) w x at at2 = rest k w x at at2

pub units_are : AnalysesHaveTexts → TextsHaveAnalyses → UnitsAreReordered → UnitAnalysesAreReordered
units_are texts analyses law = λ edit n order cuts old new number units before v is news keeps found h all.
    let are = texts old number units before v h in
    let t = texts_too law edit n order cuts old new is news keeps number units before v.units v.table v.table are.0 found (grown_refl v.table) all.stands in
    let u = units_too order cuts v.units t.texts t.arranged all.reads in
    let table : Table = edited_files edit v.table in (
      units_and u.units table,
      analyses new number units (edited_carried edit before) u.units table
          (t.is ∙ ap (λ (x : List UnitTextValue). Ok (texts_and x table)) (sym u.texts_are)) u.read (u.standards ∙ are.1.1),
      record { many = u.many; units = u.each; table = refl },
    )

pub workspace_is : UnitAnalysesAreReordered → WorkspaceIsReordered
workspace_is units = λ edit n order cuts old new ws a is news keeps h all.
    let first = then-ok (λ (v : UnitsValue). Ok (analysis_and ws v.units v.table)) (analysed_from old 1 ws.units nothing_carried) a h in
    let v : UnitsValue = first.0 in
    let whole : analysis_and ws v.units v.table ≡ a = ok-same {E = UnitFault} (analysis_and ws v.units v.table) a first.2 in
    let same : units_and a.units a.table ≡ v = ap (λ (x : AnalysisValue). units_and x.units x.table) (sym whole) in
    let found : AreFound old nothing_carried.table = (tt, tt) in
    let k = units edit n order cuts old new 1 ws.units nothing_carried v is news keeps found first.1 (subst (λ (x : UnitsValue). AllStand edit old n order cuts x) same all) in (
      analysis_and ws k.0.units k.0.table,
      ap (λ (r : Result UnitsValue UnitFault). result_then (λ x. Ok (analysis_and ws x.units x.table)) r) k.1,
      refl,
      ap (λ (x : AnalysisValue). x.workspace) (sym whole),
      subst (λ (x : UnitsValue). AreReordered edit order cuts x k.0) (sym same) k.2,
    )
