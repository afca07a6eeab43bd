-- A new order whose second analysis was compared with the first keeps meaning over each source with the first.
use Rattle.std.proofs.Common.{◌≡◌, ℕ, zero, suc, ◌+◌, ◌<◌, true, List, [], ◌∷◌, length, map, Option, Some, None, Result, Ok, Err, refl, sym, ap, subst, ◌∙◌, arith}
use Rattle.std.specs.Prelude.{slice_get}
use Rattle.std.specs.Option.{option_map}
use Rattle.std.proofs.lemmas.Option.{none-some, same_Some}
use Rattle.cs_base.specs.declared.positions.Part.{Part}
use Rattle.cs_base.specs.declared.ws_units.Standard.{Standard}
use Rattle.cs_base.specs.Edit.{Edit}
use Rattle.cs_base.specs.Units.{UnitValue}
use Rattle.cs_base.proofs.AnswerLemmas.{map_err_ok as unmapped}
use Rattle.cs_base.proofs.OptionLemmas.{ok_same}
use Rattle.c99_grammar.specs.Dialects.{dialect}
use Rattle.tree_laws.specs.TreesOfTexts.{IsTreeOf}
use Rattle.tree_laws.proofs.OfTexts.{trees_by_dialect}
use Rattle.source_files.specs.Faults.{Fault}
use Rattle.source_files.specs.Files.{Source, source_of, Carried, nothing_carried}
use Rattle.include_tree.specs.Preprocessed.{Preprocessed}
use Rattle.ws_file.specs.Workspace.{WorkspaceValue, IsWorkspace}
use Rattle.list_cuts.specs.Cuts.{IsOrder}
use Rattle.analysis.specs.Analysis.{UnitAnalysis, unit_analysis, UnitsValue, units_and, with_unit, AnalysisValue, analysis_and, bound_unit, read_unit, unit_read, analysed_from, analysis_of}
use Rattle.analysis.specs.Tables.{MadeFilesArePseudo, PathsStandOnce, TablesAreFound}
use Rattle.analysis.specs.Texts.{UnitFault, unit_fault, unit_with}
use Rattle.analysis.proofs.MadeLemmas.{done_first}
use Rattle.edited_files.specs.Edited.{AreMade}
use Rattle.edited_unit_laws.proofs.EditionLemmas.{unit_is_read}
use Rattle.template_rules.specs.FileLists.{edits_of}
use Rattle.template_rules.specs.Held.{ListsAreHeld}
use Rattle.reordered.specs.Reordered.{IsReorderedUnit}
use Rattle.template_meaning.specs.Compared.{AreCompared, IsSecond, KeepsOrder}
use Rattle.template_meaning.proofs.ExternalMoved.{external_moved}
use Rattle.template_meaning.proofs.KeptTables.{files_reordered, found_now, table_kept}
use Rattle.template_meaning.proofs.KeptUnits.{is_cut, named_before, named_behind, unit_kept}
use Rattle.template_meaning.proofs.RealFiles.{asked_are_real, begins_with_lines}

-- ---- standards

read_by : (standard : Standard) (number : ℕ) (path : List ℕ) (p : Preprocessed) (u : UnitAnalysis) → unit_read standard number path p ≡ Ok u → u.standard ≡ standard
read_by standard number path p u is =
    let read = unmapped (read_unit standard p.after.table path p.text) (unit_fault number) u is in
    let tree = done_first {E = Fault} _ (bound_unit standard p.after.table path p.text) u read in
    let bound = done_first {E = Fault} _ (λ b. Ok (unit_analysis standard p.text tree.0 b)) u tree.2 in
    let same : unit_analysis standard p.text tree.0 bound.0 ≡ u = ok_same {D = Fault} (unit_analysis standard p.text tree.0 bound.0) u bound.2 in
    ap (λ (v : UnitAnalysis). v.standard) (sym same)

standards_from : (source : Source) (number : ℕ) (units : List UnitValue) (before : Carried) (v : UnitsValue) → analysed_from source number units before ≡ Ok v
    → map (λ (u : UnitAnalysis). u.standard) v.units ≡ map (λ (u : UnitValue). u.standard) units
unfolding analysed_from
standards_from source number [] before v is =
    let same : units_and [] before.table ≡ v = ok_same {D = UnitFault} (units_and [] before.table) v is in
    ap (λ (w : UnitsValue). map (λ (u : UnitAnalysis). u.standard) w.units) (sym same)
standards_from source number (unit ∷ units) before v is =
    let p = done_first (unit_with source number unit before) _ v is in
    let u = done_first (unit_read unit.standard number unit.path p.0) _ v p.2 in
    let later = done_first (analysed_from source (number + 1) units p.0.after) _ v u.2 in
    let same : with_unit u.0 later.0 ≡ v = ok_same {D = UnitFault} (with_unit u.0 later.0) v later.2 in
    let own : u.0.standard ≡ unit.standard = read_by unit.standard number unit.path p.0 u.0 u.1 in
    let rest = standards_from source (number + 1) units p.0.after later.0 later.1 in
    ap (λ (w : UnitsValue). map (λ (x : UnitAnalysis). x.standard) w.units) (sym same)
    ∙ (ap (λ (s : Standard). s ∷ map (λ (x : UnitAnalysis). x.standard) later.0.units) own
    ∙ ap (λ (ss : List Standard). unit.standard ∷ ss) rest)

standards : (source : Source) (ws : WorkspaceValue) (a : AnalysisValue) → analysis_of source ws ≡ Ok a → map (λ (u : UnitAnalysis). u.standard) a.units ≡ map (λ (u : UnitValue). u.standard) ws.units
standards source ws a is =
    let all = done_first (analysed_from source 1 ws.units nothing_carried) _ a is in
    let same : analysis_and ws all.0.units all.0.table ≡ a = ok_same {D = UnitFault} (analysis_and ws all.0.units all.0.table) a all.2 in
    ap (λ (x : AnalysisValue). map (λ (u : UnitAnalysis). u.standard) x.units) (sym same) ∙ standards_from source 1 ws.units nothing_carried all.0 all.1

at_map : {X Y : Type 0} (f : X → Y) (xs : List X) (k : ℕ) → slice_get (map f xs) k ≡ option_map f (slice_get xs k)
at_map f [] k = refl
at_map f (x ∷ xs) zero = refl
at_map f (x ∷ xs) (suc k) = at_map f xs k

same_standard : (us vs : List UnitAnalysis) (n : ℕ) (u v : UnitAnalysis) → map (λ (x : UnitAnalysis). x.standard) us ≡ map (λ (x : UnitAnalysis). x.standard) vs
    → slice_get us n ≡ Some u → slice_get vs n ≡ Some v → v.standard ≡ u.standard
same_standard us vs n u v same at there =
    let f : UnitAnalysis → Standard = λ (w : UnitAnalysis). w.standard in
    let one : slice_get (map f us) n ≡ Some u.standard = at_map f us n ∙ ap (option_map f) at in
    let two : slice_get (map f vs) n ≡ Some v.standard = at_map f vs n ∙ ap (option_map f) there in
    sym (same_Some u.standard v.standard (sym one ∙ (ap (λ (ss : List Standard). slice_get ss n) same ∙ two)))

-- ---- all

pub keeps_order : MadeFilesArePseudo → TablesAreFound → PathsStandOnce → (a b : AnalysisValue) (members : List Part) (order : List ℕ) (edits : List Edit) → IsWorkspace a.workspace
    → IsOrder (length order) order → edits ≡ edits_of members a order → ListsAreHeld members a → IsSecond edits a b → AreCompared members order a b → KeepsOrder a members order
keeps_order made_are found_are once_are a b members order edits is ordered own held second0 compared before now analysed made =
    let second : IsSecond (edits_of members a order) a b = subst (λ (es : List Edit). IsSecond es a b) own second0 in
    let ws = a.workspace in
    let found = found_are before ws a analysed in
    let pseudo = made_are before ws a analysed in
    let once = once_are before ws a is analysed in
    let own_files : analysis_of (source_of second.files) ws ≡ Ok b = second.over (source_of second.files) second.found in
    let lines = begins_with_lines before ws a analysed in
    let lines2 = begins_with_lines (source_of second.files) ws b own_files in
    let behind : analysis_of now ws ≡ Ok b =
    second.over now (found_now members order a before now once found pseudo held made b second.files second.each second.found lines lines2 compared.numbers compared.files) in
    let of : (source : Source) (x : AnalysisValue) → analysis_of source ws ≡ Ok x → (n : ℕ) (u : UnitAnalysis) → slice_get x.units n ≡ Some u → IsTreeOf (length u.text.toks) u.tree =
    λ source x e n u at. (let read = unit_is_read source ws x e u (n, at) in trees_by_dialect (dialect u.standard) u.text.toks u.tree read.reads) in
    let same : map (λ (u : UnitAnalysis). u.standard) a.units ≡ map (λ (u : UnitAnalysis). u.standard) b.units =
    standards before ws a analysed ∙ sym (standards now ws b behind) in
    let units : (n : ℕ) (u v : UnitAnalysis) → slice_get a.units n ≡ Some u → slice_get b.units n ≡ Some v → IsReorderedUnit members order u v =
    λ n u v at there. unit_kept members order u v ordered (of before a analysed n u at) (compared.units n u v at there) (same_standard a.units b.units n u v same at there) in
    let beside : (n : ℕ) (u : UnitAnalysis) → slice_get a.units n ≡ Some u → (v : UnitAnalysis) × (slice_get b.units n ≡ Some v) =
    λ n u at. unit_there a.units b.units n u compared.many at in
    let besides : (n : ℕ) (v : UnitAnalysis) → slice_get b.units n ≡ Some v → (u : UnitAnalysis) × (slice_get a.units n ≡ Some u) =
    λ n v at. unit_there b.units a.units n v (sym compared.many) at in (
      files_reordered members order a before now once found pseudo held made,
      (
        b,
        behind,
        record {
          workspace = second.workspace;
          many = compared.many;
          units = units;
          table = table_kept members order a before now once found pseudo held made b second.files second.each second.found lines lines2 compared.numbers compared.files
              (asked_are_real before ws a is analysed) (asked_are_real now ws b is behind) (made_are now ws b behind);
          external = external_moved members order a b second.workspace compared.many units
              (λ n u at. let v = beside n u at in is_cut members order u v.0 ordered (of before a analysed n u at) (compared.units n u v.0 at v.1))
              (λ n u at. let v = beside n u at in named_before members order u v.0 ordered (of before a analysed n u at) (compared.units n u v.0 at v.1))
              (λ n v at. let u = besides n v at in named_behind members order u.0 v ordered (of before a analysed n u.0 u.1) (compared.units n u.0 v u.1 at));
        },
      ),
    )
  where
    unit_there : (us vs : List UnitAnalysis) (n : ℕ) (u : UnitAnalysis) → length vs ≡ length us → slice_get us n ≡ Some u → (v : UnitAnalysis) × (slice_get vs n ≡ Some v)
    unit_there [] vs n u many at = absurd (none-some u at)
    unit_there (x ∷ us) [] n u many at = absurd (omega (arith, many))
    unit_there (x ∷ us) (y ∷ vs) zero u many at = (y, refl)
    unit_there (x ∷ us) (y ∷ vs) (suc n) u many at = unit_there us vs n u (omega (arith, many)) at
