-- A renaming against which nothing stands keeps each unit of an analysis.
use Rattle.std.proofs.Common.{◌≡◌, ℕ, suc, ◌+◌, ◌-◌, ◌≤◌, List, [], ◌∷◌, length, Option, Some, Ok, refl, sym, ap, subst, ◌∙◌, arith}
use Rattle.std.specs.Prelude.{slice_get}
use Rattle.cs_base.specs.declared.positions.Part.{Part}
use Rattle.cs_base.specs.Token.{Token}
use Rattle.cs_base.specs.Units.{UnitValue}
use Rattle.cs_base.proofs.OptionLemmas.{ok_same}
use Rattle.cs_base.proofs.AnswerLemmas.{map_err_ok as unmapped}
use Rattle.lexer.specs.FileText.{file_text}
use Rattle.source_files.specs.Faults.{Fault}
use Rattle.source_files.specs.Files.{Source, Table, Carried, carried, nothing_carried}
use Rattle.source_files.specs.Tables.{IsGrown}
use Rattle.source_files.specs.Limits.{the_limits}
use Rattle.unit_steps.specs.State.{Did}
use Rattle.unit_steps.specs.Texts.{unit_text}
use Rattle.include_tree.specs.Preprocessed.{Preprocessed, preprocessed, preprocessed_by}
use Rattle.include_tree.specs.Unit.{unit_outcome}
use Rattle.source_files.proofs.TableLemmas.{grown_refl, grown_trans}
use Rattle.edited_unit_laws.specs.Lines.{Each}
use Rattle.edited_unit_laws.specs.EditedFiles.{HoldsEdited}
use Rattle.edited_unit_laws.specs.Keeping.{KeepsUnit}
use Rattle.edited_unit_laws.specs.UnitTexts.{MovesMacro}
use Rattle.edited_unit_laws.specs.WorkspaceTexts.{KeepsUnits}
use Rattle.edited_unit_laws.proofs.WorkspaceLemmas.{workspace_is_renamed}
use Rattle.edited_unit_laws.proofs.AnalysesLemmas.{analyses_have_texts, analysis_is_renamed}
use Rattle.analysis.specs.Analysed.{Analysed}
use Rattle.analysis.specs.Analysis.{UnitAnalysis, UnitsValue, AnalysisValue, analysis_and, with_unit, unit_read, read_unit, analysed_from}
use Rattle.analysis.specs.Texts.{UnitFault, unit_fault, unit_with, texts_and, texts_of}
use Rattle.rename_meaning.specs.Allowed.{IsAllowed}
use Rattle.rename_meaning.specs.KeptFiles.{WordsAreFree}
use Rattle.rename_meaning.specs.KeptLines.{LinesStayAlike}
use Rattle.rename_meaning.specs.MadeTokens.{IsOutcome}
use Rattle.edited_unit_laws.proofs.ListLemmas.{In}
use Rattle.rename_meaning.proofs.ProcessedLemmas.{words_are_free_where_named}
use Rattle.edited_unit_laws.proofs.AnalysedUnitLemmas.{done_first, bound_text, units_are}
use Rattle.rename_meaning.specs.KeptUnits.{change, change_by, names_in, macro_names, UnitsAreKept, TextsAreRenamedWhereNamed, AnalysisIsRenamedWhereNamed}
use Rattle.rename_meaning.specs.Limits.{AreWithinLimits}
use Rattle.rename_meaning.proofs.AlikeLineLemmas.{lines_stay_alike_where_named}
use Rattle.rename_meaning.proofs.KeptNoteLemmas.{unit_kept, macros_move}
use Rattle.rename_meaning.proofs.SizeLemmas.{edited_files_are_within_limits}
use Rattle.analysis.specs.Changed.{texts_in}

-- what a unit without a fault gives
abbrev given : Carried → Did (List Token) → Preprocessed
given before d = record { text = unit_text d.value d.notes; after = carried d.state.table (before.toks + length d.value) }

unit_gives : (source : Source) (number : ℕ) (unit : UnitValue) (before : Carried) (p : Preprocessed) (d : Did (List Token)) → preprocessed source number unit before ≡ Ok p
    → unit_outcome the_limits file_text source number unit before ≡ Ok d → given before d ≡ p
unfolding preprocessed
unit_gives source number unit before p d e is = ok_same {D = Fault} (given before d) p (sym (ap (preprocessed_by before.toks) is) ∙ e)

-- what is kept of a unit, with these new spellings of the names of macros
abbrev KeepsOne : AnalysisValue → List Part → List ℕ → Source → Did (List Token) → Option UnitAnalysis → Type 0
KeepsOne a members name new d u =
    KeepsUnit (change_by a members name (names_in members name u)) new d.notes × Each (MovesMacro (change_by a members name (names_in members name u))) d.notes

module _ (a : Analysed) (members : List Part) (name : List ℕ) (h : IsAllowed a members name) (words : WordsAreFree a.value members) (uses : LinesStayAlike a.value members name)
    (limits : AreWithinLimits a.value members name) (new : Source) (holds : HoldsEdited (change a.value members name) h.source new) where
  one_kept : (u : UnitAnalysis) → In u a.value.units → (d : Did (List Token)) → IsOutcome a.value u d → KeepsOne a.value members name new d (Some u)
  one_kept u i d o = (unit_kept a members name h u i d o words uses limits new holds, macros_move a members name h u i d o)

  kept_from : (number : ℕ) (units : List UnitValue) (before : Carried) (v : UnitsValue) → 1 ≤ number → analysed_from h.source number units before ≡ Ok v → IsGrown v.table a.value.table
      → ((k : ℕ) (u : UnitAnalysis) → slice_get v.units k ≡ Some u → slice_get a.value.units (number - 1 + k) ≡ Some u)
      → KeepsUnits (change a.value members name) (macro_names a.value members name) h.source new number units before
  unfolding analysed_from
  kept_from number [] before v from e grown at = tt
  kept_from number (unit ∷ units) before v from e grown at = λ d is.
      let source : Source = h.source in
      let p = done_first (unit_with source number unit before) _ v e in
      let r = done_first (unit_read unit.standard number unit.path p.0) _ v p.2 in
      let u : UnitAnalysis = r.0 in
      let later = done_first (analysed_from source (number + 1) units p.0.after) _ v r.2 in
      let is_text = unmapped (preprocessed source number unit before) (unit_fault number) p.0 p.1 in
      let is_read = unmapped (read_unit unit.standard p.0.after.table unit.path p.0.text) (unit_fault number) u r.1 in
      let gives = unit_gives source number unit before p.0 d is_text is in
      let same = ok_same {D = UnitFault} (with_unit u later.0) v later.2 in
      let grows = (units_are source (number + 1) units p.0.after later.0 later.1).0 in
      let table : later.0.table ≡ v.table = ap (λ (w : UnitsValue). w.table) same in
      let rest : IsGrown later.0.table a.value.table = subst (λ (t : Table). IsGrown t a.value.table) (sym table) grown in
      let all : IsGrown p.0.after.table a.value.table = grown_trans p.0.after.table later.0.table a.value.table grows rest in
      let here : IsGrown d.state.table a.value.table = subst (λ (x : Preprocessed). IsGrown x.after.table a.value.table) (sym gives) all in
      let units_v : u ∷ later.0.units ≡ v.units = ap (λ (w : UnitsValue). w.units) same in
      let zero_at : number - 1 + 0 ≡ number - 1 = omega arith in
      let first : slice_get a.value.units (number - 1) ≡ Some u =
      ap (slice_get a.value.units) (sym zero_at) ∙ at 0 u (ap (λ (us : List UnitAnalysis). slice_get us 0) (sym units_v)) in
      let outcome : IsOutcome a.value u d = record {
        source = source;
        number = number;
        unit = unit;
        before = before;
        outcome = is;
        text = ap (λ (x : Preprocessed). x.text) gives ∙ bound_text unit.standard p.0.after.table unit.path p.0.text u is_read;
        grown = here;
      } in
      let kept = subst (KeepsOne a.value members name new d) (sym first) (one_kept u (number - 1, first) d outcome) in
      let on = kept_from (number + 1) units p.0.after later.0 (omega (arith, from)) later.1 rest
      (λ k w j.
      let next : number - 1 + suc k ≡ number + 1 - 1 + k = omega (arith, from) in
      let there : slice_get v.units (suc k) ≡ Some w = ap (λ (us : List UnitAnalysis). slice_get us (suc k)) (sym units_v) ∙ j in
      ap (slice_get a.value.units) (sym next) ∙ at (suc k) w there) in
      let behind = subst (λ (x : Preprocessed). KeepsUnits (change a.value members name) (macro_names a.value members name) source new (number + 1) units x.after) (sym gives) on in
      (kept.0, kept.1, behind)

pub units_are_kept : UnitsAreKept
units_are_kept = λ a members name h words uses limits new holds.
    let all = done_first (analysed_from h.source 1 h.workspace.units nothing_carried) _ a.value h.accepted in
    let v : UnitsValue = all.0 in
    let same = ok_same {D = UnitFault} (analysis_and h.workspace v.units v.table) a.value all.2 in
    let grown : IsGrown v.table a.value.table = subst (λ (b : AnalysisValue). IsGrown v.table b.table) same (grown_refl v.table) in
    kept_from a members name h words uses limits new holds 1 h.workspace.units nothing_carried v (omega arith) all.1 grown
    (λ k u at.
    let here : k ≡ 1 - 1 + k = omega arith in
    ap (λ (b : AnalysisValue). slice_get b.units (1 - 1 + k)) (sym same) ∙ ap (slice_get v.units) (sym here) ∙ at)

pub texts_are_renamed_where_named : TextsAreRenamedWhereNamed
texts_are_renamed_where_named = λ a members name path line column h workspace once named new holds.
    let limits = edited_files_are_within_limits a members name path line column h workspace once named in
    let words = words_are_free_where_named a members name path line column h named in
    let uses = lines_stay_alike_where_named a members name path line column h named in
    let all = done_first (analysed_from h.source 1 h.workspace.units nothing_carried) _ a.value h.accepted in
    let v : UnitsValue = all.0 in
    let same = ok_same {D = UnitFault} (analysis_and h.workspace v.units v.table) a.value all.2 in
    let texts = (analyses_have_texts h.source 1 h.workspace.units nothing_carried v all.1).0 in
    let own : texts_of h.source h.workspace.units ≡ Ok (texts_and (texts_in a.value.units) a.value.table) =
    texts ∙ ap (λ (b : AnalysisValue). Ok (texts_and (texts_in b.units) b.table)) same in
    workspace_is_renamed (change a.value members name) (macro_names a.value members name) h.source new h.workspace.units (texts_and (texts_in a.value.units) a.value.table) own refl
    (units_are_kept a members name h words uses limits new holds)

pub analysis_is_renamed_where_named : AnalysisIsRenamedWhereNamed
analysis_is_renamed_where_named = λ a members name path line column h workspace once named new holds reads.
    let limits = edited_files_are_within_limits a members name path line column h workspace once named in
    let words = words_are_free_where_named a members name path line column h named in
    let uses = lines_stay_alike_where_named a members name path line column h named in
    analysis_is_renamed (change a.value members name) (macro_names a.value members name) h.source new h.workspace a.value h.accepted refl
    (units_are_kept a members name h words uses limits new holds) reads
