-- Where no unit is of GNU C, each is read and bound by the edition of ISO/IEC 9899 that its standard follows.
use Rattle.std.proofs.Common.{◌≡◌, ℕ, zero, suc, ◌+◌, Bool, true, false, if◌then◌else◌, List, [], ◌∷◌, Some, None, Ok, refl, sym, subst, ◌∙◌}
use Rattle.std.specs.Prelude.{slice_get}
use Rattle.std.specs.Option.{option_map_or}
use Rattle.std.proofs.lemmas.Bool.{false≢true}
use Rattle.std.proofs.lemmas.Option.{same_Some}
use Rattle.cs_base.specs.declared.positions.Pos.{Pos}
use Rattle.cs_base.specs.declared.ws_units.Standard.{Standard}
use Rattle.cs_base.specs.declared.ws_units.Standard.TheVariants.{C99, C11, Gnu99, Gnu11}
use Rattle.cs_base.specs.Token.{Token}
use Rattle.cs_base.specs.Units.{UnitValue, is_gnu}
use Rattle.cs_base.proofs.OptionLemmas.{ok_same}
use Rattle.cs_base.proofs.AnswerLemmas.{map_err_ok as unmapped}
use Rattle.ws_file.specs.Workspace.{WorkspaceValue}
use Rattle.source_files.specs.Faults.{Fault}
use Rattle.source_files.specs.Files.{Source, Table, Carried, nothing_carried}
use Rattle.unit_steps.specs.Texts.{UnitTextValue}
use Rattle.analysis.specs.Below.c99_tree.Tree.{Node}
use Rattle.analysis.specs.Below.c99_grammar.Dialects.{edition, dialect}
use Rattle.analysis.specs.Below.c99_grammar.Standard.{iso, grammar}
use Rattle.analysis.specs.Below.c99_read.Reading.{read_of}
use Rattle.analysis.specs.Below.scope_bind.Bound.{binding_of}
use Rattle.analysis.specs.Below.gnu_bind.Bound.{binding_by}
use Rattle.analysis.specs.Analysis.{UnitAnalysis, UnitsValue, AnalysisValue, analysis_and, with_unit, unit_read, analysed_from, analysis_of, read_unit, bound_unit, unit_analysis}
use Rattle.analysis.specs.Texts.{UnitFault, unit_fault, unit_with}
use Rattle.analysis.specs.GnuUnits.{begin_of, gnu_place, gnu_places}
use Rattle.edited_unit_laws.specs.Analyses.{IsRead}
use Rattle.edited_unit_laws.proofs.ListLemmas.{In, cons_nil, flat_nil}
use Rattle.edited_unit_laws.proofs.AnalysedUnitLemmas.{done_first}

pub reads_by_edition : (s : Standard) (toks : List Token) → is_gnu s ≡ false → read_of (grammar (dialect s)) toks ≡ read_of (iso (edition s)) toks
reads_by_edition C99 toks h = refl
reads_by_edition C11 toks h = refl
reads_by_edition Gnu99 toks h = absurd (false≢true (sym h))
reads_by_edition Gnu11 toks h = absurd (false≢true (sym h))

pub binds_by_edition : (s : Standard) (toks : List Token) (tree : Node) → is_gnu s ≡ false → binding_by s toks tree ≡ binding_of toks tree
binds_by_edition C99 toks tree h = refl
binds_by_edition C11 toks tree h = refl
binds_by_edition Gnu99 toks tree h = absurd (false≢true (sym h))
binds_by_edition Gnu11 toks tree h = absurd (false≢true (sym h))

none_here : (gnu : Bool) (p : Pos) → option_map_or (λ (q : Pos). q ∷ []) (if gnu then Some p else None) [] ≡ [] → gnu ≡ false
none_here true p e = absurd (cons_nil p [] e)
none_here false p e = refl

-- no unit begins as one of GNU C, so none is one
pub no_gnu_unit : (a : AnalysisValue) → gnu_places a ≡ [] → (u : UnitAnalysis) → In u a.units → is_gnu u.standard ≡ false
unfolding gnu_places
no_gnu_unit a none u i = none_here (is_gnu u.standard) (begin_of u.text.toks) (flat_nil gnu_place a.units u none i)

-- ---- Units that are read and bound

one_read : (standard : Standard) (table : Table) (path : List ℕ) (text : UnitTextValue) (u : UnitAnalysis) → read_unit standard table path text ≡ Ok u → IsRead u
one_read standard table path text u e =
    let r = done_first {E = Fault} _ (bound_unit standard table path text) u e in
    let b = done_first {E = Fault} _ (λ bound. Ok (unit_analysis standard text r.0 bound)) u r.2 in
    let own : IsRead (unit_analysis standard text r.0 b.0) = record {
      reads = unmapped (read_of (grammar (dialect standard)) text.toks) _ r.0 r.1;
      binds = unmapped (binding_by standard text.toks r.0) _ b.0 b.1;
    } in
    subst IsRead (ok_same {D = Fault} (unit_analysis standard text r.0 b.0) u b.2) own

units_read : (source : Source) (number : ℕ) (units : List UnitValue) (before : Carried) (v : UnitsValue)
    → analysed_from source number units before ≡ Ok v → (u : UnitAnalysis) → In u v.units → IsRead u
unfolding analysed_from
units_read source number [] before v e =
    let same = ok_same {D = UnitFault} _ v e in
    let P : UnitsValue → Type 0 = λ w. (u : UnitAnalysis) → In u w.units → IsRead u in
    subst P same (λ u i. absurd (let at = i.1 in cc))
units_read source number (unit ∷ units) before v e =
    let p = done_first (unit_with source number unit before) _ v e in
    let u = done_first (unit_read unit.standard number unit.path p.0) _ v p.2 in
    let later = done_first (analysed_from source (number + 1) units p.0.after) _ v u.2 in
    let first = one_read unit.standard p.0.after.table unit.path p.0.text u.0 (unmapped (read_unit unit.standard p.0.after.table unit.path p.0.text) (unit_fault number) u.0 u.1) in
    let rest = units_read source (number + 1) units p.0.after later.0 later.1 in
    let same = ok_same {D = UnitFault} (with_unit u.0 later.0) v later.2 in
    let P : UnitsValue → Type 0 = λ w. (x : UnitAnalysis) → In x w.units → IsRead x in
    subst P same (λ x i. first_or u.0 later.0.units x i.0 i.1 first rest)
  where
    first_or : (one : UnitAnalysis) (others : List UnitAnalysis) (x : UnitAnalysis) (k : ℕ) → slice_get (one ∷ others) k ≡ Some x → IsRead one
        → ((y : UnitAnalysis) → In y others → IsRead y) → IsRead x
    first_or one others x zero at here rest = subst IsRead (same_Some one x at) here
    first_or one others x (suc k) at here rest = rest x (k, at)

pub unit_is_read : (source : Source) (ws : WorkspaceValue) (a : AnalysisValue) → analysis_of source ws ≡ Ok a → (u : UnitAnalysis) → In u a.units → IsRead u
unit_is_read source ws a e =
    let all = done_first (analysed_from source 1 ws.units nothing_carried) _ a e in
    let same = ok_same {D = UnitFault} (analysis_and ws all.0.units all.0.table) a all.2 in
    let P : AnalysisValue → Type 0 = λ b. (u : UnitAnalysis) → In u b.units → IsRead u in
    subst P same (units_read source 1 ws.units nothing_carried all.0 all.1)

-- The tokens of a unit that is not of GNU C are read by its edition to its tree (Annex A), and bound so (6.2).
pub record IsReadSo (u : UnitAnalysis) : Type 0 where
  pub not_gnu : is_gnu u.standard ≡ false
  pub reads : read_of (iso (edition u.standard)) u.text.toks ≡ Ok u.tree
  pub binds : binding_of u.text.toks u.tree ≡ Ok u.bound

pub read_by_edition : (u : UnitAnalysis) → is_gnu u.standard ≡ false → IsRead u → IsReadSo u
read_by_edition u other is = record {
  not_gnu = other;
  reads = sym (reads_by_edition u.standard u.text.toks other) ∙ is.reads;
  binds = sym (binds_by_edition u.standard u.text.toks u.tree other) ∙ is.binds;
}

-- so it is with each unit where none is of GNU C
pub unit_read_so : (source : Source) (ws : WorkspaceValue) (a : AnalysisValue) → analysis_of source ws ≡ Ok a → gnu_places a ≡ [] → (u : UnitAnalysis) → In u a.units
    → IsReadSo u
unit_read_so source ws a e none u i = read_by_edition u (no_gnu_unit a none u i) (unit_is_read source ws a e u i)
