-- Where meaning is kept, each unit is read and bound as before.
use Rattle.std.proofs.Common.{◌≡◌, List, [], ◌∷◌, map, Result, Ok, Err, refl, subst}
use Rattle.cs_base.specs.Answer.{result_then}
use Rattle.analysis.specs.Below.macro_expand.Renaming.{Renaming}
use Rattle.analysis.specs.Below.source_files.Files.{nothing_carried}
use Rattle.analysis.specs.Analysis.{UnitAnalysis, UnitsValue, AnalysisValue, analysis_and, analysed_from}
use Rattle.edited_unit_laws.specs.Lines.{Each}
use Rattle.edited_unit_laws.specs.Keeping.{Change}
use Rattle.edited_unit_laws.specs.Analyses.{IsRead, renamed_unit_analysis, renamed_analysis, ReadsAlike}
use Rattle.edited_unit_laws.proofs.AnalysesLemmas.{analyses_have_texts}
use Rattle.rename_meaning.specs.KeptUnits.{change}
use Rattle.meaning_rows.specs.Clause.{KeptMeaningReadsAlike}

-- two answers of one call are the same
pub one_answer : {A E : Type 0} (r : Result A E) (a b : A) → r ≡ Ok a → r ≡ Ok b → a ≡ b
one_answer r a b h k = cc

-- the value of a step that is done, and that of the step behind it
then_done : {A B E : Type 0} (k : A → Result B E) (m : Result A E) (b : B) → result_then k m ≡ Ok b → (a : A) × (m ≡ Ok a) × (k a ≡ Ok b)
then_done k (Ok a) b h = (a, refl, h)
then_done k (Err e) b h = absurd (cc)

unrenamed : (r : Renaming) (us : List UnitAnalysis) → Each IsRead (map (renamed_unit_analysis r) us) → Each (ReadsAlike r) us
unrenamed r [] h = tt
unrenamed r (u ∷ us) h = (h.0, unrenamed r us h.1)

pub kept_meaning_reads_alike : KeptMeaningReadsAlike
kept_meaning_reads_alike now ws a members name h =
    let c : Change = change a members name in
    let done = then_done _ (analysed_from now 1 ws.units nothing_carried) (renamed_analysis c a) h in
    let v : UnitsValue = done.0 in
    let whole : analysis_and ws v.units v.table ≡ renamed_analysis c a = one_answer _ (analysis_and ws v.units v.table) (renamed_analysis c a) refl done.2 in
    let read : Each IsRead v.units = (analyses_have_texts now 1 ws.units nothing_carried v done.1).1.0 in
    unrenamed c.renaming a.units (subst (λ (x : AnalysisValue). Each IsRead x.units) whole read)
