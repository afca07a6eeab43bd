-- Accepted units, one unit at a time.
use Rattle.std.proofs.Common.{◌≡◌, ℕ, ◌+◌, ◌<◌, ◌≤◌, List, [], ◌∷◌, ◌++◌, length, get_or, drop, Option, None, Some, Result, Ok, Err, refl, sym, ◌∙◌, ap, subst, append_assoc, length-append, arith}
use Rattle.std.specs.Prelude.{IfSome, IfOk, OnOk}
use Rattle.std.proofs.lemmas.List.{at_drop_more, at_drop_all, append-nil}
use Rattle.cs_base.specs.Answer.{Gives, result_then}
use Rattle.cs_base.specs.Outside.{FileMap}
use Rattle.cs_base.specs.Units.{UnitValue}
use Rattle.ws_file.specs.Workspace.{WorkspaceValue}
use Rattle.include_tree.specs.Below.source_files.Files.{Source, Table, Carried, nothing_carried}
use Rattle.include_tree.specs.Preprocessed.{with_text, Preprocessed}
use Rattle.include_tree.specs.Below.unit_steps.Texts.{UnitTextValue}
use Rattle.analysis.specs.Texts.{UnitFault, unit_with}
use Rattle.analysis.specs.Analysis.{UnitAnalysis, UnitsValue, units_and, with_unit, unit_read, analysed_from, AnalysisValue, analysis_and, analysis_of}
use Rattle.analysis.specs.declared.analyse_fault.AnalyseFault.{AnalyseFault}
use Rattle.analysis.specs.declared.analyse_fault.AnalyseFault.TheVariants as answer
use Rattle.analysis.specs.Answers.{fault_of}
use Rattle.analysis.specs.Analysed.{Analysed}
use Rattle.analysis.specs.AnalysisAnswers.{IsAnalysedOr}
use Rattle.analysis.specs.Carrying.{IsOver}
use Rattle.analysis.specs.Accepting.{passed, passed_with, units_of}

-- units, and then later ones
abbrev pub behind : List UnitAnalysis → Result UnitsValue UnitFault → Result UnitsValue UnitFault
behind all (Ok later) = Ok (units_and (all ++ later.units) later.table)
behind all (Err fault) = Err fault

behind-none : (r : Result UnitsValue UnitFault) → behind [] r ≡ r
behind-none (Ok later) = refl
behind-none (Err fault) = refl

behind-front : (all : List UnitAnalysis) (u : UnitAnalysis) (r : Result UnitsValue UnitFault)
    → behind all (result_then (λ later. Ok (with_unit u later)) r) ≡ behind (all ++ u ∷ []) r
behind-front all u (Ok later) =
    ap (λ (units : List UnitAnalysis). Ok (units_and units later.table)) (sym (append_assoc all (u ∷ []) later.units))
behind-front all u (Err fault) = refl

pub length-more : (all now : List UnitAnalysis) (u : UnitAnalysis) (i : ℕ) → now ≡ all ++ u ∷ [] → length all ≡ i → length now ≡ i + 1
length-more all now u i is each = rw is (omega (arith, length-append all (u ∷ []), each))

-- a unit that is read, in front of the later ones
in_front : (later : Carried → Result UnitsValue UnitFault) (after : Carried) (r : Result UnitAnalysis UnitFault)
    → result_then (λ u. result_then (λ l. Ok (with_unit u l)) (later after)) r
    ≡ result_then (λ p. result_then (λ l. Ok (with_unit p.unit l)) (later p.after)) (result_then (λ u. Ok (passed after u)) r)
in_front later after (Ok u) = refl
in_front later after (Err fault) = refl

-- the first unit, and then the later ones
passed_first : (later : Carried → Result UnitsValue UnitFault) (read : Preprocessed → Result UnitAnalysis UnitFault) (pre : Result Preprocessed UnitFault)
    → result_then (λ p. result_then (λ u. result_then (λ l. Ok (with_unit u l)) (later p.after)) (read p)) pre
    ≡ result_then (λ p. result_then (λ l. Ok (with_unit p.unit l)) (later p.after)) (result_then (λ p. result_then (λ u. Ok (passed p.after u)) (read p)) pre)
passed_first later read (Ok p) = in_front later p.after (read p)
passed_first later read (Err fault) = refl

-- no unit was taken yet
pub rest_first : (source : Source) (units : List UnitValue) (before : Carried) → before ≡ nothing_carried
    → behind [] (analysed_from source (0 + 1) (drop 0 units) before) ≡ units_of source units
rest_first source units before is = rw is (behind-none (analysed_from source 1 units nothing_carried))

-- the first unit left has a fault
pub rest_fault : (source : Source) (units : List UnitValue) (i : ℕ) (unit d : UnitValue) (all : List UnitAnalysis) (before : Carried) (named : Option UnitFault)
    → i < length units → unit ≡ get_or units i d
    → behind all (analysed_from source (i + 1) (drop i units) before) ≡ units_of source units
    → IfSome named (λ f. passed_with source (i + 1) unit before ≡ Err f)
    → IfSome named (λ f. units_of source units ≡ Err f)
unfolding analysed_from
rest_fault source units i unit d all before None h p rest step = tt
rest_fault source units i unit d all before (Some f) h p rest step =
    let more = at_drop_more (λ (us : List UnitValue). behind all (analysed_from source (i + 1) us before)) units i d h in
    let now = rw (← p) at more in
    let first = passed_first (λ k. analysed_from source (i + 1 + 1) (drop (i + 1) units) k) (unit_read unit.standard (i + 1) unit.path) (unit_with source (i + 1) unit before) in
    let next = rw step at first in
    sym rest ∙ now ∙ ap (behind all) next

-- the first unit left is accepted
pub rest_more : (source : Source) (units : List UnitValue) (i : ℕ) (unit d : UnitValue) (all now : List UnitAnalysis) (u : UnitAnalysis) (before after : Carried)
    → i < length units → unit ≡ get_or units i d → now ≡ all ++ u ∷ []
    → behind all (analysed_from source (i + 1) (drop i units) before) ≡ units_of source units
    → passed_with source (i + 1) unit before ≡ Ok (passed after u)
    → behind now (analysed_from source (i + 1 + 1) (drop (i + 1) units) after) ≡ units_of source units
unfolding analysed_from
rest_more source units i unit d all now u before after h p is rest step =
    let more = at_drop_more (λ (us : List UnitValue). behind all (analysed_from source (i + 1) us before)) units i d h in
    let head = rw (← p) at more in
    let first = passed_first (λ k. analysed_from source (i + 1 + 1) (drop (i + 1) units) k) (unit_read unit.standard (i + 1) unit.path) (unit_with source (i + 1) unit before) in
    let next = rw step at first in
    rw is (sym (behind-front all u (analysed_from source (i + 1 + 1) (drop (i + 1) units) after)) ∙ sym (ap (behind all) next) ∙ sym head ∙ rest)

-- no unit is left
pub rest_end : (source : Source) (units : List UnitValue) (i : ℕ) (all : List UnitAnalysis) (before : Carried) → length units ≤ i
    → behind all (analysed_from source (i + 1) (drop i units) before) ≡ units_of source units
    → units_of source units ≡ Ok (units_and all before.table)
unfolding analysed_from
rest_end source units i all before h rest =
    sym rest ∙ at_drop_all (λ (us : List UnitValue). behind all (analysed_from source (i + 1) us before)) units i h
    ∙ ap (λ (units : List UnitAnalysis). Ok (units_and units before.table)) (append-nil all)

-- ---- the workspace

pub analysed-done : (source : Source) (ws : WorkspaceValue) (all : UnitsValue) → units_of source ws.units ≡ Ok all
    → analysis_of source ws ≡ Ok (analysis_and ws all.units all.table)
analysed-done source ws all h = ap (result_then (λ (u : UnitsValue). Ok (analysis_and ws u.units u.table))) h

pub analysed-fault : (source : Source) (ws : WorkspaceValue) (named : Option UnitFault) → IfSome named (λ f. units_of source ws.units ≡ Err f)
    → IfSome named (λ f. analysis_of source ws ≡ Err f)
analysed-fault source ws None h = tt
analysed-fault source ws (Some f) h = ap (result_then (λ (u : UnitsValue). Ok (analysis_and ws u.units u.table))) h

-- the analysis of units that are accepted
pub analysed-over : (value : AnalysisValue) (r : Result Analysed AnalyseFault) (told : Option FileMap) (table : Table) (ws : WorkspaceValue) → IsAnalysedOr value r
    → value.table ≡ table → IsOver told table (λ source. analysis_of source ws ≡ Ok value)
    → (t : Table) × IfOk r (λ a. a.value.table ≡ t) × IsOver told t (λ source. Gives (λ a. a.value) fault_of r (analysis_of source ws))
analysed-over value (Ok a) told table ws is at over = (
  table,
  ap (λ (v : AnalysisValue). v.table) is.0 ∙ at,
  record { once = over.once; found = over.found; each = λ source found. over.each source found ∙ ap (λ (v : AnalysisValue). Ok v) (sym is.0) },
)
analysed-over value (Err (answer.WorkspaceFault unit place cause)) told table ws is at over = absurd is
analysed-over value (Err (answer.ReadFault path)) told table ws is at over = absurd is
analysed-over value (Err answer.Memory) told table ws is at over =
    (table, tt, record { once = over.once; found = over.found; each = λ source found. tt })

-- ---- one unit

pub on_any : {X E : Type 0} (r : Result X E) (P : Type 0) → P → OnOk r P
on_any (Ok x) P h = h
on_any (Err e) P h = tt

passed-gives : (after : Carried) (r : Result UnitAnalysis AnalyseFault) (expected : Result UnitAnalysis UnitFault) → Gives (λ u. u) fault_of r expected
    → Gives (passed after) fault_of r (result_then (λ u. Ok (passed after u)) expected)
passed-gives after (Ok u) expected h = ap (result_then (λ (v : UnitAnalysis). Ok (passed after v))) h
passed-gives after (Err (answer.WorkspaceFault unit place cause)) expected h = ap (result_then (λ (v : UnitAnalysis). Ok (passed after v))) h
passed-gives after (Err (answer.ReadFault path)) expected h = tt
passed-gives after (Err answer.Memory) expected h = tt

-- a unit that is read and bound behind its text
pub passed-read : (source : Source) (number : ℕ) (unit : UnitValue) (before after : Carried) (text : UnitTextValue) (r : Result UnitAnalysis AnalyseFault)
    → unit_with source number unit before ≡ Ok (with_text after text) → Gives (λ u. u) fault_of r (unit_read unit.standard number unit.path (with_text after text))
    → Gives (passed after) fault_of r (passed_with source number unit before)
passed-read source number unit before after text r is h =
    subst (λ (x : Result Preprocessed UnitFault). Gives (passed after) fault_of r (result_then (λ p. result_then (λ u. Ok (passed p.after u)) (unit_read unit.standard number unit.path p)) x)) (sym is)
    (passed-gives after r (unit_read unit.standard number unit.path (with_text after text)) h)

-- one that has no text
pub passed-fault : (source : Source) (number : ℕ) (unit : UnitValue) (before : Carried) (named : Option UnitFault) → IfSome named (λ f. unit_with source number unit before ≡ Err f)
    → IfSome named (λ f. passed_with source number unit before ≡ Err f)
passed-fault source number unit before None h = tt
passed-fault source number unit before (Some f) h = ap (result_then (λ (p : Preprocessed). result_then (λ u. Ok (passed p.after u)) (unit_read unit.standard number unit.path p))) h
