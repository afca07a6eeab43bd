-- The tokens of the units of an analysis are counted from unit to unit.
use Rattle.std.proofs.Common.{◌≡◌, ◌≤◌, ◌+◌, ◌-◌, ◌^◌, ℕ, min, List, [], ◌∷◌, None, Ok, Err, length, refl, ap, arith}
use Rattle.std.specs.Prelude.{All}
use Rattle.std.proofs.lemmas.List.Elements.{All-head, All-tail}
use Rattle.cs_base.specs.declared.ws_units.Standard.{Standard}
use Rattle.cs_base.specs.Token.{Token}
use Rattle.cs_base.specs.Units.{UnitValue, IsUnit}
use Rattle.cs_base.proofs.AnswerLemmas.{map_err_ok as unmapped}
use Rattle.lexer.specs.FileText.{file_text}
use Rattle.include_tree.specs.Below.source_files.Limits.{the_limits}
use Rattle.include_tree.specs.Below.source_files.Faults.{Fault}
use Rattle.include_tree.specs.Below.source_files.Files.{Source, Table, Carried, nothing_carried, found_at, defines_path}
use Rattle.include_tree.specs.Below.unit_steps.State.{Outcome, State, context}
use Rattle.include_tree.specs.Unit.{unit_outcome}
use Rattle.include_tree.specs.Below.unit_steps.Texts.{UnitTextValue}
use Rattle.include_tree.specs.Preprocessed.{Preprocessed, preprocessed, preprocessed_by}
use Rattle.include_tree.specs.Laws.{IfDone, UnitEnds}
use Rattle.include_tree.proofs.WalkLemmas.{units_end}
use Rattle.c99_tree.specs.Tree.{Node}
use Rattle.analysis.specs.Analysis.{UnitAnalysis, UnitsValue, AnalysisValue, unit_analysis, analysis_and, with_unit, read_unit, bound_unit, unit_read, analysed_from}
use Rattle.analysis.specs.Carrying.{IsFresh}
use Rattle.analysis.specs.Texts.{UnitFault, unit_fault, unit_with}
use Rattle.analysis.proofs.CarryLemmas.{fresh_first, fresh_on}
use Rattle.analysis.specs.Counts.{tokens_in, TokensAreFew}
use Rattle.analysis.proofs.MadeLemmas.{ok_holds, done_first}

-- what a unit adds to the count
abbrev Counts : ℕ → Preprocessed → Type 0
Counts earlier p = (p.after.toks ≡ earlier + length p.text.toks) × (p.after.toks ≤ 2 ^ 27)

counted_by : (earlier : ℕ) (o : Outcome (List Token)) (p : Preprocessed) → earlier ≤ 2 ^ 27
    → IfDone (λ toks t. length toks ≤ min (2 ^ 22) (2 ^ 27 - earlier)) o → preprocessed_by earlier o ≡ Ok p → Counts earlier p
counted_by earlier (Ok d) p few less e = ok_holds {E = Fault} (λ q. Counts earlier q) _ p e (refl, omega arith)
counted_by earlier (Err fault) p few less e = absurd cc

pub few_done : (o : Outcome (List Token)) (P Q : List Token → State → Type 0) → ((toks : List Token) (t : State) → P toks t → Q toks t)
    → IfDone P o → IfDone Q o
few_done (Ok d) P Q next h = next d.value d.state h
few_done (Err fault) P Q next h = tt

unit_counted : (source : Source) (number : ℕ) (unit : UnitValue) (before : Carried) (p : Preprocessed) → before.toks ≤ 2 ^ 27
    → found_at (defines_path number) before.table ≡ None → preprocessed source number unit before ≡ Ok p → Counts before.toks p
unfolding preprocessed
unit_counted source number unit before p few none e =
    counted_by before.toks (unit_outcome the_limits file_text source number unit before) p few
    (few_done (unit_outcome the_limits file_text source number unit before) _ _
    (λ toks t (ends : UnitEnds (context source file_text unit the_limits before.toks) before.table (length toks) t). ends.few)
    (units_end the_limits file_text source number unit before none)) e

-- a unit that is read and bound keeps its text
bound_text : (standard : Standard) (table : Table) (path : List ℕ) (text : UnitTextValue) (tree : Node) (u : UnitAnalysis) → bound_unit standard table path text tree ≡ Ok u → u.text ≡ text
bound_text standard table path text tree u e =
    let bound = done_first _ (λ bound. Ok (unit_analysis standard text tree bound)) u e in
    ok_holds {E = Fault} (λ (v : UnitAnalysis). v.text ≡ text) (unit_analysis standard text tree bound.0) u bound.2 refl

read_text : (standard : Standard) (table : Table) (path : List ℕ) (text : UnitTextValue) (u : UnitAnalysis) → read_unit standard table path text ≡ Ok u → u.text ≡ text
read_text standard table path text u e =
    let tree = done_first _ (bound_unit standard table path text) u e in
    bound_text standard table path text tree.0 u tree.2

units_few : (source : Source) (number : ℕ) (units : List UnitValue) (before : Carried) (v : UnitsValue) → All IsUnit units
    → number + length units ≤ 2 ^ 32 → IsFresh number before.table → before.toks ≤ 2 ^ 27
    → analysed_from source number units before ≡ Ok v → before.toks + tokens_in v.units ≤ 2 ^ 27
unfolding analysed_from
units_few source number [] before v are small fresh few e =
    ok_holds {E = UnitFault} (λ (u : UnitsValue). before.toks + tokens_in u.units ≤ 2 ^ 27) _ v e (omega arith)
units_few source number (unit ∷ units) before v are small fresh few e =
    let p = done_first (unit_with source number unit before) _ v e in
    let u = done_first (unit_read unit.standard number unit.path p.0) _ v p.2 in
    let later = done_first (analysed_from source (number + 1) units p.0.after) _ v u.2 in
    let done = unmapped (preprocessed source number unit before) (unit_fault number) p.0 p.1 in
    let counts = unit_counted source number unit before p.0 few (fresh number (omega arith) (omega arith)) done in
    let text = read_text unit.standard p.0.after.table unit.path p.0.text u.0 (unmapped (read_unit unit.standard p.0.after.table unit.path p.0.text) (unit_fault number) u.0 u.1) in
    let same : length u.0.text.toks ≡ length p.0.text.toks = ap (λ (t : UnitTextValue). length t.toks) text in
    let rest = units_few source (number + 1) units p.0.after later.0 (All-tail IsUnit unit units are) (omega arith)
    (fresh_on source number unit before p.0 (All-head IsUnit unit units are) (omega arith) fresh done) counts.1 later.1 in
    ok_holds {E = UnitFault} (λ (w : UnitsValue). before.toks + tokens_in w.units ≤ 2 ^ 27) (with_unit u.0 later.0) v later.2
    (let c = counts.0 in omega arith)

pub tokens_are_few : TokensAreFew
tokens_are_few source ws a is e =
    let all = done_first (analysed_from source 1 ws.units nothing_carried) _ a e in
    let small = is.are_few in
    let few = units_few source 1 ws.units nothing_carried all.0 is.are_units (omega arith) (fresh_first 1) (omega arith) all.1 in
    ok_holds {E = UnitFault} (λ (b : AnalysisValue). tokens_in b.units ≤ 2 ^ 27) (analysis_and ws all.0.units all.0.table) a all.2 (omega arith)
