-- Answers to a query over classes: the lines of what is found, or the fault of the query.
use Rattle.std.proofs.Common.{◌≡◌, ℕ, List, Result, Ok, Err, refl, sym, subst}
use Rattle.analysis.specs.Analysis.{AnalysisValue}
use Rattle.query_words.specs.Queries.{Query}
use Rattle.query_words.specs.Reading.{parsed}
use Rattle.query_words.specs.declared.faults.QueryFault.{QueryFault}
use Rattle.query_words.specs.declared.faults.QueryFault.TheVariants.{Bad, Deep}
use Rattle.find_names.specs.Found.{PrintsFound, Refuses}
use Rattle.find_names.specs.declared.refusal.FindRefusal.{FindRefusal}
use Rattle.find_names.specs.declared.refusal.FindRefusal.TheVariants.{BadQuery, TooDeep, Memory}
use Rattle.cscout_run.specs.Asks.{IsFindAnswer, query_fault_line}
use Rattle.cscout_run.specs.Shapes.{Answer, shown, stopped}
use Rattle.cscout_run.specs.declared.status.Status.TheVariants.{Refused}
use Rattle.cscout_run.specs.Steps.{Tells, find_stop}

pub found_text : (value : AnalysisValue) (read : Result Query QueryFault) (q : Query) (text : List ℕ) → read ≡ Ok q → PrintsFound value q text
    → IsFindAnswer value read (shown text)
found_text value read q text is prints = subst (λ (r : Result Query QueryFault). IsFindAnswer value r (shown text)) (sym is) (text, prints, refl)

-- a refusal is told with the line of its fault
pub find_tells : {X : Type 0} (answer : X → Answer) (value : AnalysisValue) (query : List ℕ) (refusal : FindRefusal) → Refuses query refusal
    → Tells {X = X} answer (IsFindAnswer value (parsed query)) (Err (find_stop refusal))
find_tells answer value query (BadQuery at) is =
    let told : Answer = stopped Refused (query_fault_line (Bad at)) in
    subst (λ (r : Result Query QueryFault). IsFindAnswer value r told) (sym is) refl
find_tells answer value query (TooDeep at) is =
    let told : Answer = stopped Refused (query_fault_line (Deep at)) in
    subst (λ (r : Result Query QueryFault). IsFindAnswer value r told) (sym is) refl
find_tells answer value query Memory is = tt
