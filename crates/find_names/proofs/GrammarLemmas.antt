-- What is found by a word, by the grammar alone.
use Rattle.std.specs.Prelude.{ℕ, ◌≡◌, Option, Some, None, List, Result, Ok, Err, IfErr, IfOk, IfSome}
use Rattle.std.proofs.Common.{subst}
use Rattle.analysis.specs.Analysis.{AnalysisValue}
use Rattle.query_words.specs.declared.faults.QueryFault.{QueryFault}
use Rattle.query_words.specs.Grammar.{Alternatives, Derives, IsRead}
use Rattle.query_words.specs.Queries.{Query}
use Rattle.query_words.specs.Reading.{depth_limit, parsed}
use Rattle.query_words.proofs.GrammarLemmas.{derives_of_parsed, parsed_is_read}
use Rattle.find_names.specs.declared.refusal.FindRefusal.{FindRefusal}
use Rattle.find_names.specs.declared.refusal.FindRefusal.TheVariants.{BadQuery, TooDeep, Memory}
use Rattle.find_names.specs.Found.{PrintsFound, Refuses}
use Rattle.find_names.specs.Refusals.{fault_of}

-- a query that is read is derived
pub derived_lines : (a : AnalysisValue) (query text : List ℕ) → ((q : Query) × (parsed query ≡ Ok q) × PrintsFound a q text)
    → (q : Query) × Derives Alternatives depth_limit query q × PrintsFound a q text
derived_lines a query text found = (found.0, derives_of_parsed query found.0 found.1, found.2)

read_fault : (query : List ℕ) (fault : QueryFault) → parsed query ≡ Err fault → IsRead query (Err fault)
read_fault query fault is = subst (IsRead query) is (parsed_is_read query)

pub fault_is_read : (query : List ℕ) (refusal : FindRefusal) → Refuses query refusal
    → IfSome (fault_of refusal) (λ fault. IsRead query (Err fault))
fault_is_read query (BadQuery at) refused = read_fault query _ refused
fault_is_read query (TooDeep at) refused = read_fault query _ refused
fault_is_read query Memory refused = refused

pub answer_is_read : {X : Type 0} (query : List ℕ) (r : Result X FindRefusal) → IfErr r (Refuses query)
    → IfErr r (λ refusal. IfSome (fault_of refusal) (λ fault. IsRead query (Err fault)))
answer_is_read query (Ok x) refused = refused
answer_is_read query (Err refusal) refused = fault_is_read query refusal refused
