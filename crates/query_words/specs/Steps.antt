-- Queries as steps on a row of values, and what the functions that make and take these steps promise each other.
use Rattle.std.specs.Prelude.{ℕ, ◌-◌, ◌≡◌, ◌&&◌, ◌||◌, Bool, false, not, nat_le, Result, Ok, Err, List, [], ◌∷◌, ◌++◌, length, take, slice_index_or}
use Rattle.query_words.specs.declared.attributes.Facts.{Facts}
use Rattle.query_words.specs.declared.compiled.Compiled.{Compiled}
use Rattle.query_words.specs.declared.faults.QueryFault.{QueryFault}
use Rattle.query_words.specs.declared.faults.QueryRefusal.{QueryRefusal}
use Rattle.query_words.specs.declared.faults.QueryRefusal.TheVariants.{Fault, Memory}
use Rattle.query_words.specs.declared.steps.Step.{Step}
use Rattle.query_words.specs.declared.steps.Step.TheVariants.{Has, Spelled, Negate, And, Or}
use Rattle.query_words.specs.Attributes.{has}
use Rattle.query_words.specs.Grammar.{IsRead}
use Rattle.query_words.specs.Patterns.{matches}
use Rattle.query_words.specs.Queries.{Query, value}
use Rattle.query_words.specs.Reading.{Read, parsed, read}

-- ---- rows of values

abbrev pub put : List Bool → Bool → List Bool
put values b = values ++ b ∷ []

-- the last value of a row
abbrev pub last_of : List Bool → Bool
last_of values = slice_index_or values (length values - 1) false

-- those before it
abbrev pub front_of : List Bool → List Bool
front_of values = take (length values - 1) values

-- the row that a step makes of a row
abbrev pub step_on : Facts → List ℕ → List Bool → Step → List Bool
step_on facts spelling values (Has attribute) = put values (has facts attribute)
step_on facts spelling values (Spelled p) =
    put values (nat_le p.least (length spelling) && matches p.bytes.items spelling)
step_on facts spelling values Negate = put (front_of values) (not (last_of values))
step_on facts spelling values And = put (front_of (front_of values)) (last_of (front_of values) && last_of values)
step_on facts spelling values Or = put (front_of (front_of values)) (last_of (front_of values) || last_of values)

-- the row that steps make of a row
unfoldable pub run : Facts → List ℕ → List Step → List Bool → List Bool
run facts spelling [] values = values
run facts spelling (step ∷ steps) values = run facts spelling steps (step_on facts spelling values step)

-- ---- steps of queries

-- the step asks for a pattern
abbrev pub IsSpelled : List ℕ → Step → Type 0
IsSpelled pattern step =
    (facts : Facts) (spelling : List ℕ) (values : List Bool)
    → step_on facts spelling values step ≡ put values (matches pattern spelling)

-- Steps behind others put the value of a query behind what the others make.
pub record Runs (old new : List Step) (q : Query) : Type 0 where
  pub runs : (facts : Facts) (spelling : List ℕ) (values : List Bool)
      → run facts spelling new values ≡ put (run facts spelling old values) (value facts spelling q)

-- What was read are steps now, behind others, up to a place.
pub record IsCompiled (r : Result Read QueryFault) (old new : List Step) (next : ℕ) : Type 0 where
  pub query : Query
  pub is : r ≡ Ok (read query next)
  pub runs : Runs old new query

-- What was read has this fault, if it is one.
abbrev pub IsFault : {X : Type 0} → Result X QueryFault → QueryRefusal → Type 0
IsFault r (Fault fault) = r ≡ Err fault
IsFault r Memory = Unit {0}

-- The word has this fault by the grammar alone, if it is one.
abbrev pub IsFaultRead : List ℕ → QueryRefusal → Type 0
IsFaultRead query (Fault fault) = IsRead query (Err fault)
IsFaultRead query Memory = Unit {0}

-- The compiled query says of all attributes and spellings what the query says.
pub record Means (q : Query) (compiled : Compiled) : Type 0 where
  pub says : (facts : Facts) (spelling : List ℕ)
      → run facts spelling compiled.steps.items [] ≡ value facts spelling q ∷ []

-- The compiled query is that of a word.
pub record IsOf (text : List ℕ) (compiled : Compiled) : Type 0 where
  pub query : Query
  pub is : parsed text ≡ Ok query
  pub means : Means query compiled
