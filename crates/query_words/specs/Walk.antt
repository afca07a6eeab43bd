-- What a query says of something, where it is known what it says if it is one.
use Rattle.std.specs.Prelude.{Bool, Result, Ok}
use Rattle.cs_base.specs.Answer.{result_then}
use Rattle.query_words.specs.declared.faults.QueryFault.{QueryFault}
use Rattle.query_words.specs.Queries.{Query}

-- a whole query, valued
abbrev pub decided : (Query → Bool) → Result Query QueryFault → Result Bool QueryFault
decided v r = result_then (λ (q : Query). Ok (v q)) r
