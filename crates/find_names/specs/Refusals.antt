-- Refusals of a query, and the faults that they tell.
use Rattle.std.specs.Prelude.{Option, Some, None}
use Rattle.query_words.specs.declared.faults.QueryFault.{QueryFault}
use Rattle.query_words.specs.declared.faults.QueryFault.TheVariants.{Bad, Deep}
use Rattle.query_words.specs.declared.faults.QueryRefusal.{QueryRefusal}
use Rattle.query_words.specs.declared.faults.QueryRefusal.TheVariants.{Fault}
use Rattle.query_words.specs.declared.faults.QueryRefusal.TheVariants.{Memory as NoMemory}
use Rattle.find_names.specs.declared.refusal.FindRefusal.{FindRefusal}
use Rattle.find_names.specs.declared.refusal.FindRefusal.TheVariants.{BadQuery, TooDeep, Memory}

abbrev pub refusal_of : QueryRefusal → FindRefusal
refusal_of (Fault (Bad at)) = BadQuery at
refusal_of (Fault (Deep at)) = TooDeep at
refusal_of NoMemory = Memory

-- none for want of memory
abbrev pub fault_of : FindRefusal → Option QueryFault
fault_of (BadQuery at) = Some (Bad at)
fault_of (TooDeep at) = Some (Deep at)
fault_of Memory = None
