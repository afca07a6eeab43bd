-- One answer, or one refusal.
use Rattle.std.specs.Prelude.{Option, Result, Ok, Err, IfSome}

-- The call returned an answer that is allowed, its value or its refusal, unless memory ran out: `fault_of` is none for
-- want of memory alone.
abbrev pub GivesOne : {X Y E F : Type 0} → (X → Y) → (E → Option F) → Result X E → (Result Y F → Type 0) → Type 0
GivesOne view fault_of (Ok x) IsAnswer = IsAnswer (Ok (view x))
GivesOne view fault_of (Err e) IsAnswer = IfSome (fault_of e) (λ fault. IsAnswer (Err fault))
