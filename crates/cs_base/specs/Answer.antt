-- How the answer of a call is tied to the definition of its layer.
use Rattle.std.specs.Prelude.{◌≡◌, Option, Result, Ok, Err, IfSome}

-- The call returned what the definition gives, its value or its first fault, unless memory ran out:
-- `fault_of` is none for want of memory alone.
abbrev pub Gives : {X Y E F : Type 0} → (X → Y) → (E → Option F) → Result X E → Result Y F → Type 0
Gives view fault_of (Ok x) expected = expected ≡ Ok (view x)
Gives view fault_of (Err e) expected = IfSome (fault_of e) (λ fault. expected ≡ Err fault)

-- what the next step makes of the value, or the fault
abbrev pub result_then : {X Y F : Type 0} → (X → Result Y F) → Result X F → Result Y F
result_then next (Ok x) = next x
result_then next (Err fault) = Err fault

-- the value, or another fault made of this one
abbrev pub result_map_err : {X F G : Type 0} → (F → G) → Result X F → Result X G
result_map_err change (Ok x) = Ok x
result_map_err change (Err fault) = Err (change fault)
