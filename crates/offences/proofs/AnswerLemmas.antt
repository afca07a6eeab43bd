-- One answer or one refusal, where what it is follows from something else.
use Rattle.std.proofs.Common.{Option, Some, None, Result, Ok, Err}
use Rattle.std.specs.Prelude.{IfSome}
use Rattle.offences.specs.Answers.{GivesOne}

if_some : {F : Type 0} (o : Option F) (P Q : F → Type 0) → ((x : F) → P x → Q x) → IfSome o P → IfSome o Q
if_some None P Q f h = tt
if_some (Some x) P Q f h = f x h

pub gives_also : {X Y E F : Type 0} (view : X → Y) (fault_of : E → Option F) (P Q : Result Y F → Type 0) → ((r : Result Y F) → P r → Q r)
    → (r : Result X E) → GivesOne view fault_of r P → GivesOne view fault_of r Q
gives_also view fault_of P Q f (Ok x) h = f (Ok (view x)) h
gives_also view fault_of P Q f (Err e) h = if_some (fault_of e) (λ x. P (Err x)) (λ x. Q (Err x)) (λ x. f (Err x)) h
