-- One step behind another, where there is no fault.
use Rattle.std.proofs.Common.{Bool, true, false, cond, List, Ok, Err}
use Rattle.source_files.specs.Faults.{Fault}
use Rattle.unit_steps.specs.Notes.{Note}
use Rattle.unit_steps.specs.State.{State, Outcome, noted, onward}
use Rattle.include_tree.specs.Laws.{IfDone}

pub noted_done : {A : Type 0} (P : A → State → Type 0) (notes : List Note) (m : Outcome A) → IfDone P m → IfDone P (noted notes m)
noted_done P notes (Ok d) h = h
noted_done P notes (Err found) h = tt

-- what holds of the first step, and then of the next
pub onward_done : {A B : Type 0} (P : A → State → Type 0) (Q : B → State → Type 0) (m : Outcome A) (next : A → State → Outcome B)
    → IfDone P m → ((a : A) (s : State) → P a s → IfDone Q (next a s)) → IfDone Q (onward m next)
onward_done P Q (Ok d) next h k = noted_done Q d.notes (next d.value d.state) (k d.value d.state h)
onward_done P Q (Err found) next h k = tt

-- a test that is passed
pub test_done : {A : Type 0} (P : A → State → Type 0) (b : Bool) (found : Fault) (y : Outcome A) → IfDone P y → IfDone P (cond b (Err found) y)
test_done P true found y k = tt
test_done P false found y k = k

pub cond_done : {A : Type 0} (P : A → State → Type 0) (b : Bool) (x y : Outcome A) → IfDone P x → IfDone P y → IfDone P (cond b x y)
cond_done P true x y h k = h
cond_done P false x y h k = k
