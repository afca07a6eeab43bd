-- The answer of one unit, with its number.
use Rattle.std.proofs.Common.{◌≡◌, ℕ, zero, suc, ◌+◌, ◌-◌, ◌<◌, ◌≤◌, ◌^◌, List, length, get_or, Option, None, Some, Result, Ok, Err, refl, ap, arith}
use Rattle.std.specs.Prelude.{IfSome, OnOk}
use Rattle.std.specs.Option.{option_map}
use Rattle.cs_base.specs.Answer.{Gives, result_then, result_map_err}
use Rattle.cs_base.specs.Units.{UnitValue, IsUnit}
use Rattle.cs_base.proofs.ListLemmas.{read_at as slice_get-at}
use Rattle.include_tree.specs.Below.source_files.declared.pre_fault.PreFault.{PreFault}
use Rattle.include_tree.specs.Below.source_files.declared.pre_fault.PreFault.TheVariants as unit
use Rattle.include_tree.specs.Below.source_files.Answers as pre
use Rattle.include_tree.specs.Below.source_files.Faults.{Fault}
use Rattle.include_tree.specs.Below.source_files.Files.{Source, Carried, nothing_carried}
use Rattle.include_tree.specs.Below.unit_steps.Texts.{UnitTextValue}
use Rattle.include_tree.specs.Preprocessed.{Preprocessed, with_text, preprocessed}
use Rattle.include_tree.specs.Below.source_files.Tables.{AreFound, HasEachOnce}
use Rattle.include_tree.proofs.Below.source_files.AgreeLemmas.{some_source}
use Rattle.analysis.specs.declared.analyse_fault.AnalyseFault.{AnalyseFault}
use Rattle.analysis.specs.declared.analyse_fault.AnalyseFault.TheVariants as answer
use Rattle.analysis.specs.Texts.{UnitFault, unit_fault, unit_with, unit_at, alone, one_text_of}
use Rattle.analysis.specs.Answers.{fault_of, reads_of}
use Rattle.analysis.specs.Carrying.{IsFresh, in_unit}
use Rattle.analysis.proofs.CarryLemmas.{fresh_on}

pub gives_in : {X Y : Type 0} (view : X → Y) (number : ℕ) (r : Result X PreFault) (expected : Result Y Fault) → Gives view pre.fault_of r expected
    → Gives view fault_of (result_map_err (in_unit number) r) (result_map_err (unit_fault number) expected)
gives_in view number (Ok x) expected h = ap (result_map_err (unit_fault number)) h
gives_in view number (Err (unit.Fault place cause)) expected h = ap (result_map_err (unit_fault number)) h
gives_in view number (Err (unit.ReadFault path)) expected h = tt
gives_in view number (Err unit.Memory) expected h = tt

-- the refusal of a unit says of reads what that with its number says
pub reads_in : {X : Type 0} (number : ℕ) (r : Result X PreFault) → pre.reads_of r ≡ reads_of (result_map_err (in_unit number) r)
reads_in number (Ok x) = refl
reads_in number (Err (unit.Fault place cause)) = refl
reads_in number (Err (unit.ReadFault path)) = refl
reads_in number (Err unit.Memory) = refl

-- what was not met behind a unit, by the answer over some source that agrees with what is carried then
pub fresh_in : (number : ℕ) (u : UnitValue) (before after : Carried) (r : Result UnitTextValue PreFault) → IsUnit u → number < 2 ^ 32 → HasEachOnce after.table
    → IsFresh number before.table → ((source : Source) → AreFound source after.table → Gives (with_text after) pre.fault_of r (preprocessed source number u before))
    → OnOk (result_map_err (in_unit number) r) (IsFresh (number + 1) after.table)
fresh_in number u before after (Ok text) is few once fresh h =
    let some : (source : Source) × AreFound source after.table = some_source after.table once in
    fresh_on some.0 number u before (with_text after text) is few fresh (h some.0 some.1)
fresh_in number u before after (Err e) is few once fresh h = tt

-- the text alone
gives_text : (after : Carried) (r : Result UnitTextValue AnalyseFault) (expected : Result Preprocessed UnitFault) → Gives (with_text after) fault_of r expected
    → Gives (λ t. t) fault_of r (result_then (λ p. Ok p.text) expected)
gives_text after (Ok text) expected h = ap (result_then (λ (p : Preprocessed). Ok p.text)) h
gives_text after (Err (answer.WorkspaceFault number place cause)) expected h = ap (result_then (λ (p : Preprocessed). Ok p.text)) h
gives_text after (Err (answer.ReadFault path)) expected h = tt
gives_text after (Err answer.Memory) expected h = tt

unit_at-is : (units : List UnitValue) (number : ℕ) (u : UnitValue) → 1 ≤ number → number ≤ length units → u ≡ get_or units (number - 1) u
    → unit_at units number ≡ Some u
unit_at-is units zero u first last is = absurd (omega (arith, first))
unit_at-is units (suc k) u first last is =
    let n : suc k - 1 ≡ k = omega arith in
    slice_get-at units k u (omega (arith, last)) (rw n at is)

one_at : (source : Source) (number : ℕ) (u : UnitValue) (after : Carried) (r : Result UnitTextValue AnalyseFault) (o : Option UnitValue) → o ≡ Some u
    → Gives (with_text after) fault_of r (unit_with source number u nothing_carried)
    → IfSome o (λ v. Gives (λ t. t) fault_of r (alone source number v))
one_at source number u after r None e h = tt
one_at source number u after r (Some v) e h =
    let same : v ≡ u = cc in rw same (gives_text after r (unit_with source number u nothing_carried) h)

some_map : {X Y : Type 0} (f : X → Y) (P : Y → Type 0) (o : Option X) → IfSome o (λ x. P (f x)) → IfSome (option_map f o) P
some_map f P None h = tt
some_map f P (Some x) h = h

-- the answer of one unit by itself
pub gives_one : (source : Source) (units : List UnitValue) (number : ℕ) (u : UnitValue) (after : Carried) (r : Result UnitTextValue AnalyseFault)
    → 1 ≤ number → number ≤ length units → u ≡ get_or units (number - 1) u
    → Gives (with_text after) fault_of r (unit_with source number u nothing_carried)
    → IfSome (one_text_of source units number) (λ expected. Gives (λ t. t) fault_of r expected)
gives_one source units number u after r first last is h =
    some_map (alone source number) (λ expected. Gives (λ t. t) fault_of r expected) (unit_at units number)
    (one_at source number u after r (unit_at units number) (unit_at-is units number u first last is) h)

-- want of memory says nothing of it
pub memory_one : (o : Option (Result UnitTextValue UnitFault)) → IfSome o (λ expected. Gives (λ (t : UnitTextValue). t) fault_of (Err answer.Memory) expected)
memory_one None = tt
memory_one (Some expected) = tt
