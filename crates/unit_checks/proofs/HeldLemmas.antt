-- What is so over what the files hold, and what is told of reads.
use Rattle.std.proofs.Common.{◌≡◌, Option, Some, None, Result, Ok, Err, refl, subst, sym}
use Rattle.std.specs.Prelude.{IfOk, IsErrAnd}
use Rattle.cs_base.specs.Outside.{FileMap, FilesTold, NoneFailed, ReadsOnly}
use Rattle.include_tree.specs.Below.source_files.Answers as pre
use Rattle.include_tree.specs.Below.source_files.Files.{Source, source_of}
use Rattle.include_tree.specs.Below.source_files.declared.pre_fault.PreFault.{PreFault}
use Rattle.include_tree.specs.Below.source_files.declared.pre_fault.PreFault.TheVariants as before
use Rattle.unit_checks.specs.declared.check_fault.CheckFault.{CheckFault}
use Rattle.unit_checks.specs.declared.check_fault.CheckFault.TheVariants as end
use Rattle.unit_checks.specs.Answers.{OverHeld, fault_reads, reads_of}
use Rattle.unit_checks.specs.Findings.{fault_finding}

-- what is so over what the files hold, step by step
pub held_then : (told : Option FileMap) (P Q : Source → Type 0) → OverHeld told P → ((source : Source) → P source → Q source) → OverHeld told Q
held_then None P Q p next = tt
held_then (Some held) P Q p next = next (source_of held) p

pub held_both : (told : Option FileMap) (P Q R : Source → Type 0) → OverHeld told P → OverHeld told Q → ((source : Source) → P source → Q source → R source)
    → OverHeld told R
held_both None P Q R p q next = tt
held_both (Some held) P Q R p q next = next (source_of held) p q

pub held_all : (told : Option FileMap) (P : Source → Type 0) → ((source : Source) → P source) → OverHeld told P
held_all None P all = tt
held_all (Some held) P all = all (source_of held)

-- ---- an error that is handed on

pub handed_held : {X : Type 0} (told : Option FileMap) (P : Source → X → Type 0) (fault : CheckFault) (result : Result X CheckFault)
    → IsErrAnd result (λ e. e ≡ fault) → OverHeld told (λ source. IfOk result (P source))
handed_held told P fault (Ok x) same = absurd same
handed_held told P fault (Err e) same = held_all told (λ source. IfOk (Err e) (P source)) (λ source. tt)

pub handed_reads : {X : Type 0} (a b : FilesTold) (fault : CheckFault) (result : Result X CheckFault) → IsErrAnd result (λ e. e ≡ fault)
    → ReadsOnly a b (fault_reads fault) → ReadsOnly a b (reads_of result)
handed_reads a b fault (Ok x) same reads = absurd same
handed_reads a b fault (Err e) same reads = subst (λ (f : CheckFault). ReadsOnly a b (fault_reads f)) (sym same) reads

-- want of memory, where no read failed
pub memory_reads : {X : Type 0} (a b : FilesTold) (result : Result X CheckFault) → IsErrAnd result (λ e. e ≡ end.Memory) → ReadsOnly a b NoneFailed
    → ReadsOnly a b (reads_of result)
memory_reads a b result same reads =
    handed_reads a b end.Memory result same record { held = reads.held; grows = reads.grows; apart = reads.apart; told = reads.grows }

-- what a fault before the text says of reads
pub before_reads : (X : Type 0) (fault : PreFault) → pre.reads_of {X = X} (Err fault) ≡ reads_of (fault_finding fault)
before_reads X (before.Fault place cause) = refl
before_reads X (before.ReadFault path) = refl
before_reads X before.Memory = refl
