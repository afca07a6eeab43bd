-- What a check answers where it tells nothing.
use Rattle.std.specs.Prelude.{Option, IfSome, Result, Ok, Err}
use Rattle.cs_base.specs.Outside.{FileMap, ReadEnd, NoneFailed, FailedAt, MayHaveFailed}
use Rattle.include_tree.specs.Below.source_files.Files.{Source, source_of}
use Rattle.unit_checks.specs.declared.check_fault.CheckFault.{CheckFault}
use Rattle.unit_checks.specs.declared.check_fault.CheckFault.TheVariants.{ReadFault, Memory}

-- What an answer says of reads: a failed one is that of the last, and before want of memory one may have failed; every other
-- answer says that none did.
abbrev pub fault_reads : CheckFault → ReadEnd
fault_reads (ReadFault path) = FailedAt path
fault_reads Memory = MayHaveFailed

abbrev pub reads_of : {X : Type 0} → Result X CheckFault → ReadEnd
reads_of (Ok x) = NoneFailed
reads_of (Err fault) = fault_reads fault

-- So it is over what the files hold, where that is told.
abbrev pub OverHeld : Option FileMap → (Source → Type 0) → Type 0
OverHeld told Holds = IfSome told (λ held. Holds (source_of held))
