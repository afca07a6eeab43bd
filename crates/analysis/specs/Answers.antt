-- What `texts` and `one_text` answer, as contracts see it.
use Rattle.std.specs.Prelude.{Option, Some, None, Result, Ok, Err}
use Rattle.cs_base.specs.Outside.{ReadEnd, NoneFailed, FailedAt, MayHaveFailed}
use Rattle.include_tree.specs.Below.source_files.Faults.{fault}
use Rattle.analysis.specs.declared.analyse_fault.AnalyseFault.{AnalyseFault}
use Rattle.analysis.specs.declared.analyse_fault.AnalyseFault.TheVariants as answer
use Rattle.analysis.specs.Texts.{UnitFault, unit_fault}

-- the fault that a refusal names: none for a failed read and for want of memory
abbrev pub fault_of : AnalyseFault → Option UnitFault
fault_of (answer.WorkspaceFault unit place cause) = Some (unit_fault unit (fault place cause))
fault_of (answer.ReadFault path) = None
fault_of answer.Memory = None

-- What an answer says of reads: the fault of one is that of the last, and before want of memory one may have
-- failed; every other answer says that none did.
abbrev pub reads_of : {X : Type 0} → Result X AnalyseFault → ReadEnd
reads_of (Ok x) = NoneFailed
reads_of (Err (answer.WorkspaceFault unit place cause)) = NoneFailed
reads_of (Err (answer.ReadFault path)) = FailedAt path
reads_of (Err answer.Memory) = MayHaveFailed
