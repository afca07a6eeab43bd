-- Refusals as faults of the definition.
use Rattle.std.specs.Prelude.{Option, Some, None}
use Rattle.macro_body.specs.declared.fault.ExpandFault.{ExpandFault}
use Rattle.macro_body.specs.declared.fault.ExpandFault.TheVariants as refused
use Rattle.macro_body.specs.Notes.{Fault, OpenCall, WrongArguments, NotOneToken, NotAString, TooMuchWork, TooDeep}

-- the fault that a refusal names: none for want of memory alone
abbrev pub fault_of : ExpandFault → Option Fault
fault_of (refused.OpenCall at) = Some (OpenCall at)
fault_of (refused.WrongArguments at) = Some (WrongArguments at)
fault_of (refused.NotOneToken at) = Some (NotOneToken at)
fault_of (refused.NotAString at) = Some (NotAString at)
fault_of (refused.TooMuchWork at) = Some (TooMuchWork at)
fault_of (refused.TooDeep at) = Some (TooDeep at)
fault_of refused.Memory = None
