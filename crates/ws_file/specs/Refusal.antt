-- The faults of a workspace file in the refusals of `read_ws`.
use Rattle.std.specs.Prelude.{Option, None, Some}
use Rattle.ws_file.specs.declared.refusal.WsRefusal.{WsRefusal}
use Rattle.ws_file.specs.declared.refusal.WsRefusal.TheVariants.{BadLine, TooManyUnits, Memory}
use Rattle.ws_file.specs.Reading.{WsFault, bad_line, too_many_units}

-- the fault that a refusal names; none for want of memory alone
abbrev pub fault_of : WsRefusal → Option WsFault
fault_of (BadLine line) = Some (bad_line line)
fault_of (TooManyUnits line) = Some (too_many_units line)
fault_of Memory = None
