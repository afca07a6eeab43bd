-- How a run that puts nothing stops: what its early end says of the answer and of the outside.
use Rattle.std.specs.Prelude.{ℕ, List, codes}
use Rattle.cs_base.specs.Outside.{ReadEnd, NoneFailed, FailedAt, MayHaveFailed}
use Rattle.offences.specs.declared.refusals.PlanFault.{PlanFault}
use Rattle.offences.specs.declared.refusals.PlanFault.TheVariants as plan
use Rattle.batch_run.specs.Batch.{refusal_line}
use Rattle.command_words.specs.Message.{absent_line, ws_line, unit_line, refused_line, batch_line, query_line, unread_line, memory_line}
use Rattle.cscout_run.specs.declared.status.Status.{Status}
use Rattle.cscout_run.specs.declared.status.Status.TheVariants as status
use Rattle.cscout_run.specs.declared.stops.Fault.{Fault}
use Rattle.cscout_run.specs.declared.stops.Fault.TheVariants as fault
use Rattle.cscout_run.specs.declared.stops.Stop.{Stop}
use Rattle.cscout_run.specs.declared.stops.Stop.TheVariants.{Workspace, Unread, Refused, Memory}
use Rattle.cscout_run.specs.declared.stops.Why.{Why}
use Rattle.cscout_run.specs.declared.stops.Why.TheVariants.{NoUnit, BadBatch, BadQuery, DeepQuery, Refusal}
use Rattle.cscout_run.specs.Shapes.{Answer, stopped}

-- the line of a refusal
abbrev pub why_line : Why → List ℕ
why_line NoUnit = refused_line (codes "no unit")
why_line (BadBatch line) = batch_line line
why_line (BadQuery at) = query_line (codes "bad query") at
why_line (DeepQuery at) = query_line (codes "query too deep") at
why_line (Refusal refusal) = refusal_line refusal

-- why a plan gives no edits, as an early end
abbrev pub plan_stop : PlanFault → Stop
plan_stop (plan.Refused refusal) = Refused (Refusal refusal)
plan_stop plan.Memory = Memory

-- the line of a workspace that is not there or not accepted; `ws` is the workspace file
abbrev pub fault_line : List ℕ → Fault → List ℕ
fault_line ws fault.Absent = absent_line ws
fault_line ws (fault.BadLine line) = ws_line ws line (codes "bad workspace line")
fault_line ws (fault.TooManyUnits line) = ws_line ws line (codes "too many units")
fault_line ws (fault.Unit unit place cause) = unit_line unit place cause

-- the status of an early end
abbrev pub status_of : Stop → Status
status_of (Workspace fault) = status.Workspace
status_of (Unread path) = status.ReadFault
status_of (Refused why) = status.Refused
status_of Memory = status.Memory

-- the line of an early end
abbrev pub line_of : List ℕ → Stop → List ℕ
line_of ws (Workspace fault) = fault_line ws fault
line_of ws (Unread path) = unread_line path
line_of ws (Refused why) = why_line why
line_of ws Memory = memory_line

-- The message of the early end is an answer, unless a read failed or memory ran out.
abbrev pub Stops : List ℕ → (Answer → Type 0) → Stop → Type 0
Stops ws IsAnswer (Workspace fault) = IsAnswer (stopped status.Workspace (fault_line ws fault))
Stops ws IsAnswer (Unread path) = Unit {0}
Stops ws IsAnswer (Refused why) = IsAnswer (stopped status.Refused (why_line why))
Stops ws IsAnswer Memory = Unit {0}

-- what an early end says of reads
abbrev pub stop_reads : Stop → ReadEnd
stop_reads (Workspace fault) = NoneFailed
stop_reads (Unread path) = FailedAt path
stop_reads (Refused why) = NoneFailed
stop_reads Memory = MayHaveFailed
