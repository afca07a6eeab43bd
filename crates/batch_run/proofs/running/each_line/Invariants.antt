use Rattle.std.proofs.Common.{take}
use Rattle.batch_run.specs.Stepping.{RunTo}
use Rattle.batch_run.proofs.running.each_line.Given as goal

abbrev pub invariant-loop-line : goal.invariant-loop-line
invariant-loop-line l = RunTo l.ws l.initial.state (take l.line-index l.lines) l.state
