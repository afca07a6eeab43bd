use Rattle.std.proofs.Common.{take}
use Rattle.trim_rules.specs.Judging.{told_of, AreStarted}
use Rattle.trim_rules.proofs.judging.Judging.begun.Given as goal

abbrev pub invariant-loop-p : goal.invariant-loop-p
invariant-loop-p l = AreStarted (take l.p-index l.lines) (told_of l.judging.whys)
