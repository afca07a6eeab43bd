use Rattle.std.proofs.Common.{◌≡◌, length}
use Rattle.same_readings.specs.Whole.{whole_from, goes_whole}
use Rattle.same_readings.proofs.whole.goes_whole.Given as goal

abbrev pub invariant-loop-left : goal.invariant-loop-left
invariant-loop-left l = whole_from l.before l.after l.left l.right ≡ goes_whole l.before l.after

abbrev pub decreases-loop-left : goal.decreases-loop-left
decreases-loop-left l = length l.left
