use Rattle.std.proofs.Common.{◌≡◌, length}
use Rattle.same_readings.specs.Whole.{all_go}
use Rattle.same_readings.proofs.whole.all_go.Given as goal

abbrev pub invariant-loop-left : goal.invariant-loop-left
invariant-loop-left l = all_go l.old l.new l.left l.right ≡ all_go l.old l.new l.before l.after

abbrev pub decreases-loop-left : goal.decreases-loop-left
decreases-loop-left l = length l.left
