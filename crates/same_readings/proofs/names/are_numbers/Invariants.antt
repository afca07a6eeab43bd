use Rattle.std.proofs.Common.{◌≡◌, length}
use Rattle.same_readings.specs.SameNames.{all_same, same_number}
use Rattle.same_readings.proofs.names.are_numbers.Given as goal

abbrev pub invariant-loop-left : goal.invariant-loop-left
invariant-loop-left l = all_same same_number l.left l.right ≡ all_same same_number l.one l.other

abbrev pub decreases-loop-left : goal.decreases-loop-left
decreases-loop-left l = length l.left
