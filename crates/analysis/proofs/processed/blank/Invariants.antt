use Rattle.std.proofs.Common.{◌≡◌, ℕ, false}
use Rattle.analysis.specs.Marking.{is_marked}
use Rattle.analysis.proofs.processed.blank.Given as goal

abbrev pub invariant-loop-number : goal.invariant-loop-number
invariant-loop-number l = (n k : ℕ) → is_marked l.marks.items n k ≡ false
