use Rattle.std.proofs.Common.{◌≡◌, length}
use Rattle.gnu_lists.specs.WholeWords.{stands_first}
use Rattle.gnu_lists.proofs.whole_words.stands_first.Given as goal

abbrev pub invariant-loop-left : goal.invariant-loop-left
invariant-loop-left l = stands_first l.left l.rest ≡ stands_first l.word l.text

abbrev pub decreases-loop-left : goal.decreases-loop-left
decreases-loop-left l = length l.left
