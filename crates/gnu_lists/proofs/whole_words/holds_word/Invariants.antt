use Rattle.std.proofs.Common.{◌≡◌, length}
use Rattle.gnu_lists.specs.WholeWords.{holds_from, holds_word}
use Rattle.gnu_lists.proofs.whole_words.holds_word.Given as goal

abbrev pub invariant-loop-rest : goal.invariant-loop-rest
invariant-loop-rest l = holds_from l.inside l.word l.rest ≡ holds_word l.word l.text

abbrev pub decreases-loop-rest : goal.decreases-loop-rest
decreases-loop-rest l = length l.rest
