use Rattle.std.proofs.Common.{◌≡◌, length}
use Rattle.rename_rules.specs.GnuTexts.{stands_in}
use Rattle.rename_rules.proofs.gnu_texts.stands_in.Given as goal

abbrev pub invariant-loop-rest : goal.invariant-loop-rest
invariant-loop-rest l = stands_in l.word l.rest ≡ stands_in l.word l.text

abbrev pub decreases-loop-rest : goal.decreases-loop-rest
decreases-loop-rest l = length l.rest
