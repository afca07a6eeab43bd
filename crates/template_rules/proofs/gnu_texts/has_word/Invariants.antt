use Rattle.std.proofs.Common.{◌≡◌, length}
use Rattle.std.specs.Prelude.{map}
use Rattle.template_rules.specs.GnuOffences.{has_word}
use Rattle.template_rules.proofs.gnu_texts.has_word.Given as goal

abbrev pub invariant-loop-left : goal.invariant-loop-left
invariant-loop-left l = has_word l.text (map (λ t. t.now) l.left) ≡ has_word l.text (map (λ t. t.now) l.words)

abbrev pub decreases-loop-left : goal.decreases-loop-left
decreases-loop-left l = length l.left
