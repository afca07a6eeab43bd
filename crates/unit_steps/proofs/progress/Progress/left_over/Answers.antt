use Rattle.std.proofs.Common.{◌∙◌}
use Rattle.unit_steps.specs.Moments.{state_in}
use Rattle.unit_steps.proofs.JudgingLemmas.{left-end}
use Rattle.unit_steps.proofs.progress.Progress.left_over.Goals as goal

pub returns-clause-answer : goal.returns-clause-answer
returns-clause-answer c = λ table.
    c.loop-tok.invariant.answer table ∙ left-end c.loop-tok.self.text (state_in table c.loop-tok.self) c.args.toks.now c.loop-tok.tok-index c.loop-tok-test.false
