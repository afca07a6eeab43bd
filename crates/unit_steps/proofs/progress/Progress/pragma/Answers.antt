use Rattle.std.proofs.Common.{refl, sym, ◌∙◌}
use Rattle.unit_steps.specs.SourceTexts.{source_in}
use Rattle.unit_steps.specs.Moments.{state_in}
use Rattle.unit_steps.proofs.VisitLemmas.{unsaid-known}
use Rattle.unit_steps.proofs.progress.Progress.pragma.Goals as goal

pub returns-then-is_once_line-clause-answer : goal.returns-then-is_once_line-clause-answer
returns-then-is_once_line-clause-answer c = λ table.
    let said = sym c.is_once_line.ensures ∙ c.if-is_once_line.true in
    rw said (c.say_once.ensures.answer table (source_in c.args.file.now) refl)

pub returns-else-is_once_line-clause-answer : goal.returns-else-is_once_line-clause-answer
returns-else-is_once_line-clause-answer c = λ table.
    let unsaid = sym c.is_once_line.ensures ∙ c.if-is_once_line.false in
    rw unsaid (unsaid-known c.args.self.now.text (state_in table c.args.self.now))
