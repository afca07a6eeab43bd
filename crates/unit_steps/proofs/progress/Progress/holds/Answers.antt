use Rattle.unit_steps.specs.SourceTexts.{source_in}
use Rattle.unit_steps.specs.Moments.{state_in}
use Rattle.unit_steps.specs.Conditions.{asked_toks, judged}
use Rattle.unit_steps.proofs.GoingLemmas.{kept-onward}
use Rattle.unit_steps.proofs.progress.Progress.holds.Goals as goal

pub returns-clause-answer : goal.returns-clause-answer
returns-clause-answer c = λ table.
    rw (kept-onward c.args.self.now.text c.asked_toks.new.self.text (asked_toks (source_in c.args.file.now) c.args.at c.args.toks.now (state_in table c.args.self.now))
    (judged (source_in c.args.file.now) c.args.at) c.in_ok-out.out.items (state_in table c.asked_toks.new.self) (c.in_ok-out.ensures.answer table))
    (rw c.as_slice.ensures.value at (c.judged.ensures.answer table))
