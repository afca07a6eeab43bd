use Rattle.std.proofs.Common.{List, Some, [], sym, ◌∙◌, ap}
use Rattle.cs_base.specs.declared.causes.Cause.TheVariants.{BadDirective}
use Rattle.cs_base.specs.Token.{Token}
use Rattle.source_files.specs.Faults.{fault_at}
use Rattle.source_files.specs.Answers.{fault_of}
use Rattle.unit_steps.specs.SourceTexts.{source_in}
use Rattle.unit_steps.specs.Conditions.{asked_toks}
use Rattle.unit_steps.specs.Moments.{state_in}
use Rattle.unit_steps.proofs.AnsweringLemmas.{asked_in-sound}
use Rattle.unit_steps.proofs.JudgingLemmas.{kept-fault, asked-none, asked-some}
use Rattle.unit_steps.proofs.progress.Progress.asked_toks.Goals as goal

pub expanded-requires-clause-sound : goal.expanded-requires-clause-sound
expanded-requires-clause-sound c =
    rw c.as_slice.ensures.value
    (asked_in-sound c.args.self.now.text c.answered.new.self.text c.args.toks.now c.in-Some.asked.items (state_in [] c.args.self.now) (state_in [] c.answered.new.self)
    c.requires.sound (rw c.in-Some.is at (c.in_ok-answered.ensures.answer [])))

pub returns-in-None-clause-answer : goal.returns-in-None-clause-answer
returns-in-None-clause-answer c = λ table.
    let s = state_in table c.args.self.now in
    kept-fault c.args.self.now.text (asked_toks (source_in c.args.file.now) c.args.at c.args.toks.now s) (fault_at (source_in c.args.file.now) c.args.at BadDirective)
    (fault_of c.fault.result)
    (asked-none c.args.self.now.text (source_in c.args.file.now) c.args.at c.args.toks.now s (rw c.in-None.is at (c.in_ok-answered.ensures.answer table))) c.fault.ensures.answer

pub returns-in-Some-clause-answer : goal.returns-in-Some-clause-answer
returns-in-Some-clause-answer c = λ table.
    rw (asked-some c.args.self.now.text c.answered.new.self.text (source_in c.args.file.now) c.args.at c.args.toks.now c.as_slice.result.now (state_in table c.args.self.now)
    (state_in table c.answered.new.self)
    ((rw c.in-Some.is at (c.in_ok-answered.ensures.answer table))
    ∙ ap (λ (ts : List Token). Some (ts, state_in table c.answered.new.self, c.answered.new.self.text)) (sym c.as_slice.ensures.value)))
    (c.expanded.ensures.answer table)
