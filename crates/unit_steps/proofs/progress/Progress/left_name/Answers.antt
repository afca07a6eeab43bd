use Rattle.std.proofs.Common.{sym, ◌∙◌}
use Rattle.unit_steps.specs.declared.events.EventKind.TheVariants.{Left}
use Rattle.unit_steps.specs.Moments.{state_in}
use Rattle.unit_steps.proofs.DefiningLemmas.{able-event}
use Rattle.unit_steps.proofs.JudgingLemmas.{left-step, left-other}
use Rattle.unit_steps.proofs.progress.Progress.left_name.Goals as goal

pub returns-in_ok-process_event-clause-goes_on : goal.returns-in_ok-process_event-clause-goes_on
returns-in_ok-process_event-clause-goes_on c = record {
  able = able-event c.args.self.now c.process_event.new.self Left c.args.tok.now c.in_ok-process_event.ensures.named c.requires.able;
  most = c.in_ok-process_event.ensures.most;
}

pub returns-in_ok-process_event-clause-answer : goal.returns-in_ok-process_event-clause-answer
returns-in_ok-process_event-clause-answer c = λ table toks.
    left-step table c.args.self.now c.process_event.new.self c.args.tok.now toks (sym c.is_name.ensures ∙ c.if-is_name.true) c.in_ok-process_event.ensures.named

pub returns-else-is_name-clause-answer : goal.returns-else-is_name-clause-answer
returns-else-is_name-clause-answer c = λ table toks.
    left-other c.args.self.now.text c.args.tok.now toks (state_in table c.args.self.now) (sym c.is_name.ensures ∙ c.if-is_name.false)
