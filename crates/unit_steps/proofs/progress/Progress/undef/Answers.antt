use Rattle.std.proofs.Common.{ℕ, List, ◌∙◌, ap}
use Rattle.macro_expand.specs.Below.macro_body.Live.{table_of, without_macro}
use Rattle.unit_steps.specs.SourceTexts.{source_in}
use Rattle.unit_steps.proofs.DefiningLemmas.{undef-line, undef-able}
use Rattle.unit_steps.proofs.progress.Progress.undef.Goals as goal

pub returns-in_ok-process_event-in-Some-clause-goes_on : goal.returns-in_ok-process_event-in-Some-clause-goes_on
returns-in_ok-process_event-in-Some-clause-goes_on c = record {
  able = undef-able c.args.self.now c.process_event.new.self c.undef.new.self c.in-Some.name.now c.in_ok-process_event-in-Some.ensures.named
      (c.undef.ensures ∙ ap (λ (t : List ℕ). without_macro t (table_of c.process_event.new.self.macros)) c.text.ensures.answer) c.requires.able;
  most = c.in_ok-process_event-in-Some.ensures.most;
}

pub returns-in_ok-process_event-in-Some-clause-answer : goal.returns-in_ok-process_event-in-Some-clause-answer
returns-in_ok-process_event-in-Some-clause-answer c = λ table.
    undef-line table (source_in c.args.file.now) c.args.at c.args.toks.now c.args.self.now c.process_event.new.self c.undef.new.self c.in-Some.name.now c.in-Some.ensures
    c.in_ok-process_event-in-Some.ensures.named
    (c.undef.ensures ∙ ap (λ (t : List ℕ). without_macro t (table_of c.process_event.new.self.macros)) c.text.ensures.answer)
