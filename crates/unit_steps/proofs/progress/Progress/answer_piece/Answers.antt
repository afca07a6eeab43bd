use Rattle.std.proofs.Common.{◌++◌, ◌∷◌, [], sym, ◌∙◌, ap}
use Rattle.cs_base.specs.Token.{Token}
use Rattle.unit_steps.specs.declared.progress.Progress.{Progress}
use Rattle.unit_steps.specs.Moments.{state_in}
use Rattle.unit_steps.specs.Answering.{answer_notes}
use Rattle.unit_steps.proofs.DefiningLemmas.{able-noted, state-noted}
use Rattle.unit_steps.proofs.AnsweringLemmas.{piece-plain, piece-none, piece-asks}
use Rattle.unit_steps.proofs.progress.Progress.answer_piece.Goals as goal

pub returns-then-not-is_defined-clause-answer : goal.returns-then-not-is_defined-clause-answer
returns-then-not-is_defined-clause-answer c = λ table.
    piece-plain c.args.self.now.text c.args.word.now c.args.after.now c.args.out.now.items c.push.new.self.items (state_in table c.args.self.now)
    (sym c.is_defined.ensures ∙ c.if-not-is_defined.true)
    (c.in_ok-push.ensures.items ∙ ap (λ (t : Token). c.args.out.now.items ++ t ∷ []) c.in_ok-shared.ensures)

pub returns-in-None-clause-answer : goal.returns-in-None-clause-answer
returns-in-None-clause-answer c = λ table.
    piece-none c.args.self.now.text c.args.word.now c.args.after.now (state_in table c.args.self.now) (sym c.is_defined.ensures ∙ c.if-not-is_defined.false)
    c.in-None.ensures.answer

pub returns-in_ok-answer-in-Some-clause-goes_on : goal.returns-in_ok-answer-in-Some-clause-goes_on
returns-in_ok-answer-in-Some-clause-goes_on c = record {
  able = able-noted c.args.self.now c.answer.new.self c.in-Some.name.now (answer_notes c.args.word.now c.in-Some.name.now (state_in [] c.args.self.now))
      (c.in_ok-answer-in-Some.ensures.noted []) c.requires.able;
  most = c.in_ok-answer-in-Some.ensures.most;
}

pub returns-in_ok-answer-in-Some-clause-answer : goal.returns-in_ok-answer-in-Some-clause-answer
returns-in_ok-answer-in-Some-clause-answer c = λ table.
    let noted = c.in_ok-answer-in-Some.ensures.noted table in
    piece-asks c.args.self.now.text c.answer.new.self.text c.args.word.now c.in-Some.name.now c.in-Some.len c.args.after.now c.args.out.now.items c.answer.new.out.items
    (state_in table c.args.self.now) (state_in table c.answer.new.self) (sym c.is_defined.ensures ∙ c.if-not-is_defined.false) c.in-Some.ensures.answer
    (c.in_ok-answer-in-Some.ensures.put table)
    (state-noted table c.args.self.now c.answer.new.self c.in-Some.name.now (answer_notes c.args.word.now c.in-Some.name.now (state_in table c.args.self.now)) noted)
    (ap (λ (x : Progress). x.text) noted)
