use Rattle.std.proofs.Common.{List, ◌∙◌, ap}
use Rattle.std.proofs.lemmas.List.{take_rest}
use Rattle.cs_base.specs.Token.{Token}
use Rattle.unit_steps.specs.Moments.{state_in}
use Rattle.unit_steps.specs.Answering.{asked_in, behind}
use Rattle.unit_steps.proofs.AnsweringLemmas.{asked_in-drop, asked_in-end}
use Rattle.unit_steps.proofs.progress.Progress.answered.Goals as goal

pub pieces-preserved : goal.pieces-preserved
pieces-preserved c = record {
  able = c.in_ok-n.ensures.goes_on.able;
  most = c.in_ok-n.ensures.goes_on.most ∙ c.pieces.invariant.most;
  answer = λ table.
      c.pieces.invariant.answer table
      ∙ ap (λ (ts : List Token). behind c.pieces.out.items (asked_in c.pieces.self.text 0 ts (state_in table c.pieces.self))) c.in-Some.ensures.cases.0
      ∙ (rw c.in-Some-2.is at (c.in_ok-n.ensures.answer table))
      ∙ ap (behind c.answer_piece.new.out.items)
      (asked_in-drop c.answer_piece.new.self.text c.in-Some-2.n c.in-Some.after.now _ (state_in table c.answer_piece.new.self) (take_rest c.in-Some.after.now c.in-Some-2.n));
}

pub returns-clause-answer : goal.returns-clause-answer
returns-clause-answer c = λ table.
    c.pieces.invariant.answer table
    ∙ asked_in-end c.pieces.self.text c.pieces.out.items c.pieces.rest.now (state_in table c.pieces.self) c.in_default.ensures.cases
