use Rattle.std.proofs.Common.{◌++◌, ◌∷◌, [], ◌∙◌, ap}
use Rattle.cs_base.specs.Token.{Token}
use Rattle.unit_steps.specs.Conditions.{answer_for}
use Rattle.unit_steps.proofs.AnsweringLemmas.{answer-known}
use Rattle.unit_steps.proofs.progress.Progress.answer.Goals as goal

pub returns-clause-noted : goal.returns-clause-noted
returns-clause-noted c = λ table.
    answer-known table c.args.self.now c.test.new.self c.args.word.now c.args.name.now c.in_ok-number.number c.in_ok-known.known c.note_answered.new.self
    (c.in_ok-known.ensures.answer table) c.in_ok-number.ensures (c.in_ok-known.ensures.noted table) c.in_ok-note_answered.ensures

pub returns-clause-put : goal.returns-clause-put
returns-clause-put c = λ table.
    c.in_ok-push.ensures.items
    ∙ ap (λ (t : Token). c.args.out.now.items ++ t ∷ []) (c.in_ok-number.ensures ∙ ap (answer_for c.args.word.now) (c.in_ok-known.ensures.answer table))
