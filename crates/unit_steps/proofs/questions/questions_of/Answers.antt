use Rattle.std.proofs.Common.{List, ◌++◌, map, sym, ◌∙◌, ap}
use Rattle.std.proofs.lemmas.List.{take_rest}
use Rattle.cs_base.specs.Token.{Token}
use Rattle.unit_steps.specs.Questions.{Question, questions_from, question_of}
use Rattle.unit_steps.proofs.QuestionLemmas.{questions-drop, questions-end, questions-sound}
use Rattle.unit_steps.proofs.questions.questions_of.Goals as goal

pub pieces-preserved : goal.pieces-preserved
pieces-preserved c =
    c.pieces.invariant
    ∙ ap (λ (ts : List Token). map question_of c.pieces.out.items ++ questions_from c.args.early 0 ts) c.in-Some.ensures.cases.0
    ∙ c.in_ok-n.ensures.answer
    ∙ ap (λ (qs : List Question). map question_of c.push_question.new.out.items ++ qs) (questions-drop c.args.early c.in_ok-n.n c.in-Some.after.now _ (take_rest c.in-Some.after.now c.in_ok-n.n))

pub returns-clause-answer : goal.returns-clause-answer
returns-clause-answer c =
    sym (c.pieces.invariant ∙ questions-end c.args.early (map question_of c.pieces.out.items) c.pieces.rest.now c.in_default.ensures.cases)

pub returns-clause-sound : goal.returns-clause-sound
returns-clause-sound c = λ sound.
    rw (← c.pieces.invariant ∙ questions-end c.args.early (map question_of c.pieces.out.items) c.pieces.rest.now c.in_default.ensures.cases)
    (questions-sound c.args.early 0 c.args.toks.now sound)
