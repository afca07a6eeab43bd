use Rattle.std.proofs.Common.{sym, ◌∙◌}
use Rattle.unit_steps.proofs.QuestionLemmas.{push-unasked, push-lacking, push-looking}
use Rattle.unit_steps.proofs.questions.push_question.Goals as goal

pub returns-then-not-asks_header-clause-answer : goal.returns-then-not-asks_header-clause-answer
returns-then-not-asks_header-clause-answer c =
    push-unasked c.args.early c.args.word.now c.in_ok-same.same c.args.after.now c.args.out.now.items c.push.new.self.items
    (sym c.asks_header.ensures ∙ c.if-not-asks_header.true) c.in_ok-same.ensures c.in_ok-push.ensures.items

pub returns-in_ok-push-in-None-clause-answer : goal.returns-in_ok-push-in-None-clause-answer
returns-in_ok-push-in-None-clause-answer c =
    push-lacking c.args.early c.args.word.now c.in_ok-question-in-None.question c.args.after.now c.args.out.now.items c.push-in-None.new.self.items
    (sym c.asks_header.ensures ∙ c.if-not-asks_header.false) c.in-None.ensures.answer c.in_ok-question-in-None.ensures c.in_ok-push-in-None.ensures.items

pub returns-in_ok-push-in-Some-clause-answer : goal.returns-in_ok-push-in-Some-clause-answer
returns-in_ok-push-in-Some-clause-answer c =
    push-looking c.args.early c.args.word.now c.in_ok-question-in-Some.question c.in-Some.len c.args.after.now c.args.out.now.items c.push-in-Some.new.self.items
    (sym c.asks_header.ensures ∙ c.if-not-asks_header.false) c.in-Some.ensures.answer c.in_ok-question-in-Some.ensures c.in_ok-push-in-Some.ensures.items
