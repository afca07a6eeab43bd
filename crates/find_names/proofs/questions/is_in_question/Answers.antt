use Rattle.find_names.specs.Question.{IsInQuestion, IsNameable}
use Rattle.find_names.proofs.QuestionLemmas.{told_of}
use Rattle.find_names.proofs.questions.is_in_question.Goals as goal

pub returns-then-is_keyword_class : goal.returns-then-is_keyword_class
returns-then-is_keyword_class c = λ x. x.no_keyword c.if-is_keyword_class.ensures

pub returns : goal.returns
returns c =
    told_of c.is_nameable.result (IsNameable c.args.a.now.value c.args.part) (IsInQuestion c.args.a.now.value c.args.part)
    (λ x. record { nameable = x; no_keyword = c.if-is_keyword_class.ensures }) (λ x. x.nameable) c.is_nameable.ensures
