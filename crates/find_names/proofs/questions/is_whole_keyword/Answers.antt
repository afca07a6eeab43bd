use Rattle.std.proofs.Common.{sym, ◌∙◌}
use Rattle.class_marks.proofs.AnswerLemmas.{told}
use Rattle.find_names.specs.Question.{IsWholeKeyword}
use Rattle.find_names.proofs.questions.is_whole_keyword.Goals as goal

pub returns-then-not-has : goal.returns-then-not-has
returns-then-not-has c = λ x. c.if-not-has.ensures x.whole

pub returns : goal.returns
returns c =
    let word = rw (c.units.ensures.answer, c.workspace.ensures, c.spelling.ensures) at c.is_keyword.ensures in
    told c.is_keyword.result (IsWholeKeyword c.args.a.now.value c.args.part)
    (λ yes. record { whole = c.if-not-has.ensures; word = sym word ∙ yes })
    (λ not x. let is = x.word in cc)
