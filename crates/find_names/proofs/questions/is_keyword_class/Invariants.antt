use Rattle.find_names.specs.Question.{IsWholeKeyword}
use Rattle.find_names.proofs.QuestionLemmas.{NoneBefore}
use Rattle.find_names.proofs.questions.is_keyword_class.Given as goal

abbrev pub invariant-loop-member : goal.invariant-loop-member
invariant-loop-member l = NoneBefore (IsWholeKeyword l.a.value) l.members l.member-index
