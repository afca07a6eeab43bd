use Rattle.find_names.specs.Question.{IsNamed}
use Rattle.find_names.proofs.QuestionLemmas.{NoneBefore}
use Rattle.find_names.proofs.questions.is_nameable.Given as goal

abbrev pub invariant-loop-member : goal.invariant-loop-member
invariant-loop-member l = NoneBefore (IsNamed l.a.value) l.members l.member-index
