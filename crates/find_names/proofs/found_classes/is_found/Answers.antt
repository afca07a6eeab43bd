use Rattle.std.proofs.Common.{refl}
use Rattle.analysis.specs.Spellings.{spelling_of}
use Rattle.class_marks.proofs.AnswerLemmas.{told_false, told_true}
use Rattle.find_names.specs.Found.{IsFound}
use Rattle.find_names.specs.Question.{IsInQuestion}
use Rattle.find_names.proofs.QuestionLemmas.{told_of}
use Rattle.find_names.proofs.FoundLemmas.{not_satisfied, satisfied}
use Rattle.find_names.proofs.found_classes.is_found.Goals as goal

pub returns-then-not-satisfied-clause-answer : goal.returns-then-not-satisfied-clause-answer
returns-then-not-satisfied-clause-answer c = λ q read.
    let tells = satisfied c.args.a.now.value c.args.part c.args.facts.now c.args.query.now (spelling_of c.args.a.now.value c.args.part) c.in_ok-satisfied.satisfied q
    c.requires.facts refl c.in_ok-satisfied.ensures.answer read in
    not_satisfied c.args.a.now.value c.args.part q (told_false c.in_ok-satisfied.satisfied _ _ c.if-not-satisfied.true tells)

pub returns-clause-answer : goal.returns-clause-answer
returns-clause-answer c = λ q read.
    let tells = satisfied c.args.a.now.value c.args.part c.args.facts.now c.args.query.now (spelling_of c.args.a.now.value c.args.part) c.in_ok-satisfied.satisfied q
    c.requires.facts refl c.in_ok-satisfied.ensures.answer read in
    let yes = told_true c.in_ok-satisfied.satisfied _ _ c.if-not-satisfied.false tells in
    told_of c.is_in_question.result (IsInQuestion c.args.a.now.value c.args.part) (IsFound c.args.a.now.value q c.args.part)
    (λ x. record { first = c.requires.class.first; in_question = x; satisfies = yes }) (λ x. x.in_question) c.is_in_question.ensures
