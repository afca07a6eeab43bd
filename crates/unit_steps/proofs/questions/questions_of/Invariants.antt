use Rattle.std.proofs.Common.{◌≡◌, ◌++◌, map, length}
use Rattle.unit_steps.specs.Questions.{questions_from, question_of}
use Rattle.unit_steps.proofs.questions.questions_of.Given as goal

abbrev pub invariant-pieces : goal.invariant-pieces
invariant-pieces l = questions_from l.early 0 l.fn.toks ≡ map question_of l.out.items ++ questions_from l.early 0 l.rest

abbrev pub decreases-pieces : goal.decreases-pieces
decreases-pieces l = length l.rest
