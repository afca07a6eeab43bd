use Rattle.query_words.proofs.AtomLemmas.{attribute_compiled}
use Rattle.query_words.proofs.atoms.attribute_read.Goals as goal

pub returns-in_ok-push_step-in-Some-clause-answer : goal.returns-in_ok-push_step-in-Some-clause-answer
returns-in_ok-push_step-in-Some-clause-answer c =
    rw c.in-Some.is (attribute_compiled c.args.at c.args.word.now _ c.args.steps.now.items _ c.in_ok-push_step-in-Some.ensures)
