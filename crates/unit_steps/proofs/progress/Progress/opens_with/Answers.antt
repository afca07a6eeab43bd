use Rattle.unit_steps.proofs.progress.Progress.opens_with.Goals as goal

pub returns-in-Ifdef-clause-answer : goal.returns-in-Ifdef-clause-answer
returns-in-Ifdef-clause-answer c = λ table. rw c.in-Ifdef.is (c.asks_name.ensures.answer table)

pub returns-in-Ifndef-clause-answer : goal.returns-in-Ifndef-clause-answer
returns-in-Ifndef-clause-answer c = λ table. rw c.in-Ifndef.is (c.asks_name-in-Ifndef.ensures.answer table)
