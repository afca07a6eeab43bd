use Rattle.unit_steps.proofs.progress.Progress.goes_with_line.Goals as goal

pub returns-in-Elifdef-clause-answer : goal.returns-in-Elifdef-clause-answer
returns-in-Elifdef-clause-answer c = λ table. rw c.in-Elifdef.is (c.asks_name.ensures.answer table)

pub returns-in-Elifndef-clause-answer : goal.returns-in-Elifndef-clause-answer
returns-in-Elifndef-clause-answer c = λ table. rw c.in-Elifndef.is (c.asks_name-in-Elifndef.ensures.answer table)
