use Rattle.include_tree.proofs.including.asked_in.Goals as goal

pub returns-clause-paths : goal.returns-clause-paths
returns-clause-paths c = rw (← c.in-Some.ensures) c.asked_by.ensures.paths

pub returns-clause-place : goal.returns-clause-place
returns-clause-place c = rw (← c.in-Some.ensures) c.asked_by.ensures.place
