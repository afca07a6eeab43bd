use Rattle.template_plan.proofs.plan.plan_class.Goals as goal

pub plan_over-requires : goal.plan_over-requires
plan_over-requires c = rw c.in_ok-all.ensures c.requires

pub returns-clause-answer : goal.returns-clause-answer
returns-clause-answer c = rw c.in_ok-all.ensures at c.plan_over.ensures.answer

pub returns-clause-kept : goal.returns-clause-kept
returns-clause-kept c = rw c.in_ok-all.ensures at c.plan_over.ensures.kept
