use Rattle.template_plan.proofs.trees.node_number.Goals as goal

pub children-init : goal.children-init
children-init c = λ n at. at

pub children-preserved : goal.children-preserved
children-preserved c = λ n at. c.children.invariant n (c.in-Some-number_behind.ensures n at)
