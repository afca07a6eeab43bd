use Rattle.template_plan.proofs.TreeLemmas.{count_end, count_node, count_token}
use Rattle.template_plan.proofs.trees.nodes_at.Goals as goal

pub returns-in-End-clause-nodes : goal.returns-in-End-clause-nodes
returns-in-End-clause-nodes c = count_end _ _ c.in-End.ensures.here

pub returns-in-Token-clause-nodes : goal.returns-in-Token-clause-nodes
returns-in-Token-clause-nodes c = count_token _ _ _ c.in-Token.ensures.here

pub returns-in-Node-clause-nodes : goal.returns-in-Node-clause-nodes
returns-in-Node-clause-nodes c = count_node _ _ _ _ _ c.in-Node.ensures.here
