use Rattle.std.proofs.Common.{arith}
use Rattle.template_plan.proofs.TreeLemmas.{behind_node, behind_token}
use Rattle.template_plan.proofs.trees.number_behind.Goals as goal

pub returns-in-Token : goal.returns-in-Token
returns-in-Token c = λ n at. behind_token _ _ _ c.args.left n c.in-Token.ensures.here at

pub returns-else-left-le1 : goal.returns-else-left-le1
returns-else-left-le1 c = λ n at. behind_node _ _ _ _ _ c.args.left n c.in-Node.ensures.here (omega (arith, c.if-left-le1.false)) at
