use Rattle.trim_rules.proofs.DefiningLemmas.{over-node}
use Rattle.trim_rules.proofs.defining.is_over.Goals as goal

pub returns-in-Node : goal.returns-in-Node
returns-in-Node c = over-node c.args.tree.now.under c.args.child c.args.k _ _ _ c.in-Node.ensures.here c.goes_behind.result c.goes_behind.ensures
