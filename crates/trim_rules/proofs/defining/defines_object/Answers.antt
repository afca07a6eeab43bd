use Rattle.trim_rules.proofs.DefiningLemmas.{over-declares}
use Rattle.trim_rules.proofs.defining.defines_object.Goals as goal

pub returns-clause-answer : goal.returns-clause-answer
returns-clause-answer c =
    over-declares c.args.tree.now.under c.child_over.result c.args.k c.child_over.ensures.past c.child_over.ensures.over c.front_declares.result c.front_declares.ensures
