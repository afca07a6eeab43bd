use Rattle.std.proofs.Common.{sym, ◌∙◌, arith}
use Rattle.template_plan.proofs.TreeLemmas.{ends_node, ends_none, ends_not, ends_token}
use Rattle.template_plan.proofs.trees.ends_in_token.Goals as goal

pub returns-then-count-eq0 : goal.returns-then-count-eq0
returns-then-count-eq0 c = ends_not c.args.tree.now.under (sym c.len-count.ensures ∙ c.if-count-eq0.true)

pub returns-in-Token : goal.returns-in-Token
returns-in-Token c =
    ends_token c.args.tree.now.under c.len-count.result c.len-count.ensures (omega (arith, c.if-count-eq0.false)) _ c.in-Token.ensures.here

pub returns-in-Node : goal.returns-in-Node
returns-in-Node c =
    ends_node c.args.tree.now.under c.len-count.result c.len-count.ensures (omega (arith, c.if-count-eq0.false)) _ _ _ c.in-Node.ensures.here

pub returns-in-End : goal.returns-in-End
returns-in-End c =
    ends_none c.args.tree.now.under c.len-count.result c.len-count.ensures (omega (arith, c.if-count-eq0.false)) c.in-End.ensures.here
