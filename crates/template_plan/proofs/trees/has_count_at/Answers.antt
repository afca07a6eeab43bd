use Rattle.std.proofs.Common.{◌∙◌, subst, sym}
use Rattle.std.proofs.lemmas.Bool.{eqb-true}
use Rattle.template_meaning.specs.Matched.{ItemsAre}
use Rattle.template_plan.proofs.TreeLemmas.{node_items, token_items}
use Rattle.template_plan.proofs.trees.has_count_at.Goals as goal

pub returns-in-End : goal.returns-in-End
returns-in-End c = λ passed behind. subst (ItemsAre c.args.n) (sym c.in-End.ensures.here) behind

pub returns-in-Token : goal.returns-in-Token
returns-in-Token c = λ passed behind. token_items c.args.n _ _ _ c.in-Token.ensures.here behind

pub returns-in-Node : goal.returns-in-Node
returns-in-Node c = λ passed behind.
    node_items c.args.n _ _ _ _ _ c.in-Node.ensures.here (sym c.node_count.ensures ∙ eqb-true c.node_count.result c.args.n passed) behind
