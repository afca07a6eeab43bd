use Rattle.std.proofs.Common.{◌≡◌, ◌∙◌, ap, sym, subst, true}
use Rattle.c99_tree.specs.Tree.{Node, node_of, none}
use Rattle.c99_tree.specs.declared.production.Label.{Label}
use Rattle.template_plan.proofs.trees.is_same_label.Goals as goal

pub returns : goal.returns
returns c = λ passed.
    let one : c.new-left.result ≡ c.new-right.result = (c.same_trees_are_one.ensures c.new-left.result c.new-right.result).0 (sym c.is_same_tree.ensures ∙ passed) in
    ap (λ (n : Node). n.label) (sym c.new-left.ensures ∙ (one ∙ c.new-right.ensures))
