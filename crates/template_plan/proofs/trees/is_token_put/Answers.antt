use Rattle.std.proofs.Common.{ℕ, ◌∙◌, ap, ◌+◌}
use Rattle.c99_tree.specs.Tree.{token}
use Rattle.c_types.specs.Children.{from_child}
use Rattle.template_plan.proofs.TreeLemmas.{if_so}
use Rattle.template_plan.proofs.trees.is_token_put.Goals as goal

pub returns-in-Token : goal.returns-in-Token
returns-in-Token c =
    if_so c.put.result _ _
    (λ h. (c.in-Token.ensures.here ∙ ap (λ (n : ℕ). token n (from_child (c.args.k + 1) c.args.new.now.under)) h.0, h.1))
    c.put.ensures
