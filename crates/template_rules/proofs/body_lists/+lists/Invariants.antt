use Rattle.std.proofs.Common.{◌≡◌, ◌+◌, ◌*◌, ◌++◌}
use Rattle.c99_tree.specs.Tree.{size_of}
use Rattle.c_types.specs.Children.{from_child}
use Rattle.template_rules.specs.ScopeOffences.{body_lists_in}
use Rattle.template_rules.proofs.body_lists.+lists.Given as goal

abbrev pub decreases-push_body_lists : goal.decreases-push_body_lists
decreases-push_body_lists l = 2 * size_of l.tree.now.under + 1

abbrev pub decreases-push_body_lists_at : goal.decreases-push_body_lists_at
decreases-push_body_lists_at l = 2 * size_of l.tree.now.under

abbrev pub invariant-push_body_lists-children : goal.invariant-push_body_lists-children
invariant-push_body_lists-children l = l.out.items ++ body_lists_in (from_child l.k l.tree.under) ≡ l.initial.out.items ++ body_lists_in l.tree.under
