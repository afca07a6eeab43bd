use Rattle.std.proofs.Common.{◌≡◌}
use Rattle.c_types.specs.Children.{from_child}
use Rattle.gnu_bind.specs.Senses.{declares_labels}
use Rattle.gnu_bind.proofs.senses.declares_labels.Given as goal

abbrev pub invariant-children : goal.invariant-children
invariant-children l = declares_labels (from_child l.k l.tree.under) ≡ declares_labels l.tree.under
