use Rattle.std.proofs.Common.{◌≡◌, ◌+◌, ◌*◌}
use Rattle.c99_tree.specs.Tree.{size_of}
use Rattle.c_types.specs.Children.{from_child}
use Rattle.c_types.specs.Trees.{declarator_type}
use Rattle.c_types.proofs.declarators.+typed.Given as goal

abbrev pub decreases-declarator_type : goal.decreases-declarator_type
decreases-declarator_type l = 2 * size_of l.declarator.now.under + 1

abbrev pub decreases-typed_at : goal.decreases-typed_at
decreases-typed_at l = 2 * size_of l.tree.now.under

abbrev pub invariant-declarator_type-parts : goal.invariant-declarator_type-parts
invariant-declarator_type-parts l =
    declarator_type l.typed (from_child l.k l.declarator.under) ≡ declarator_type l.initial.typed l.declarator.under
