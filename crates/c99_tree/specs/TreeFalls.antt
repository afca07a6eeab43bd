-- Each node below a node has fewer tokens and nodes below it.
use Rattle.std.specs.Prelude.{ℕ, ◌≤◌, max, Bool, true, false, List, [], ◌∷◌}
use Rattle.std.proofs.Common.{arith}
use denote.Param.Weighed.{most}
use Rattle.c99_tree.specs.declared.tree.Branch.{Branch}
use Rattle.c99_tree.specs.declared.tree.Branch.TheVariants.{Token, Inner}
use Rattle.c99_tree.specs.declared.tree.Tree.TheDeep.{deep-Branch}
use Rattle.c99_tree.specs.Tree.{size_of}
use Rattle.c99_tree.specs.Children.{forest_of, led}

pub deepest_le-size_of : (kids : List Branch) → max (most deep-Branch kids) 0 ≤ size_of (forest_of kids)
deepest_le-size_of [] = omega arith
deepest_le-size_of (Token i ∷ kids) = omega (arith, deepest_le-size_of kids)
deepest_le-size_of (Inner t ∷ kids) = omega (arith, deepest_le-size_of kids)

pub deepest_le-led : (leads : Bool) (first : ℕ) (kids : List Branch) → max (most deep-Branch kids) 0 ≤ size_of (led leads first (forest_of kids))
deepest_le-led true first kids = omega (arith, deepest_le-size_of kids)
deepest_le-led false first kids = deepest_le-size_of kids
