-- What is the same by these tests is one, and each is the same as itself.
use Rattle.std.specs.Prelude.{◌≡◌, true}
use Rattle.c99_tree.specs.Tree.{Node}
use Rattle.gnu_bind.specs.Below.scope_bind.Bound.{Bound}
use Rattle.same_readings.specs.SameTrees.{same_tree}
use Rattle.same_readings.specs.SameNames.{same_bound}

abbrev pub SameTreesAreOne : Type 0
SameTreesAreOne = (t u : Node) → (same_tree t u ≡ true → t ≡ u) × (same_tree t t ≡ true)

abbrev pub SameBindingsAreOne : Type 0
SameBindingsAreOne = (a b : Bound) → (same_bound a b ≡ true → a ≡ b) × (same_bound a a ≡ true)
