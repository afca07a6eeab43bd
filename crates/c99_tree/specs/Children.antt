-- What a tree's private children show.
use Rattle.std.specs.Prelude.{ℕ, ◌+◌, List, [], ◌∷◌, Bool, true, false}
use Rattle.c99_tree.specs.Tree.{Forest, none, token, node, Part, leaf, inner}
use Rattle.c99_tree.specs.declared.tree.Branch.{Branch}
use Rattle.c99_tree.specs.declared.tree.Branch.TheVariants.{Token, Inner}
use Rattle.c99_tree.specs.declared.tree.Child.{Child}
use Rattle.c99_tree.specs.declared.tree.Child.TheVariants as child

-- a private child as a part
abbrev pub part_of : Branch → Part
part_of (Token i) = leaf i
part_of (Inner t) = inner t

-- the children as a forest
abbrev pub forest_of : List Branch → Forest
forest_of [] = none
forest_of (Token i ∷ more) = token i (forest_of more)
forest_of (Inner t ∷ more) = node t.label t.first t.under (forest_of more)

-- the children, where a token may lead them
abbrev pub led : Bool → ℕ → Forest → Forest
led true i f = token i f
led false i f = f

-- how many they are, where n follow
abbrev pub led_count : Bool → ℕ → ℕ
led_count true n = n + 1
led_count false n = n

-- a child that is handed out, as a part
abbrev pub shown : Child → Part
shown (child.Token i) = leaf i
shown (child.Node t) = inner t.now

-- the only child is a node
abbrev pub is_lone : List Branch → Bool
is_lone (Inner t ∷ []) = true
is_lone _ = false
