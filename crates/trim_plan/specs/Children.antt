-- Children of trees whose tokens are at their places.
use Rattle.std.specs.Prelude.{ℕ, ◌≡◌, ◌+◌, Bool, false, Some, slice_get}
use Rattle.std.specs.Borrow.{Bor}
use Rattle.analysis.specs.Below.c99_tree.Tree.{Forest, none, token, node, Node, node_of}
use Rattle.c_types.specs.Children.{from_child, with_part}
use Rattle.c_types.specs.declared.trees.Part.{Part}
use Rattle.c_types.specs.declared.trees.Part.TheVariants as part
use Rattle.trim_plan.specs.declared.left.Left as declared
use Rattle.trim_plan.specs.Left.{place, moved, left, pruned}
use Rattle.trim_plan.specs.Places.{mark_at, IsLeftOf}

-- a node, its tokens at their places
abbrev pub moved_node : (ℕ → Bool) → Node → Node
moved_node gone n = node_of n.label (place gone n.first) (moved gone n.under)

-- a child is another, its tokens at their places
abbrev pub IsMovedPart : (ℕ → Bool) → Part → Part → Type 0
IsMovedPart gone (part.Token i) (part.Token j) = j ≡ place gone i
IsMovedPart gone (part.Node n) (part.Node m) = m.now ≡ moved_node gone n.now
IsMovedPart gone _ _ = ⊥

-- child number k is this one
abbrev pub IsChild : Forest → ℕ → Part → Type 0
IsChild f k p = from_child k f ≡ with_part p (from_child (k + 1) f)

-- child j of the second is child k of the first
pub record AreMovedAt (gone : ℕ → Bool) (old new : Forest) (k j : ℕ) : Type 0 where
  pub before : Part
  pub had : IsChild old k before
  pub now : Part
  pub has : IsChild new j now
  pub moved : IsMovedPart gone before now

-- the front of some children begins at a token that is marked
abbrev pub front_marked : declared.Left → Forest → Bool
front_marked l none = false
front_marked l (token i rest) = mark_at l.gone.items i
front_marked l (node label first under rest) = mark_at l.gone.items first

-- the children of the second from number j on are those of the first from number k on that are left
abbrev pub ArePruned : (ℕ → Bool) → Forest → Forest → ℕ → ℕ → Type 0
ArePruned gone old new k j = from_child j new ≡ moved gone (left gone (from_child k old))

-- ---- for each unit of which it is told what is left

abbrev pub IsMovedBy : declared.Left → Node → Node → Type 0
IsMovedBy l old new = (gone : ℕ → Bool) (count : ℕ) → IsLeftOf gone count l → new ≡ moved_node gone old

abbrev pub AreMovedBy : declared.Left → Forest → Forest → ℕ → ℕ → Type 0
AreMovedBy l old new k j = (gone : ℕ → Bool) (count : ℕ) → IsLeftOf gone count l → AreMovedAt gone old new k j

-- child j is a token, at the place of token i
pub record IsTokenBy (l : declared.Left) (new : Forest) (i j : ℕ) : Type 0 where
  pub at : ℕ
  pub has : IsChild new j (part.Token at)
  pub there : slice_get l.places.items i ≡ Some at

-- child j is a node, which is this one
pub record IsNodeBy (l : declared.Left) (old : Node) (new : Forest) (j : ℕ) : Type 0 where
  pub node : Bor Node
  pub has : IsChild new j (part.Node node)
  pub moved : IsMovedBy l old node.now

abbrev pub IsPassedBy : declared.Left → Forest → Forest → ℕ → ℕ → ℕ → Type 0
IsPassedBy l old new k j i = (gone : ℕ → Bool) (count : ℕ) → IsLeftOf gone count l → ArePruned gone old new (k + 1) i → ArePruned gone old new k j

abbrev pub IsPrunedBy : declared.Left → Node → Node → Type 0
IsPrunedBy l old new = (gone : ℕ → Bool) (count : ℕ) → IsLeftOf gone count l → new ≡ pruned gone old
