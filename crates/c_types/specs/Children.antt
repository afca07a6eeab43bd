-- Walks over the children of a node: the children from one of them on, and what one child is.
use Rattle.std.specs.Prelude.{ℕ, zero, suc, ◌+◌, ◌<◌, ◌^◌, ◌≡◌, Option, None, Some}
use Rattle.c99_tree.specs.Tree.{Forest, none, token, node, Node as ANode, node_of, size_of}
use Rattle.c_types.specs.declared.trees.Part.{Part}
use Rattle.c_types.specs.declared.trees.Part.TheVariants.{End, Token, Node}

-- the children from number k on
abbrev pub from_child : ℕ → Forest → Forest
from_child zero f = f
from_child (suc k) none = none
from_child (suc k) (token i rest) = from_child k rest
from_child (suc k) (node l first under rest) = from_child k rest

-- the children, with this one in front of them
abbrev pub with_part : Part → Forest → Forest
with_part End rest = rest
with_part (Token i) rest = token i rest
with_part (Node t) rest = node t.now.label t.now.first t.now.under rest

-- a child that is there has a number behind it
abbrev pub HasRoom : Part → ℕ → Type 0
HasRoom End k = Unit {0}
HasRoom (Token i) k = k + 1 < 2 ^ 32
HasRoom (Node t) k = k + 1 < 2 ^ 32

-- past the last child nothing is left, and a child has fewer tokens and nodes below it than its parent
abbrev pub IsBelow : Part → Forest → Forest → Type 0
IsBelow End here whole = here ≡ none
IsBelow (Token i) here whole = Unit {0}
IsBelow (Node t) here whole = size_of t.now.under < size_of whole

-- the only child, where it is a node
abbrev pub only_node : Forest → Option ANode
only_node (node l first under none) = Some (node_of l first under)
only_node _ = None

-- a node that is the only child, where nothing stands behind it
abbrev pub only_if : ANode → Part → Option ANode
only_if n End = Some n
only_if n _ = None
