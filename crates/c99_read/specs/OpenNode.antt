-- A node whose last child waits beside the others.
use Rattle.std.specs.Prelude.{Option, None, Some}
use Rattle.c99_tree.specs.Tree.{Node, inner, put}

-- the node with its last child behind the others
abbrev pub with_last : Node → Option Node → Node
with_last n None = n
with_last n (Some last) = record n { under = put n.under (inner last) }
