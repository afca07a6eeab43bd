-- A tree whose children are told in two parts, one behind the other.
use Rattle.c99_tree.specs.Tree.{Forest, none, token, node, Node}

-- some children, and others behind them
abbrev pub joined : Forest → Forest → Forest
joined none g = g
joined (token i rest) g = token i (joined rest g)
joined (node l first under rest) g = node l first under (joined rest g)

-- a node with the children of another behind its own
abbrev pub followed : Node → Node → Node
followed n m = record n { under = joined n.under m.under }
