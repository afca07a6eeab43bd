-- The children of the node with the items of a list, where other items stand in their places.
use Rattle.std.proofs.Common.{ℕ, Bool, List, [], ◌∷◌, map}
use Rattle.c99_tree.specs.Tree.{Forest, none, token, node}
use Rattle.reordered_tree_laws.specs.Reordered.{refilled}
use Rattle.reordered_tree_laws.proofs.Spots.{Spot}
use Rattle.reordered_tree_laws.proofs.OldItems.{moved_node}

-- there are as many items as children that are nodes
abbrev pub Fits : Forest → List Spot → Type 0
Fits none [] = Unit {0}
Fits none (q ∷ qs) = ⊥
Fits (token i rest) qs = Fits rest qs
Fits (node l first under rest) [] = ⊥
Fits (node l first under rest) (q ∷ qs) = Fits rest qs

-- the children, with these items, in which lists are in the new order
abbrev pub placed_items : List ℕ → (ℕ → Bool) → Forest → List Spot → Forest
placed_items order lists h qs = refilled (map (moved_node order lists) qs) h
