-- What is true of a tree in which the items of lists stand in another order: laws that callers' proofs cite.
use Rattle.std.specs.Prelude.{ℕ, ◌≡◌, Bool, false, List, length}
use Rattle.c99_tree.specs.Tree.{Node}
use Rattle.list_cuts.specs.Cuts.{IsOrder, arranged, AreOf}
use Rattle.tree_laws.specs.TreesOfTexts.{IsTreeOf}
use Rattle.reordered_tree_laws.specs.Reordered.{permuted, leaves, reordered}
use Rattle.reordered_tree_laws.specs.Cuts.{cut_in}

-- The tokens of the tree in the new order are the arranged ones.
abbrev pub TokensAreArranged : Type 0
TokensAreArranged =
    (order : List ℕ) (lists : ℕ → Bool) (tree : Node) → AreOf (length order) (cut_in lists tree)
    → leaves (permuted order lists false tree.under) ≡ arranged order (cut_in lists tree) (leaves tree.under)

-- It is the tree of a text with as many tokens.
abbrev pub ReorderedTreesAreOfTheirTexts : Type 0
ReorderedTreesAreOfTheirTexts =
    (n count : ℕ) (order : List ℕ) (lists : ℕ → Bool) (tree : Node) → IsOrder n order → AreOf n (cut_in lists tree)
    → IsTreeOf count tree → IsTreeOf count (reordered order lists tree)
