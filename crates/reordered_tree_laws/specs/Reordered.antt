-- A tree in which the items of some lists stand in another order (this project's): the parameters of parameter lists and
-- the arguments of calls change places (ISO/IEC 9899:1999, 6.7.5.3 and 6.5.2.2), and all else stays where it is.
use Rattle.std.specs.Prelude.{ℕ, ◌+◌, ◌-◌, Bool, false, ◌&&◌, ◌||◌, List, [], ◌∷◌, ◌++◌, map, get_or, if◌then◌else◌}
use Rattle.c99_tree.specs.Tree.{Forest, none, token, node, Node, node_of}
use Rattle.c99_tree.specs.declared.production.Label.{Label}
use Rattle.c99_tree.specs.declared.production.Production.TheVariants.{Post, Args}
use Rattle.c_types.specs.Trees.{is_at, is_list, first_token}
use Rattle.c_types.specs.Parameters.{ends_in_token}
use Rattle.tree_laws.specs.TreesOfTexts.{token_count}

-- ---- Children in another order

-- the children that are nodes
abbrev pub nodes_in : Forest → List Node
nodes_in none = []
nodes_in (token i rest) = nodes_in rest
nodes_in (node l first under rest) = node_of l first under ∷ nodes_in rest

-- the children, with these nodes in place of those that are nodes, as far as they go
abbrev pub refilled : List Node → Forest → Forest
refilled ns none = none
refilled ns (token i rest) = token i (refilled ns rest)
refilled [] (node l first under rest) = node l first under rest
refilled (n ∷ ns) (node l first under rest) = node n.label n.first n.under (refilled ns rest)

-- a node without children, where a number is none of a node
abbrev pub no_node : Node
no_node = node_of (record { production = Args; alternative = 1 }) 0 none

-- node `order[k]` at place k; they count from 1
abbrev pub picked_nodes : List ℕ → List Node → List Node
picked_nodes order ns = map (λ k. get_or ns (k - 1) no_node) order

-- the nodes among the children in a new order; the tokens between them stay
abbrev pub shuffled : List ℕ → Forest → Forest
shuffled order f = refilled (picked_nodes order (nodes_in f)) f

-- ---- Lists in another order

-- the arguments of a call in their parentheses, or a parameter list
abbrev pub is_parenthesised : Label → Bool
is_parenthesised l = is_at l Post 2 || is_list l

-- .. that begins with one of these tokens, and ends with a token
abbrev pub is_among : (ℕ → Bool) → Label → Forest → Bool
is_among lists l under = is_parenthesised l && (lists (first_token under 0) && ends_in_token false under)

module _ (order : List ℕ) (lists : ℕ → Bool) where
  -- The children, with all lists in them that begin with one of the tokens in the new order; they may themselves stand in
  -- the parentheses of such a list. Tokens have their old numbers.
  abbrev pub permuted : Bool → Forest → Forest
  permuted listed none = none
  permuted listed (token i rest) = token i (permuted listed rest)
  permuted listed (node l first under rest) =
      node l first (if listed then shuffled order (permuted false under) else permuted (is_among lists l under) under)
      (permuted listed rest)

-- ---- Tokens in another order

-- the tokens below some children, in order
abbrev pub leaves : Forest → List ℕ
leaves none = []
leaves (token i rest) = i ∷ leaves rest
leaves (node l first under rest) = leaves under ++ leaves rest

-- the tokens are numbered anew, from k on
abbrev pub numbered : ℕ → Forest → Forest
numbered k none = none
numbered k (token i rest) = token k (numbered (k + 1) rest)
numbered k (node l first under rest) = node l k (numbered k under) (numbered (k + token_count under) rest)

-- The tree of the text in which the items of the lists that begin with these tokens stand in the new order.
abbrev pub reordered : List ℕ → (ℕ → Bool) → Node → Node
reordered order lists tree = node_of tree.label 0 (numbered 0 (permuted order lists false tree.under))
