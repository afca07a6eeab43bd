-- A tree that is another one with the items of lists in a new order, as a walk over both of them finds it (this project's, over ISO/IEC
-- 9899:1999, Annex A).
use Rattle.std.specs.Prelude.{ℕ, ◌+◌, ◌-◌, ◌==◌, ◌≡◌, Bool, true, false, if◌then◌else◌, Some, List, [], ◌∷◌, ◌++◌, drop, get_or, length, slice_get}
use Rattle.std.specs.List.{list_any}
use Rattle.c99_tree.specs.Tree.{Forest, none, token, node, Node}
use Rattle.c99_tree.specs.declared.production.Label.{Label}
use Rattle.c_types.specs.Children.{from_child}
use Rattle.c_types.specs.Parameters.{ends_in_token}
use Rattle.reordered_tree_laws.specs.Reordered.{nodes_in, refilled, picked_nodes, shuffled, is_among, permuted, leaves, numbered}
use Rattle.template_meaning.specs.Children.{EachNode}

-- a list begins with token k
abbrev pub begun : List ℕ → ℕ → Bool
begun begins k = list_any (λ b. b == k) begins

module _ (order begins : List ℕ) where
  -- the children in the new order, which may themselves stand in the parentheses of a list
  abbrev pub turned : Bool → Forest → Forest
  turned listed f = permuted order (begun begins) listed f

  -- those of a node among them
  abbrev pub inside : Bool → Label → Forest → Forest
  inside listed l under = if listed then shuffled order (turned false under) else turned (is_among (begun begins) l under) under

  -- the items of a list in the new order from number j on, and the children from number k on that they stand among
  abbrev pub items_on : Forest → ℕ → ℕ → Forest
  items_on under j k = refilled (drop j (picked_nodes order (nodes_in (turned false under)))) (turned false (from_child k under))

-- The tokens `before` are passed. These children are the others, with their tokens numbered on, and `after` are passed then.
abbrev pub Matches : Forest → Forest → List ℕ → List ℕ → Type 0
Matches f new before after = (new ≡ numbered (length before) f) × (after ≡ before ++ leaves f)

-- So it is, if it is so with those behind: g and `rest` are what is behind in f and `new`.
abbrev pub MatchesOn : Forest → Forest → Forest → Forest → List ℕ → List ℕ → Type 0
MatchesOn f g new rest before after =
    (rest ≡ numbered (length after) g → new ≡ numbered (length before) f) × (after ++ leaves g ≡ before ++ leaves f)

-- child number k is a token, the next one, and token i is passed
abbrev pub IsTokenPut : Forest → ℕ → ℕ → List ℕ → List ℕ → Type 0
IsTokenPut new k i before after = (from_child k new ≡ token (length before) (from_child (k + 1) new)) × (after ≡ before ++ i ∷ [])

-- a node is this one, with these children
abbrev pub IsNodePut : Node → Label → Forest → List ℕ → List ℕ → Type 0
IsNodePut n l f before after = (n.label ≡ l) × ((n.first ≡ length before) × Matches f n.under before after)

-- child number k is such a node
abbrev pub IsChildPut : Forest → ℕ → Label → Forest → List ℕ → List ℕ → Type 0
IsChildPut new k l f before after =
    (u : Forest) × (from_child k new ≡ node l (length before) u (from_child (k + 1) new)) × Matches f u before after

-- the node with a number, from 1
abbrev pub IsNodeNumber : Forest → ℕ → Node → Type 0
IsNodeNumber f number n = slice_get (nodes_in f) (number - 1) ≡ Some n

-- child number k of the second is the item that the order names for place j, from 0
abbrev pub IsItemPut : List ℕ → List ℕ → Forest → Forest → ℕ → ℕ → List ℕ → List ℕ → Type 0
IsItemPut order begins old new k j before after =
    (n : Node) × IsNodeNumber old (get_or order j 0) n × IsChildPut new k n.label (inside order begins false n.label n.under) before after

-- The second tree is the first in the new order, and these are the numbers that its tokens have in the first.
pub record IsTurnedTree (order begins : List ℕ) (old new : Node) (perm : List ℕ) : Type 0 where
  pub label : new.label ≡ old.label
  pub first : new.first ≡ 0
  pub children : Matches (turned order begins false old.under) new.under [] perm

-- ---- lists, and how many items they have

-- a node is a list that begins with one of these tokens
abbrev pub is_listed : List ℕ → Label → Forest → Bool
is_listed begins l under = is_among (begun begins) l under

-- the last child is a token
abbrev pub ends_so : Forest → Bool
ends_so f = ends_in_token false f

-- how many children are nodes
abbrev pub node_count : Forest → ℕ
node_count f = length (nodes_in f)

-- each node among the children has so many nodes among its own
abbrev pub ItemsAre : ℕ → Forest → Type 0
ItemsAre n none = Unit {0}
ItemsAre n (token i rest) = ItemsAre n rest
ItemsAre n (node l first under rest) = (node_count under ≡ n) × ItemsAre n rest

-- so it is with a list that begins with one of these tokens
abbrev pub HaveItems : ℕ → List ℕ → Label → Forest → Type 0
HaveItems n begins l under = is_listed begins l under ≡ true → ItemsAre n under

-- .. with each below
abbrev pub EachHas : ℕ → List ℕ → Forest → Type 0
EachHas n begins f = EachNode (HaveItems n begins) f
