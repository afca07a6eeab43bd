-- The marks of the lists of a tree: parentheses, and commas between the items (ISO/IEC 9899:1999, 6.5.2.2, 6.7.5.3).
use Rattle.std.specs.Prelude.{ℕ, ◌≡◌, ◌⊎◌, Bool, true, false, List, [], ◌∷◌, ◌++◌}
use Rattle.c99_tree.specs.Tree.{Forest, none, token, node, Node}
use Rattle.c99_tree.specs.declared.production.Label.{Label}
use Rattle.c_types.specs.Lists.{odd_tokens}
use Rattle.tree_laws.specs.TreesOfTexts.{token_count, AreFrom}
use Rattle.reordered_tree_laws.specs.Reordered.{is_among}
use Rattle.reordered_tree_laws.specs.Cuts.{cut_in}
use Rattle.reordered_text_laws.specs.Marks.{marks_of, HasMarks, Each}

-- one of these
abbrev pub IsAmong : {X : Type 0} → List X → X → Type 0
IsAmong [] x = ⊥
IsAmong (y ∷ xs) x = (y ≡ x) ⊎ IsAmong xs x

-- this is so of each node below
abbrev pub EachNode : (Label → Forest → Type 0) → Forest → Type 0
EachNode P none = Unit {0}
EachNode P (token i rest) = EachNode P rest
EachNode P (node l first under rest) = P l under × EachNode P under × EachNode P rest

-- ---- what stands in parentheses

-- no node, as in a list of identifiers
abbrev pub has_no_node : Forest → Bool
has_no_node none = true
has_no_node (token i rest) = has_no_node rest
has_no_node (node l first under rest) = false

abbrev mutual
  -- nodes, with a token between each two
  pub is_woven : Forest → Bool
  is_woven none = false
  is_woven (token i rest) = false
  is_woven (node l first under rest) = is_woven_on rest

  pub is_woven_on : Forest → Bool
  is_woven_on none = true
  is_woven_on (node l first under rest) = false
  is_woven_on (token i rest) = is_woven rest

-- A list in parentheses: nothing or identifiers stand in it, or items with a token between each two; and of the marks of
-- such items this is so.
abbrev pub ItemsAre : (List ℕ → Type 0) → ℕ → ℕ → Forest → Type 0
ItemsAre P i j items = (has_no_node items ≡ true) ⊎ ((is_woven items ≡ true) × P (i ∷ (odd_tokens 0 items ++ j ∷ [])))

abbrev pub ListIs : (List ℕ → Type 0) → Forest → Type 0
ListIs P (token i (token j none)) = Unit {0}
ListIs P (token i (node l first items (token j none))) = ItemsAre P i j items
ListIs P _ = ⊥

-- of the lists that begin with these tokens
abbrev pub ListsAre : (ℕ → Bool) → (List ℕ → Type 0) → Label → Forest → Type 0
ListsAre lists P l under = is_among lists l under ≡ true → ListIs P under

-- The cut of such a tree, of so many tokens, has marks that are among these, and those of all its lists with items.
pub record TreeHasMarks (lists : ℕ → Bool) (ls : List (List ℕ)) (tree : Node) : Type 0 where
  pub marks : HasMarks 0 0 (token_count tree.under) (cut_in lists tree)
  pub each : Each (IsAmong ls) (marks_of 0 (cut_in lists tree))
  pub all : EachNode (ListsAre lists (IsAmong (marks_of 0 (cut_in lists tree)))) tree.under

-- The law.
abbrev pub TreesHaveMarks : Type 0
TreesHaveMarks = (lists : ℕ → Bool) (ls : List (List ℕ)) (tree : Node) → AreFrom 0 tree.under → EachNode (ListsAre lists (IsAmong ls)) tree.under → TreeHasMarks lists ls tree
