-- The tokens of a unit, as its external declarations are walked over.
use Rattle.std.specs.Prelude.{ℕ, ◌+◌, ◌≡◌, ◌≤◌, ◌<◌, ◌==◌, ◌&&◌, ◌||◌, nat_lt, Bool, false, Option, Some, None, List, length, slice_index_or}
use Rattle.analysis.specs.Below.c99_tree.Tree.{Forest, none, token, node}
use Rattle.analysis.specs.Below.c_types.declared.lists.Range.{Range}
use Rattle.analysis.specs.Below.scope_bind.declared.bound.Name.{Name}
use Rattle.c_types.specs.Children.{from_child}
use Rattle.trim_rules.specs.Defining.{begins_node, is_edge, goes_behind, only_declares, only_declared, names_for_others}

-- a mark at a token, or none
abbrev pub is_first : ℕ → Option ℕ → Bool
is_first k None = false
is_first k (Some j) = j == k

abbrev pub is_marked : List Bool → ℕ → Bool
is_marked marks k = slice_index_or marks k false

-- a token was marked, if there is such a mark
pub record Marks (first : Option ℕ) (old new : List Bool) : Type 0 where
  pub many : length new ≡ length old
  pub each : (k : ℕ) → k < length old → is_marked new k ≡ (is_first k first || is_marked old k)

-- the marks tell where external declarations begin, and where a text of so many tokens ends
pub record AreEdges (tree : Forest) (count : ℕ) (marks : List Bool) : Type 0 where
  pub each : (k : ℕ) → is_marked marks k ≡ is_edge tree count k

-- so far: the children that are left are still to be marked
pub record AreSoFar (tree rest : Forest) (count : ℕ) (marks : List Bool) : Type 0 where
  pub many : length marks ≡ count + 1
  pub each : (j : ℕ) → j ≤ count → (is_marked marks j || begins_node j rest) ≡ ((j == count) || begins_node j tree)

-- what the child in front only declares
abbrev pub front_declares : Forest → Bool
front_declares (node l first under rest) = only_declares under
front_declares _ = false

-- For token k and those behind it the children before number `child` do not matter.
abbrev pub IsPast : Forest → ℕ → ℕ → Type 0
IsPast tree child k = (j : ℕ) → k ≤ j → only_declared j (from_child child tree) ≡ only_declared j tree

-- child number `child` is the one that token k stands in
abbrev pub IsOver : Forest → ℕ → ℕ → Type 0
IsOver tree child k = only_declared k (from_child child tree) ≡ front_declares (from_child child tree)

-- child number `child` is not the one that token k, or one behind it, stands in
abbrev pub IsBefore : Forest → ℕ → ℕ → Type 0
IsBefore tree child k = (j : ℕ) → k ≤ j → only_declared j (from_child (child + 1) tree) ≡ only_declared j (from_child child tree)

-- the marks tell which of so many tokens name what other units may use
pub record AreDefining (tree : Forest) (names : List Name) (functions : List Range) (count : ℕ) (marks : List Bool) : Type 0 where
  pub each : (k : ℕ) → is_marked marks k ≡ (nat_lt k count && names_for_others tree names functions k)
