-- Syntax trees (ISO/IEC 9899:1999, Annex A) as plain values.
use Rattle.std.specs.Prelude.{ℕ, zero, suc, ◌+◌, Option, None, Some}
use Rattle.c99_tree.specs.declared.production.Label.{Label}

-- Children in order: tokens by their index, and nodes with their label, the index of their first
-- token and their own children.
pub data Forest : Type 0 where
  none : Forest
  token : ℕ → Forest → Forest
  node : Label → ℕ → Forest → Forest → Forest

-- A node: its label, the index of its first token (of the next token where it has none), its children.
pub record Node : Type 0 where
  pub label : Label
  pub first : ℕ
  pub under : Forest

-- a node of these parts
abbrev pub node_of : Label → ℕ → Forest → Node
node_of label first under = record { label = label; first = first; under = under }

-- a child: a token, or a node
pub data Part : Type 0 where
  leaf : ℕ → Part
  inner : Node → Part

-- the children, with one more behind them
abbrev pub put : Forest → Part → Forest
put none (leaf i) = token i none
put none (inner n) = node n.label n.first n.under none
put (token i rest) part = token i (put rest part)
put (node label first under rest) part = node label first under (put rest part)

-- how many children there are
abbrev pub count_of : Forest → ℕ
count_of none = 0
count_of (token i rest) = count_of rest + 1
count_of (node label first under rest) = count_of rest + 1

-- child number k from 0, if there are so many
abbrev pub part_at : Forest → ℕ → Option Part
part_at none k = None
part_at (token i rest) zero = Some (leaf i)
part_at (token i rest) (suc k) = part_at rest k
part_at (node label first under rest) zero = Some (inner (node_of label first under))
part_at (node label first under rest) (suc k) = part_at rest k

-- how many tokens and nodes stand below
abbrev pub size_of : Forest → ℕ
size_of none = 0
size_of (token i rest) = size_of rest + 1
size_of (node label first under rest) = size_of under + size_of rest + 1

-- the only child, where it is a node, and else n
abbrev pub lone : Forest → Node → Node
lone (node label first under none) n = node_of label first under
lone _ n = n

-- a node whose only child is a node is replaced by that child
abbrev pub collapsed : Node → Node
collapsed n = lone n.under n
