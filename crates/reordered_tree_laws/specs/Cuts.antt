-- The lists of a tree among its tokens: the cut by which these change places (this project's).
use Rattle.std.specs.Prelude.{ℕ, ◌+◌, Bool, true, false}
use Rattle.c99_tree.specs.Tree.{Forest, none, token, node, Node}
use Rattle.list_cuts.specs.Cuts.{Cut, done, keep, list, Items, ended, item}
use Rattle.tree_laws.specs.TreesOfTexts.{token_count}
use Rattle.reordered_tree_laws.specs.Reordered.{is_among}

-- how many tokens stand before the next node
abbrev pub gap_in : Forest → ℕ
gap_in none = 0
gap_in (token i rest) = gap_in rest + 1
gap_in (node l first under rest) = 0

module _ (lists : ℕ → Bool) where
  abbrev mutual
    -- The cut of the tokens below some children, which may themselves stand in the parentheses of a list, and of what
    -- follows them.
    pub cut_then : Bool → Forest → Cut → Cut
    cut_then listed none c = c
    cut_then listed (token i rest) c = keep 1 (cut_then listed rest c)
    cut_then true (node l first under rest) c = list_then under (cut_then true rest c)
    cut_then false (node l first under rest) c = cut_then (is_among lists l under) under (cut_then false rest c)

    -- a list whose items are the nodes
    pub list_then : Forest → Cut → Cut
    list_then none c = c
    list_then (token i rest) c = keep 1 (list_then rest c)
    list_then (node l first under rest) c =
        list (item (token_count under) (cut_then (is_among lists l under) under done) (gap_in rest) (items_in rest)) c

    -- its items from the next one on
    pub items_in : Forest → Items
    items_in none = ended
    items_in (token i rest) = items_in rest
    items_in (node l first under rest) =
        item (token_count under) (cut_then (is_among lists l under) under done) (gap_in rest) (items_in rest)

-- The cut of the tokens of a tree, by the lists that begin with these tokens.
abbrev pub cut_in : (ℕ → Bool) → Node → Cut
cut_in lists tree = cut_then lists false tree.under done
