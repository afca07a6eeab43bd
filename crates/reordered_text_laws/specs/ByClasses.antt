-- Reading by the classes of tokens alone (ISO/IEC 9899:1999, Annex A.2): what a table of productions makes of tokens whose
-- classes no declaration changes. It keeps nothing of what stood before, so what is read tells not where it began.
use Rattle.std.specs.Prelude.{ℕ, suc, zero, ◌+◌, Bool, ◌&&◌, List, [], ◌∷◌, ◌++◌, Option, None, Some, if◌then◌else◌, nat_lt}
use Rattle.c99_tree.specs.Tree.{Forest, none, token, node, node_of, inner, put}
use Rattle.c99_tree.specs.declared.production.Production.{Production}
use Rattle.c99_grammar.specs.declared.classes.Class.{Class}
use Rattle.c99_grammar.specs.declared.classes.Class.TheVariants.{End, NoClass}
use Rattle.c99_grammar.specs.Classes.{among}
use Rattle.c99_grammar.specs.Items.{Item, one, part, end_of_text, act, ◌·◌, choice, maybe, many, deep, Test, own, Alternative}
use Rattle.c99_grammar.specs.Standard.{Grammar}
use Rattle.c99_grammar.specs.Starting.{holds, starts}
use Rattle.c99_read.specs.State.{finished}
use Rattle.c99_read.specs.Reading.{Goal, produce, repeat, deepest}

-- ---- Children

-- some children, and others behind them
abbrev pub joined : Forest → Forest → Forest
joined none more = more
joined (token i rest) more = token i (joined rest more)
joined (node l first under rest) more = node l first under (joined rest more)

-- the tokens below some children, in order
abbrev pub tokens_of : Forest → List ℕ
tokens_of none = []
tokens_of (token i rest) = i ∷ tokens_of rest
tokens_of (node l first under rest) = tokens_of under ++ tokens_of rest

-- the numbers from one on, so many
abbrev pub numbers_from : ℕ → ℕ → List ℕ
numbers_from from zero = []
numbers_from from (suc n) = from ∷ numbers_from (from + 1) n

-- the children without what their nodes are told of where they begin
abbrev pub untold : Forest → Forest
untold none = none
untold (token i rest) = token i (untold rest)
untold (node l first under rest) = node l 0 (untold under) (untold rest)

-- ---- Readings

-- what was read: the children, and the tokens that are left; nodes are not told where they begin
pub record Taken : Type 0 where
  pub read : Forest
  pub left : List ℕ

abbrev pub taken : Forest → List ℕ → Taken
taken f xs = record { read = f; left = xs }

-- more is read behind some children
abbrev pub behind_children : Forest → Option Taken → Option Taken
behind_children f None = None
behind_children f (Some t) = Some (taken (joined f t.read) t.left)

abbrev pub then_read : Option Taken → (List ℕ → Option Taken) → Option Taken
then_read None more = None
then_read (Some t) more = behind_children t.read (more t.left)

-- the child that some children of an alternative of a production become
abbrev pub child_of : Production → ℕ → Forest → Forest
child_of p n f = put none (inner (finished p (node_of (record { production = p; alternative = n }) 0 f)))

abbrev pub as_child : Production → ℕ → Option Taken → Option Taken
as_child p n None = None
as_child p n (Some t) = Some (taken (child_of p n t.read) t.left)

-- Tokens are told apart by numbers; `class_of` gives the class of each.
module _ (g : Grammar) (class_of : ℕ → Class) where
  -- the classes of the next token and of the one behind it
  abbrev pub here : List ℕ → Class
  here [] = End
  here (i ∷ more) = class_of i

  abbrev pub behind : List ℕ → Class
  behind [] = NoClass
  behind (i ∷ more) = here more

  -- the item may be read here
  abbrev pub may_read : Test → Item → List ℕ → Bool
  may_read t a xs = holds g t (starts g a (here xs) (behind xs)) (here xs) (behind xs)

  abbrev pub read_one : List Class → List ℕ → Option Taken
  read_one classes [] = None
  read_one classes (i ∷ more) = if among classes (class_of i) then Some (taken (token i none) more) else None

  abbrev pub read_end : List ℕ → Option Taken
  read_end [] = Some (taken none [])
  read_end (i ∷ more) = None

  -- what reads productions and the rest of repetitions is given, `below`; the depth comes first
  module _ (below : ℕ → Goal → List ℕ → Option Taken) where
    abbrev pub read_item : ℕ → Item → List ℕ → Option Taken
    read_item depth (one classes) xs = read_one classes xs
    read_item depth (part p) xs = below depth (produce p) xs
    read_item depth end_of_text xs = read_end xs
    read_item depth (act a) xs = Some (taken none xs)
    read_item depth (a · b) xs = then_read (read_item depth a xs) (read_item depth b)
    read_item depth (choice a b) xs = if may_read own a xs then read_item depth a xs else (if may_read own b xs then read_item depth b xs else None)
    read_item depth (maybe a) xs = if may_read own a xs then read_item depth a xs else Some (taken none xs)
    read_item depth (many t a) xs = if may_read t a xs then then_read (read_item depth a xs) (below depth (repeat t a)) else Some (taken none xs)
    read_item depth (deep a) xs = if may_read own a xs && nat_lt depth deepest then read_item (depth + 1) a xs else None

    -- the first alternative that starts
    abbrev pub read_first : ℕ → Production → ℕ → List Alternative → List ℕ → Option Taken
    read_first depth p n [] xs = None
    read_first depth p n (a ∷ more) xs =
        if may_read a.test a.body xs then as_child p n (read_item depth a.body xs) else read_first depth p (n + 1) more xs

    abbrev pub read_goal : ℕ → Goal → List ℕ → Option Taken
    read_goal depth (produce p) xs = read_first depth p 1 (g.table p) xs
    read_goal depth (repeat t a) xs = read_item depth (many t a) xs

  -- reading with so many steps inside each other
  unfoldable pub read_by_classes : ℕ → ℕ → Goal → List ℕ → Option Taken
  read_by_classes zero depth goal xs = None
  read_by_classes (suc fuel) depth goal xs = read_goal (read_by_classes fuel) depth goal xs
