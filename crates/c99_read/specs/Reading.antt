-- One reader of every grammar: what a table of productions makes of a list of tokens.
use Rattle.std.specs.Prelude.{ℕ, suc, zero, ◌+◌, ◌-◌, ◌*◌, Bool, false, List, [], ◌∷◌, length, Result, Ok, Err, if◌then◌else◌, nat_lt, ◌==◌, ◌&&◌}
use Rattle.cs_base.specs.Token.{Token}
use Rattle.c99_tree.specs.Tree.{none, leaf, put, Node, node_of, lone}
use Rattle.c99_tree.specs.declared.production.Production.{Production}
use Rattle.c99_tree.specs.declared.production.Production.TheVariants.{TranslationUnit}
use Rattle.c99_grammar.specs.declared.classes.Class.{Class}
use Rattle.c99_grammar.specs.Classes.{among}
use Rattle.c99_grammar.specs.First.{order}
use Rattle.c99_grammar.specs.Items.{Item, one, part, end_of_text, act, ◌·◌, choice, maybe, many, deep, Test, own, Alternative}
use Rattle.c99_read.specs.State.{State, no_names, class_at, acted, opened, closed}
use Rattle.c99_grammar.specs.Standard.{Grammar}
use Rattle.c99_grammar.specs.Starting.{holds, starts}

-- why reading stops, and at which token: nothing that may follow starts, or the 257th level would begin
pub data Stop : Type 0 where
  syntax : ℕ → Stop
  too_deep : ℕ → Stop

-- what is to be read: a production, or what is left of a repetition
pub data Goal : Type 0 where
  produce : Production → Goal
  repeat : Test → Item → Goal

abbrev pub Step : Type 0
Step = Result State Stop

abbrev pub and_then : Step → (State → Step) → Step
and_then (Ok s) next_step = next_step s
and_then (Err stop) next_step = Err stop

-- how deep constructs may nest
abbrev pub deepest : ℕ
deepest = 256

-- a token of one of these classes is next, and becomes a child of the open node
unfoldable pub take_one : Grammar → List Class → State → Step
take_one g classes s =
    if nat_lt s.at (length s.toks) && among classes (class_at g s s.at)
    then Ok (record s { at = s.at + 1; built = record s.built { under = put s.built.under (leaf s.at) } })
    else Err (syntax s.at)

-- no token is left
unfoldable pub at_end : State → Step
at_end s = if s.at == length s.toks then Ok s else Err (syntax s.at)

-- one level deeper, where something starts there
unfoldable pub enter : ℕ → Bool → State → Step
enter depth started s = if started then (if nat_lt depth deepest then Ok s else Err (too_deep s.at)) else Err (syntax s.at)

-- how many tokens are left
abbrev pub tokens_left : State → ℕ
tokens_left s = length s.toks - s.at

-- a repetition counts more than each production
abbrev pub goal_order : Goal → ℕ
goal_order (produce p) = order p
goal_order (repeat t a) = 63

-- enough steps: each production that begins without a token before it has a lower order
abbrev pub steps_for : Goal → State → ℕ
steps_for goal s = 64 * tokens_left s + goal_order goal + 1

module _ (g : Grammar) where
  -- the item may be read here
  abbrev pub may : Test → Item → State → Bool
  may t a s =
      holds g t (starts g a (class_at g s s.at) (class_at g s (s.at + 1))) (class_at g s s.at) (class_at g s (s.at + 1))

  -- A step is given what reads productions and the rest of repetitions, `below`; the depth comes first.
  module _ (below : ℕ → Goal → State → Step) where
    abbrev pub step : ℕ → Item → State → Step
    step depth (one classes) s = take_one g classes s
    step depth (part p) s = below depth (produce p) s
    step depth end_of_text s = at_end s
    step depth (act a) s = Ok (acted g a s)
    step depth (a · b) s = and_then (step depth a s) (step depth b)
    step depth (choice a b) s = if may own a s then step depth a s else (if may own b s then step depth b s else Err (syntax s.at))
    step depth (maybe a) s = if may own a s then step depth a s else Ok s
    step depth (many t a) s = if may t a s then and_then (step depth a s) (below depth (repeat t a)) else Ok s
    step depth (deep a) s = and_then (enter depth (may own a s) s) (step (depth + 1) a)

    -- an alternative: a node is opened, its items are read, and it is closed
    abbrev pub alternative : ℕ → Production → ℕ → Item → State → Step
    alternative depth p n body s = and_then (step depth body (opened p n s)) (λ s'. Ok (closed p s s'))

    -- the first alternative that starts
    abbrev pub pick : ℕ → Production → ℕ → List Alternative → State → Step
    pick depth p n [] s = Err (syntax s.at)
    pick depth p n (a ∷ more) s = if may a.test a.body s then alternative depth p n a.body s else pick depth p (n + 1) more s

    abbrev pub run : ℕ → Goal → State → Step
    run depth (produce p) s = pick depth p 1 (g.table p) s
    run depth (repeat t a) s = step depth (many t a) s

  -- reading with so many steps inside each other
  unfoldable pub read_within : ℕ → ℕ → Goal → State → Step
  read_within zero depth goal s = Err (syntax s.at)
  read_within (suc fuel) depth goal s = run (read_within fuel) depth goal s

  -- what the grammar reads for a goal, at a depth, from a state
  unfoldable pub whole : ℕ → Goal → State → Step
  whole depth goal s = read_within (steps_for goal s) depth goal s

-- ---- A whole text

-- before the first token; the node around the unit has the unit's label
abbrev pub at_first : List Token → State
at_first toks = record {
  toks = toks;
  at = 0;
  names = no_names;
  near = false;
  built = node_of (record { production = TranslationUnit; alternative = 1 }) 0 none;
}

abbrev pub tree_of : Step → Result Node Stop
tree_of (Ok s) = Ok (lone s.built.under s.built)
tree_of (Err stop) = Err stop

-- the tree of the tokens, or the first fault
abbrev pub read_of : Grammar → List Token → Result Node Stop
read_of g toks = tree_of (whole g 0 (produce TranslationUnit) (at_first toks))
