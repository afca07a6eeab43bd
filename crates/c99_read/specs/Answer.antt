-- How the answers of the reader's procedures are tied to the definition.
use Rattle.std.specs.Prelude.{ℕ, ◌+◌, ◌≡◌, Bool, true, false, ◌&&◌, nat_lt, List, length, Option, None, Some, Result, Ok, Err, IfSome}
use Rattle.c99_grammar.specs.declared.dialects.Dialect.{Dialect}
use Rattle.c99_grammar.specs.declared.classes.Class.{Class}
use Rattle.c99_grammar.specs.Classes.{among}
use Rattle.c99_grammar.specs.Standard.{Grammar}
use Rattle.cs_base.specs.Token.{Token}
use Rattle.c99_tree.specs.Tree.{Node, node_of, none, leaf, inner, put}
use Rattle.c99_tree.specs.declared.production.Label.{Label}
use Rattle.c99_tree.specs.declared.production.Production.{Production}
use Rattle.c99_read.specs.declared.faults.ReadRefusal.{ReadRefusal}
use Rattle.c99_read.specs.declared.faults.ReadRefusal.TheVariants as refusal
use Rattle.c99_read.specs.declared.reader.Begun.{Begun}
use Rattle.c99_read.specs.declared.reader.Outer.{Outer}
use Rattle.c99_read.specs.State.{State, class_at, opened, names_closed, nearest, finished}
use Rattle.c99_read.specs.Kept.{Reading}
use Rattle.c99_read.specs.Reading.{Stop, syntax, too_deep, Step, at_first}

-- what the definition calls the refusal; none for want of memory
abbrev pub stop_of : ReadRefusal → Option Stop
stop_of (refusal.Syntax index) = Some (syntax index)
stop_of (refusal.TooDeep index) = Some (too_deep index)
stop_of refusal.Memory = None

-- the procedure left the state that the definition gives, or its stop, unless memory ran out
abbrev pub Reads : Result (Unit {0}) ReadRefusal → State → Step → Type 0
Reads (Ok done) new expected = expected ≡ Ok new
Reads (Err e) new expected = IfSome (stop_of e) (λ stop. expected ≡ Err stop)

-- what was handed out is what was open in the state
pub record IsAround (outer : Outer) (s : State) : Type 0 where
  pub built : outer.built ≡ s.built
  pub near : outer.near ≡ s.near

-- the state with another open node
abbrev pub with_built : State → Node → State
with_built s b = record s { built = b }

-- the node with one more child, a node
abbrev pub behind : Node → Node → Node
behind b n = record b { under = put b.under (inner n) }

-- The procedure gave the node that is read from the state whatever node is open, or the stop, unless memory ran out;
-- it left the state behind the node, with the open node as it was.
abbrev pub ReadsNode : Result Node ReadRefusal → State → State → (State → Step) → Type 0
ReadsNode (Ok n) old new read = (new.built ≡ old.built) × ((b : Node) → read (with_built old b) ≡ Ok (with_built new (behind b n)))
ReadsNode (Err e) old new read = IfSome (stop_of e) (λ stop. (b : Node) → read (with_built old b) ≡ Err stop)

-- a node was opened, unless memory ran out; what was open is there
abbrev pub Opens : Result (Unit {0}) ReadRefusal → Outer → State → State → Production → ℕ → Type 0
Opens (Ok done) outer old new p n = (new ≡ opened p n old) × IsAround outer old
Opens (Err e) outer old new p n = e ≡ refusal.Memory

-- a node that began in the state began there
pub record IsBegun (begun : Begun) (s : State) : Type 0 where
  pub at : begun.at ≡ s.at
  pub near : begun.near ≡ s.near

-- a node that began earlier was opened, with its first child, unless memory ran out; what was open is there
abbrev pub Wraps : Result (Unit {0}) ReadRefusal → Outer → State → State → Label → Begun → Node → Type 0
Wraps (Ok done) outer old new label begun first =
    (new ≡ with_built old (behind (node_of label begun.at none) first)) × (outer.built ≡ old.built) × (outer.near ≡ begun.near)
Wraps (Err e) outer old new label begun first = e ≡ refusal.Memory

-- the open node was closed and given, and what was open before is open again, unless memory ran out
abbrev pub Closes : Result Node ReadRefusal → State → State → Production → Outer → Type 0
Closes (Ok n) old new p outer =
    (new ≡ record old { names = names_closed p old.names; near = nearest p old.built outer.near; built = outer.built })
    × (n ≡ finished p old.built)
Closes (Err e) old new p outer = e ≡ refusal.Memory

-- a reader by the dialect before the first token, unless memory ran out
abbrev pub Starts : Result Reading ReadRefusal → Dialect → List Token → Type 0
Starts (Ok r) dialect toks = (r.dialect ≡ dialect) × (r.state ≡ at_first toks)
Starts (Err e) dialect toks = e ≡ refusal.Memory

-- a token of one of the classes is next
abbrev pub is_next : Grammar → List Class → State → Bool
is_next g classes s = nat_lt s.at (length s.toks) && among classes (class_at g s s.at)

-- a node of that token was given, unless memory ran out or it is not there
abbrev pub Takes : Result Node ReadRefusal → State → State → Grammar → Label → List Class → Type 0
Takes (Ok n) old new g label classes =
    (is_next g classes old ≡ true) × (n ≡ node_of label old.at (put none (leaf old.at))) × (new ≡ record old { at = old.at + 1 })
Takes (Err e) old new g label classes = IfSome (stop_of e) (λ stop. (is_next g classes old ≡ false) × (stop ≡ syntax old.at))
