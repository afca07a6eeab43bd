-- Reading that goes on behind the first external declarations of a text (ISO/IEC 9899:1999, 6.9), and texts that begin
-- alike.
use Rattle.std.specs.Prelude.{ℕ, zero, suc, ◌+◌, ◌<◌, ◌≤◌, ◌≡◌, List, length, Ok, Err, if◌then◌else◌}
use Rattle.cs_base.specs.Token.{Token}
use Rattle.c99_tree.specs.Tree.{Forest, Node, node_of}
use Rattle.c99_tree.specs.Joined.{joined}
use Rattle.c99_tree.specs.declared.production.Production.TheVariants.{TranslationUnit, External}
use Rattle.c99_grammar.specs.declared.dialects.Dialect.{Dialect}
use Rattle.c99_grammar.specs.Items.{part, own}
use Rattle.c99_grammar.specs.Standard.{Grammar, grammar}
use Rattle.c99_read.specs.State.{State, Names, base_at, spelling_at}
use Rattle.c99_read.specs.Reading.{Step, and_then, may, whole, produce, syntax, at_first}

-- one external declaration, which becomes a child of the open node
abbrev pub external : Grammar → State → Step
external g s = if may g own (part External) s then whole g 0 (produce External) s else Err (syntax s.at)

-- so many of them, one after another
abbrev pub externals : Grammar → ℕ → State → Step
externals g zero s = Ok s
externals g (suc k) s = and_then (externals g k s) (external g)

-- the node around a unit with these children
abbrev pub unit_of : Forest → Node
unit_of under = node_of (record { production = TranslationUnit; alternative = 1 }) 0 under

-- the state, with these children in front of those that the open node has
abbrev pub behind_children : Forest → State → State
behind_children f s = record s { built = record s.built { under = joined f s.built.under } }

-- two nodes are the same but for their children
pub record IsSameNode (a b : Node) : Type 0 where
  pub label : b.label ≡ a.label
  pub first : b.first ≡ a.first

-- The first n tokens of two texts have equal classes and spellings.
pub record BeginAlike (g : Grammar) (n : ℕ) (a b : List Token) : Type 0 where
  pub first : n ≤ length a
  pub second : n ≤ length b
  pub classes : (k : ℕ) → k < n → base_at g a k ≡ base_at g b k
  pub spellings : (k : ℕ) → k < n → spelling_at a k ≡ spelling_at b k

-- What is kept of the beginning of a text: its tokens as far as reading has seen them, how many external declarations have
-- been read, where the next one begins, the names that are known there, and the node around the unit as far as it is built.
pub record FrontValue : Type 0 where
  pub dialect : Dialect
  pub toks : List Token
  pub count : ℕ
  pub at : ℕ
  pub names : Names
  pub tree : Node

abbrev pub front_value : Dialect → List Token → ℕ → ℕ → Names → Node → FrontValue
front_value d toks count at names tree =
    record { dialect = d; toks = toks; count = count; at = at; names = names; tree = tree }

-- the state of reading at the end of a front, in a text that begins so
abbrev pub state_in : List Token → FrontValue → State
state_in toks f = record (at_first toks) { at = f.at; names = f.names; built = f.tree }

-- An external declaration has been read. Reading its tokens leads there, and it has seen the token behind the next one.
pub record IsFront (f : FrontValue) : Type 0 where
  pub some : 1 ≤ f.count
  pub read : externals (grammar f.dialect) f.count (at_first f.toks) ≡ Ok (state_in f.toks f)
  pub seen : f.at + 1 < length f.toks
  pub unit : f.tree ≡ unit_of f.tree.under

-- a text begins with the tokens of a front
abbrev pub BeginsWith : List Token → FrontValue → Type 0
BeginsWith toks f = BeginAlike (grammar f.dialect) (length f.toks) f.toks toks

-- ---- Laws

-- What is read of a text, looking at its first n tokens alone, is read of each text that begins with them.
abbrev pub FrontsReadAlike : Type 0
FrontsReadAlike =
    (d : Dialect) (n k : ℕ) (a b : List Token) (s : State) → BeginAlike (grammar d) n a b
    → externals (grammar d) k (at_first a) ≡ Ok s → s.at + 1 < n
    → externals (grammar d) k (at_first b) ≡ Ok (record s { toks = b })
