-- What a chain of edges reaches in a graph of calls, and how a list tells it.
use Rattle.std.specs.Prelude.{◌≡◌, ◌≤◌, ◌+◌, ◌↔◌, ℕ, true, List, [], ◌∷◌}
use Rattle.std.specs.List.{Contains}
use Rattle.calls_of.specs.declared.nodes.Edge.{Edge}
use Rattle.calls_of.specs.Graph.{is_edge}

-- a chain of one or more edges leads from the first node to the second
pub data Reaches (edges : List Edge) : ℕ → ℕ → Type 0 where
  one : {p q : ℕ} → is_edge edges p q ≡ true → Reaches edges p q
  more : {p q r : ℕ} → is_edge edges p q ≡ true → Reaches edges q r → Reaches edges p r

-- the numbers begin at a low one or above it, and each is below the next
abbrev pub Ascend : ℕ → List ℕ → Type 0
Ascend low [] = Unit {0}
Ascend low (n ∷ ns) = (low ≤ n) × Ascend (n + 1) ns

-- The list has exactly the numbers of which this holds, in order and each once.
pub record Lists (Holds : ℕ → Type 0) (ns : List ℕ) : Type 0 where
  pub ascending : Ascend 0 ns
  pub exactly : (n : ℕ) → Contains ns n ↔ Holds n
