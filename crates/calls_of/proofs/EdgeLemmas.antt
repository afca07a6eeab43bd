-- What an edge leads to.
use Rattle.std.proofs.Common.{◌≡◌, ℕ, ◌<◌, true, List, [], ◌∷◌, ⊎_elim}
use Rattle.std.specs.Prelude.{◌==◌, All}
use Rattle.std.proofs.lemmas.Bool.{eqb-true, and_parts, or_cases, false≢true}
use Rattle.std.proofs.lemmas.List.Elements.{All-head, All-tail}
use Rattle.calls_of.specs.declared.nodes.Edge.{Edge}
use Rattle.calls_of.specs.Graph.{leads, is_edge, IsWithin}

-- an edge leads to a node that is there
pub edge-within : (nodes : ℕ) (edges : List Edge) (p q : ℕ) → All (IsWithin nodes) edges → is_edge edges p q ≡ true → q < nodes
edge-within nodes [] p q within h = absurd (false≢true h)
edge-within nodes (e ∷ es) p q within h =
    ⊎_elim
    (λ (here : leads p q e ≡ true).
    let to : e.callee ≡ q = eqb-true e.callee q (and_parts (e.caller == p) (e.callee == q) here).1 in
    rw (← to) (All-head (IsWithin nodes) e es within).callee)
    (λ (later : is_edge es p q ≡ true). edge-within nodes es p q (All-tail (IsWithin nodes) e es within) later)
    (or_cases (leads p q e) (is_edge es p q) h)
