-- A walk along edges: what the functions that make its steps promise.
use Rattle.std.specs.Prelude.{ℕ, Bool, true, false, ◌==◌, List, [], ◌∷◌, ◌++◌, length, slice_set, slice_index_or, if◌then◌else◌}
use Rattle.calls_of.specs.declared.nodes.Edge.{Edge}
use Rattle.calls_of.specs.Graph.{numbers_of}

-- a mark for each node that was met, and the nodes that are still to be gone on from
pub record WalkValue : Type 0 where
  pub marks : List Bool
  pub work : List ℕ

-- a walk of these parts
abbrev pub walk : List Bool → List ℕ → WalkValue
walk marks work = record { marks = marks; work = work }

-- a node is marked
abbrev pub is_marked : List Bool → ℕ → Bool
is_marked marks node = slice_index_or marks node false

-- the numbers of the nodes that are marked, in order
abbrev pub marked_numbers : List Bool → List ℕ
marked_numbers marks = numbers_of (is_marked marks) (length marks)

-- A node is met: where it is there and has no mark, it is marked, and is to be gone on from.
abbrev pub met : ℕ → WalkValue → WalkValue
met node w =
    if slice_index_or w.marks node true then w
    else walk (slice_set w.marks node true) (w.work ++ node ∷ [])

-- the walk after an edge, which counts if it leads from this node
abbrev pub followed : ℕ → WalkValue → Edge → WalkValue
followed caller w e = if e.caller == caller then met e.callee w else w
