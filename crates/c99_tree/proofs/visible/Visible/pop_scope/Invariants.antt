use Rattle.std.proofs.Common.{◌≡◌, ◌+◌, length, reverse}
use Rattle.c99_tree.specs.Names.{ended}
use Rattle.c99_tree.specs.Marks.{scopes_of, IsKept}
use Rattle.c99_tree.proofs.MarkLemmas.{outer_of}
use Rattle.c99_tree.proofs.visible.Visible.pop_scope.Given as goal

abbrev pub invariant-steps : goal.invariant-steps
invariant-steps l =
    IsKept l.self-inside.names (reverse l.self-inside.steps.items) (l.self-inside.open_count + 1)
    × (outer_of (scopes_of l.self-inside.names.names (reverse l.self-inside.steps.items))
    ≡ ended (scopes_of l.initial.self-inside.names.names (reverse l.initial.self-inside.steps.items)))

abbrev pub decreases-steps : goal.decreases-steps
decreases-steps l = length l.self-inside.steps.items
