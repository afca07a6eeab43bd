use Rattle.std.proofs.Common.{◌≡◌, ◌≤◌, ◌+◌, ◌-◌, length}
use Rattle.calls_of.specs.OpenBodies.{Opened}
use Rattle.calls_of.proofs.open_bodies.mark_all.Given as goal

abbrev pub invariant-loop-before : goal.invariant-loop-before
invariant-loop-before l =
    (length l.table.items ≡ length l.initial.table.items) × (l.before ≤ l.body.from + 1 + (l.body.to - l.body.from))
    × Opened l.body.name l.body.from l.before l.initial.table.items l.table.items
