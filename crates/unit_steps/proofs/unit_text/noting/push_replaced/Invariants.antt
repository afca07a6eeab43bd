use Rattle.std.proofs.Common.{◌≡◌, ◌++◌, map}
use Rattle.unit_steps.specs.Keeping.{replaced_event}
use Rattle.unit_steps.proofs.unit_text.noting.push_replaced.Given as goal

abbrev pub invariant-loop-r : goal.invariant-loop-r
invariant-loop-r l = l.events.items ≡ l.initial.events.items ++ map (replaced_event l.run l.before) l.yielded
