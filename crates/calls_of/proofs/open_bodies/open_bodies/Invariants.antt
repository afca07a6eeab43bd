use Rattle.std.proofs.Common.{◌≡◌, length, take}
use Rattle.calls_of.specs.OpenBodies.{AreOpenIn}
use Rattle.calls_of.proofs.open_bodies.open_bodies.Given as goal

abbrev pub invariant-loop-body : goal.invariant-loop-body
invariant-loop-body l = (length l.table.items ≡ l.numbers) × AreOpenIn l.table.items (take l.body-index l.functions)
