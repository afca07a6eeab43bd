use Rattle.std.proofs.Common.{◌<◌, All, take}
use Rattle.calls_of.proofs.open_bodies.numbers_of.Given as goal

abbrev pub invariant-loop-body : goal.invariant-loop-body
invariant-loop-body l = All (λ r. r.to < l.numbers) (take l.body-index l.functions)
