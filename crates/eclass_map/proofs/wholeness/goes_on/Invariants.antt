use Rattle.std.proofs.Common.{◌≡◌, ℕ, ◌+◌, ◌<◌, Some}
use Rattle.std.specs.Prelude.{slice_get}
use Rattle.eclass_map.specs.Positions.{along}
use Rattle.eclass_map.proofs.wholeness.goes_on.Given as goal

abbrev pub invariant-loop-offset : goal.invariant-loop-offset
invariant-loop-offset l = (o : ℕ) → o < l.offset → slice_get l.tok.origins (l.at + o) ≡ Some (Some (along l.part.start o))
