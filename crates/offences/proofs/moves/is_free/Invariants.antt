use Rattle.std.proofs.Common.{◌≡◌, ◌≢◌, ◌<◌, ℕ, Some}
use Rattle.std.specs.Prelude.{slice_get}
use Rattle.cs_base.specs.declared.positions.Part.{Part}
use Rattle.offences.proofs.moves.is_free.Given as goal

abbrev pub invariant-loop-part : goal.invariant-loop-part
invariant-loop-part l = (k : ℕ) (m : Part) → k < l.part-index → slice_get l.members k ≡ Some m → m.start.file ≢ l.number
