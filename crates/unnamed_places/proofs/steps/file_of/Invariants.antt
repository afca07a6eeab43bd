use Rattle.std.proofs.Common.{◌≡◌, ℕ, ◌<◌, false}
use Rattle.unnamed_places.specs.Unnamed.{has_path_at}
use Rattle.unnamed_places.proofs.steps.file_of.Given as goal

abbrev pub invariant-loop-number : goal.invariant-loop-number
invariant-loop-number l = (k : ℕ) → k < l.number → has_path_at l.a.value l.path k ≡ false
