use Rattle.std.proofs.Common.{◌≡◌}
use Rattle.trim_plan.specs.Left.{place}
use Rattle.trim_plan.specs.Places.{mark_at}
use Rattle.trim_plan.proofs.PlaceLemmas.{ArePlacesSoFar}
use Rattle.trim_plan.proofs.left.places_of.Given as goal

abbrev pub invariant-loop-k : goal.invariant-loop-k
invariant-loop-k l = ArePlacesSoFar (mark_at l.gone) l.k l.places.items × (l.place ≡ place (mark_at l.gone) l.k)
