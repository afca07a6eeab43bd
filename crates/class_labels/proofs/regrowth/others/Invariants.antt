use Rattle.std.proofs.Common.{◌≡◌, ◌-◌, ◌≤◌, length, take}
use Rattle.std.specs.List.{flat_map}
use Rattle.class_labels.specs.Regrown.{piece}
use Rattle.class_labels.proofs.regrowth.others.Given as goal

abbrev pub invariant-stay : goal.invariant-stay
invariant-stay l = record {
  within : l.count ≤ length l.spots;
  stay : flat_map (piece l.class l.len) (take l.count l.spots) ≡ take l.count l.spots;
}

abbrev pub decreases-stay : goal.decreases-stay
decreases-stay l = length l.spots - l.count
