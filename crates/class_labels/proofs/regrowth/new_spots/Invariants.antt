use Rattle.std.proofs.Common.{◌≡◌, ◌≤◌, ◌++◌, length}
use Rattle.std.specs.Prelude.{vec_capacity}
use Rattle.std.specs.List.{flat_map}
use Rattle.class_labels.specs.Regrown.{piece}
use Rattle.class_labels.proofs.regrowth.new_spots.Given as goal

abbrev pub invariant-rest : goal.invariant-rest
invariant-rest l = record {
  rest : l.all.items ++ flat_map (piece l.class l.len) l.rest ≡ flat_map (piece l.class l.len) l.spots;
  room : l.count ≤ vec_capacity l.all;
}

abbrev pub decreases-rest : goal.decreases-rest
decreases-rest l = length l.rest
