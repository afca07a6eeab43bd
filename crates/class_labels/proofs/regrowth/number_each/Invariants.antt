use Rattle.std.proofs.Common.{◌≡◌, ◌+◌, length}
use Rattle.class_labels.specs.Regrown.{place}
use Rattle.class_labels.proofs.PlaceFacts.{AreTo}
use Rattle.class_labels.proofs.regrowth.number_each.Given as goal

abbrev pub invariant-loop-index : goal.invariant-loop-index
invariant-loop-index l = record {
  long : length l.numbers ≡ length l.spots + 1;
  each : AreTo l.class l.len l.spots l.index l.numbers;
  at : l.at ≡ place l.class l.len l.spots l.index;
}
