use Rattle.std.proofs.Common.{◌≡◌, ◌≤◌, ◌+◌, ◌*◌, drop}
use Rattle.cscout_run.specs.Answer.{places_in}
use Rattle.cscout_run.proofs.generating.places.Given as goal

abbrev pub invariant-loop-k : goal.invariant-loop-k
invariant-loop-k l = record {
  so_far : l.sum + places_in (drop l.k l.edits) ≡ places_in l.edits;
  few : l.sum ≤ 4294967296 * l.k;
}
