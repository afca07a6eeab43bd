use Rattle.std.proofs.Common.{◌-◌, ◌<◌, ◌≤◌, length, get_or, drop}
use Rattle.eclass_map.specs.Places.{no_run, next_first}
use Rattle.eclass_map.proofs.places.run_of.Given as goal

abbrev pub invariant-loop-high : goal.invariant-loop-high
invariant-loop-high l = record {
  some : l.low < l.high;
  within : l.high ≤ length l.runs;
  begun : (get_or l.runs l.low no_run).first ≤ l.x;
  last : l.x < next_first (drop l.high l.runs) l.count;
}

abbrev pub decreases-loop-high : goal.decreases-loop-high
decreases-loop-high l = l.high - l.low
