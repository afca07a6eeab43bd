use Rattle.std.proofs.Common.{◌≡◌, ◌-◌, drop, length}
use Rattle.offences.specs.Moves.{ArePuts}
use Rattle.offences.proofs.puts.puts.Given as goal

abbrev pub invariant-loop-k : goal.invariant-loop-k
invariant-loop-k l = record {
  each : ArePuts (drop (length l.members - l.k) l.members) l.number l.puts.items;
  all : length l.puts.items ≡ l.size;
}
