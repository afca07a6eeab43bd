use Rattle.std.proofs.Common.{◌≡◌, ◌≤◌, length}
use Rattle.offences.specs.Moves.{MarksTo}
use Rattle.offences.proofs.puts.mark.Given as goal

abbrev pub invariant-loop-o : goal.invariant-loop-o
invariant-loop-o l = record {
  marked : MarksTo l.member l.o l.initial.puts.items l.puts.items;
  end : l.o ≤ l.member.len;
  all : length l.puts.items ≡ length l.initial.puts.items;
}
