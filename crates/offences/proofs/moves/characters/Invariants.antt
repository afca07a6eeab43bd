use Rattle.std.proofs.Common.{◌-◌, ◌≤◌, length}
use Rattle.offences.specs.Moves.{text_in}
use Rattle.offences.proofs.moves.characters.Given as goal

abbrev pub invariant-halves : goal.invariant-halves
invariant-halves l = record { low : l.low ≤ length (text_in l.file.bytes); high : length (text_in l.file.bytes) ≤ l.high }

abbrev pub decreases-halves : goal.decreases-halves
decreases-halves l = l.high - l.low
