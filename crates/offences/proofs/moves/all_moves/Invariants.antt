use Rattle.offences.specs.Moves.{AreMovesTo}
use Rattle.offences.proofs.moves.all_moves.Given as goal

abbrev pub invariant-loop-number : goal.invariant-loop-number
invariant-loop-number l = AreMovesTo l.a.value.table l.members l.name l.number l.files.items
