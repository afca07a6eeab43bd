use Rattle.std.proofs.Common.{List}
use Rattle.cs_base.specs.declared.positions.Part.{Part}
use Rattle.offences.specs.Moves.{ArePlaces, ArePuts}
use Rattle.offences.proofs.moves.places.Given as goal

abbrev pub invariant-loop-at : goal.invariant-loop-at
invariant-loop-at l = (members : List Part) → ArePuts members l.number l.puts.items → ArePlaces members l.name l.number l.file.bytes l.at l.places.items l.end
