use Rattle.std.proofs.Common.{drop}
use Rattle.offences.specs.Still.{AreStill}
use Rattle.offences.proofs.still_toks.is_each_still.Given as goal

abbrev pub invariant-loop-k : goal.invariant-loop-k
invariant-loop-k l = AreStill l.moves (drop l.k l.tok.origins) (drop l.k l.tok.text) → AreStill l.moves l.tok.origins l.tok.text
