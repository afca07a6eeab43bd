use Rattle.std.proofs.Common.{◌≡◌}
use Rattle.c99_read.specs.Again.{again_at}
use Rattle.c99_read.proofs.reader.Reader.again.Given as goal

abbrev pub invariant-names : goal.invariant-names
invariant-names l = (l.self.dialect ≡ l.dialect) × (l.self.state ≡ again_at l.fn.self.state l.k)
