use Rattle.std.proofs.Common.{arith}
use Rattle.unused_names.proofs.spans.any_reaches_out.Goals as goal

pub returns : goal.returns
returns c = λ k begun below within. c.loop-k.invariant k begun (omega (arith, c.min-k-end.ensures, below, within))
