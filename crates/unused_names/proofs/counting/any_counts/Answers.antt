use Rattle.std.proofs.Common.{arith}
use Rattle.unused_names.proofs.counting.any_counts.Goals as goal

pub returns : goal.returns
returns c = λ i behind before. c.loop-i.invariant i behind (omega (arith, c.loop-i-test.false, before))
