use Rattle.std.proofs.Common.{◌≡◌, map}
use Rattle.macro_body.specs.Bodies.{rest_or_chain}
use Rattle.macro_body.proofs.chains.with_rests.Given as goal

abbrev pub invariant-loop-chain : goal.invariant-loop-chain
invariant-loop-chain l = l.all.items ≡ map (rest_or_chain l.m) l.yielded
