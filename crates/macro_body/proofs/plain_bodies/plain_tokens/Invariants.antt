use Rattle.std.proofs.Common.{◌≡◌, take}
use Rattle.std.specs.List.{flat_map}
use Rattle.macro_body.specs.PlainBodies.{plain_for}
use Rattle.macro_body.proofs.plain_bodies.plain_tokens.Given as goal

abbrev pub invariant-loop-chain : goal.invariant-loop-chain
invariant-loop-chain l = l.all.items ≡ flat_map (plain_for l.name l.full) (take l.chain-index l.chains)
