use Rattle.std.proofs.Common.{◌≡◌, drop}
use Rattle.macro_body.specs.Substitution.{chains_cost, cost_of}
use Rattle.macro_body.specs.Costs.{left_of, arguments}
use Rattle.macro_body.proofs.costs.work_left.Given as goal

abbrev pub invariant-loop-chain : goal.invariant-loop-chain
invariant-loop-chain l =
    left_of l.fn.work (cost_of l.name (arguments l.raw l.full) l.chains) ≡ left_of l.left (chains_cost l.name (arguments l.raw l.full) (drop l.chain-index l.chains))
