use Rattle.std.proofs.Common.{◌≡◌, drop}
use Rattle.macro_body.specs.Substitution.{parts_cost, chain_cost}
use Rattle.macro_body.specs.Costs.{left_of, arguments}
use Rattle.macro_body.proofs.costs.left_behind_chain.Given as goal

abbrev pub invariant-loop-part : goal.invariant-loop-part
invariant-loop-part l =
    left_of l.fn.work (chain_cost l.name (arguments l.raw l.full) l.chain) ≡ left_of l.left (parts_cost l.name (arguments l.raw l.full) l.lone (drop l.part-index l.parts))
