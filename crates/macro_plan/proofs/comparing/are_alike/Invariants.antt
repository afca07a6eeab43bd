use Rattle.std.proofs.Common.{◌≡◌, take}
use Rattle.macro_plan.specs.Kept.{plains}
use Rattle.macro_plan.proofs.comparing.are_alike.Given as goal

abbrev pub invariant-loop-k : goal.invariant-loop-k
invariant-loop-k l = plains (take l.k l.toks) ≡ plains (take l.k l.others)
