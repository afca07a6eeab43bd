use Rattle.std.proofs.Common.{◌≡◌, None, take}
use Rattle.macro_rules.specs.Counting.{soonest}
use Rattle.macro_rules.proofs.heads.count_in.Given as goal

abbrev pub invariant-loop-head : goal.invariant-loop-head
invariant-loop-head l = l.best ≡ soonest l.a.value.table None (take l.head-index l.heads)
