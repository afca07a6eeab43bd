use Rattle.std.proofs.Common.{◌≡◌, ◌-◌}
use Rattle.trim_rules.specs.Held.{first_held_defining}
use Rattle.trim_rules.specs.Numbers.{first_from}
use Rattle.trim_rules.specs.Walks.{is_marked}
use Rattle.trim_rules.proofs.unit_reasons.first_marked.Given as goal

abbrev pub invariant-loop-k : goal.invariant-loop-k
invariant-loop-k l = first_held_defining l.marks l.from l.to ≡ first_from (is_marked l.marks) l.k (l.to - l.k)
