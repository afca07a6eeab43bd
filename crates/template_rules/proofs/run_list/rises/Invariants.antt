use Rattle.std.proofs.Common.{◌<◌}
use Rattle.std.specs.Prelude.{◌≤◌}
use Rattle.std.specs.List.{AllAdjacentBelow}
use Rattle.analysis.specs.Below.unit_steps.declared.events.Reached.{Reached}
use Rattle.template_rules.proofs.run_list.rises.Given as goal

abbrev pub invariant-loop-k : goal.invariant-loop-k
invariant-loop-k l = AllAdjacentBelow (λ (x y : Reached). x.before ≤ y.before) l.reached l.k
