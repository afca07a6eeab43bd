use Rattle.std.proofs.Common.{◌<◌}
use Rattle.std.specs.Prelude.{◌≤◌}
use Rattle.std.specs.List.{AllAdjacentBelow}
use Rattle.c_types.specs.declared.lists.List.{List as NameList}
use Rattle.template_rules.proofs.callees.calls_rise.Given as goal

abbrev pub invariant-loop-k : goal.invariant-loop-k
invariant-loop-k l = AllAdjacentBelow (λ (x y : NameList). x.name ≤ y.name) l.calls l.k
