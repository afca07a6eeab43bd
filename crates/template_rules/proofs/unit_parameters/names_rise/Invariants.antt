use Rattle.std.proofs.Common.{◌<◌}
use Rattle.std.specs.Prelude.{◌≤◌}
use Rattle.std.specs.List.{AllAdjacentBelow}
use Rattle.c_types.specs.declared.parameters.ParameterList.{ParameterList}
use Rattle.template_rules.proofs.unit_parameters.names_rise.Given as goal

abbrev pub invariant-loop-k : goal.invariant-loop-k
invariant-loop-k l = AllAdjacentBelow (λ (x y : ParameterList). x.name ≤ y.name) l.lists l.k
