use Rattle.std.proofs.Common.{◌≡◌, None, take}
use Rattle.template_rules.specs.Lists.{parameters_at}
use Rattle.template_rules.proofs.unit_parameters.by_each.Given as goal

abbrev pub invariant-loop-list : goal.invariant-loop-list
invariant-loop-list l = parameters_at (take l.list-index l.lists) l.k ≡ None
