use Rattle.std.proofs.Common.{◌<◌}
use Rattle.template_rules.specs.Asking.{Reaching}
use Rattle.template_rules.proofs.item_units.last_unit.Given as goal

abbrev pub invariant-loop-at : goal.invariant-loop-at
invariant-loop-at l = Reaching l.units l.item (λ k. k < l.at → k < l.to)
