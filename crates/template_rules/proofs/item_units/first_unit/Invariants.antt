use Rattle.template_rules.specs.Asking.{NoneBefore}
use Rattle.template_rules.proofs.item_units.first_unit.Given as goal

abbrev pub invariant-loop-at : goal.invariant-loop-at
invariant-loop-at l = NoneBefore l.units l.item l.at
