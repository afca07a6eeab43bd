use Rattle.std.proofs.Common.{◌≡◌, None, take}
use Rattle.std.specs.List.{flat_map}
use Rattle.template_rules.specs.Lists.{soonest}
use Rattle.template_rules.proofs.UnitLemmas.{declarators_of}
use Rattle.template_rules.proofs.counting.first_declarator.Given as goal

abbrev pub invariant-loop-unit : goal.invariant-loop-unit
invariant-loop-unit l = l.best ≡ soonest l.a.value.table None (flat_map declarators_of (take l.unit-index l.units))
