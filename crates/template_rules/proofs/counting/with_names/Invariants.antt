use Rattle.std.proofs.Common.{◌≡◌, take}
use Rattle.std.specs.List.{flat_map}
use Rattle.template_rules.specs.Lists.{declarator_of, soonest}
use Rattle.template_rules.proofs.counting.with_names.Given as goal

abbrev pub invariant-loop-name : goal.invariant-loop-name
invariant-loop-name l =
    l.now ≡ soonest l.a.value.table l.initial.now (flat_map (declarator_of l.unit.class.members l.unit.text.now.toks l.unit.bound.now.names l.unit.lists) (take l.name-index l.names))
