use Rattle.std.proofs.Common.{take}
use Rattle.std.specs.List.{flat_map}
use Rattle.offences.specs.First.{standing, FirstThen}
use Rattle.template_rules.specs.GnuOffences.{told_place}
use Rattle.template_rules.proofs.gnu_units.at_each.Given as goal

abbrev pub invariant-loop-told : goal.invariant-loop-told
invariant-loop-told l =
    FirstThen l.a.value.table (standing l.cause (flat_map (told_place l.unit.class.members l.unit.text.now.toks l.unit.bound.now.names) (take l.told-index l.all))) l.initial.now l.now
