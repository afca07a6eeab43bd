use Rattle.std.proofs.Common.{◌≡◌, take}
use Rattle.template_rules.proofs.unit_functions.by_place.Given as goal

abbrev pub invariant-loop-list : goal.invariant-loop-list
invariant-loop-list l = l.out.items ≡ take l.list-index l.lists
