use Rattle.std.proofs.Common.{◌≡◌, take}
use Rattle.template_rules.proofs.covers.in_order.Given as goal

abbrev pub invariant-loop-list : goal.invariant-loop-list
invariant-loop-list l = l.out.items ≡ take l.list-index l.lists
