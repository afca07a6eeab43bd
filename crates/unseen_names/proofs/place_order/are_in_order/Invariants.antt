use Rattle.std.proofs.Common.{◌≡◌}
use Rattle.std.specs.List.{AllAdjacentBelow}
use Rattle.std.specs.declared.cmp.Ordering.TheVariants.{Less}
use Rattle.analysis.specs.Parts.{part_cmp}
use Rattle.unseen_names.proofs.place_order.are_in_order.Given as goal

abbrev pub invariant-loop-i : goal.invariant-loop-i
invariant-loop-i l = AllAdjacentBelow (λ part other. part_cmp l.a.value part other ≡ Less) l.parts l.i
