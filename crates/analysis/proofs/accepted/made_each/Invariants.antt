use Rattle.std.proofs.Common.{◌≡◌, take}
use Rattle.include_tree.specs.Fronts.{AreFronts}
use Rattle.analysis.specs.MadeAgain.{units_again}
use Rattle.analysis.proofs.accepted.made_each.Given as goal

abbrev pub invariant-loop-i : goal.invariant-loop-i
invariant-loop-i l = record {
  made : l.all.items ≡ take l.i (units_again l.cache.table l.units);
  shared : AreFronts l.cache.table l.shared.all.items;
}
