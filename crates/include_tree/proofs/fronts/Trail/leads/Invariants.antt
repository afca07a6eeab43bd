use Rattle.std.proofs.Common.{drop}
use Rattle.include_tree.specs.Fronts.{AreLinesOf}
use Rattle.include_tree.proofs.fronts.Trail.leads.Given as goal

abbrev pub invariant-loop-k : goal.invariant-loop-k
invariant-loop-k l = AreLinesOf (drop l.k l.self.lines.items) (drop l.k l.leads) → AreLinesOf l.self.lines.items l.leads
