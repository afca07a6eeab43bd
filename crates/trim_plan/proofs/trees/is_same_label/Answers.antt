use Rattle.std.proofs.Common.{sym}
use Rattle.trim_plan.proofs.ProductionLemmas.{one_production}
use Rattle.trim_plan.proofs.trees.is_same_label.Goals as goal

pub returns-then-eq-clause-production : goal.returns-then-eq-clause-production
returns-then-eq-clause-production c = λ passed. one_production c.args.one.production c.args.other.production (sym c.if-eq.ensures)
