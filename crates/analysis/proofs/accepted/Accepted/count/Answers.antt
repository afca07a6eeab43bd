use Rattle.std.proofs.Common.{◌≡◌, ◌≤◌, sym, subst, arith}
use Rattle.cs_base.specs.Limits.{most_units}
use Rattle.analysis.proofs.TakenLemmas.{all_count}
use Rattle.analysis.proofs.accepted.Accepted.count.Goals as goal

pub returns-clause-answer : goal.returns-clause-answer
returns-clause-answer c =
    rw (← c.self.view_is)
    (omega (arith, all_count c.self.inside.cache.table c.self.inside.workspace.units c.self.inside.kept.items c.self.inside.others c.self.inside.begins.items c.self.inside.brought.items c.self.invariant))

pub returns-clause-few : goal.returns-clause-few
returns-clause-few c =
    rw (← c.self.view_is)
    (omega (arith, c.self.invariant.few, all_count c.self.inside.cache.table c.self.inside.workspace.units c.self.inside.kept.items c.self.inside.others c.self.inside.begins.items c.self.inside.brought.items c.self.invariant))
