use Rattle.std.proofs.Common.{sym, ◌∙◌}
use Rattle.macro_rules.proofs.SetLemmas.{not_met}
use Rattle.macro_rules.proofs.positions.Positions.has.Goals as goal

pub returns-then-is_marked : goal.returns-then-is_marked
returns-then-is_marked c = rw (← c.self.view_is) (c.contains.ensures ∙ c.self.invariant.0 c.args.p)

pub returns-else-is_marked : goal.returns-else-is_marked
returns-else-is_marked c =
    rw (← c.self.view_is)
    (not_met c.self.inside.all.items c.args.p c.self.inside.slots c.self.invariant.1 (sym c.is_marked.ensures ∙ c.if-is_marked.false))
