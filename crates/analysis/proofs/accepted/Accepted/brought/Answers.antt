use Rattle.std.proofs.Common.{◌∙◌}
use Rattle.analysis.proofs.accepted.Accepted.brought.Goals as goal

pub returns : goal.returns
returns c = rw (← c.self.view_is) (c.deref.ensures.value ∙ c.self.invariant.brought)
