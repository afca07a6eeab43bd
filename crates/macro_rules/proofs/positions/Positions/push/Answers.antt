use Rattle.std.proofs.Common.{◌≡◌, ◌∷◌, ◌++◌, []}
use Rattle.macro_rules.specs.Positions.{has_position}
use Rattle.macro_rules.proofs.SetLemmas.{set_push, met_push}
use Rattle.macro_rules.proofs.positions.Positions.push.Goals as goal

more : (c : goal.After-unwrap) → c.push.new.self.items ≡ c.self.inside.all.items ++ c.args.p ∷ []
more c = rw c.in_ok-reserve.ensures.items at (rw c.unwrap.ensures at c.push.ensures.items)

pub invariant_of-self-2 : goal.invariant_of-self-2
invariant_of-self-2 c = (
  rw (more c)
      (set_push c.self.inside.all.items c.args.p (has_position c.self.inside.set) (has_position c.insert.new.self) c.self.invariant.0
      (λ q. c.in_ok-insert.ensures.updates.0 (q.file, q.at))),
  rw (more c, c.mark.ensures) (met_push c.self.inside.all.items c.args.p c.self.inside.slots c.self.invariant.1),
)

pub returns : goal.returns
returns c = rw (← c.self.view_is) (more c)
