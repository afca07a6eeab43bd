use Rattle.macro_body.proofs.LiveLemmas.{table-undefined}
use Rattle.macro_body.proofs.table.Macros.undef.Goals as goal

pub returns : goal.returns
returns c =
    rw (← c.self.view_is) (table-undefined (λ k. k.items) c.args.name.now c.self.inside.live.entries c.remove.new.self.entries c.remove.ensures.updates.3 c.remove.ensures.updates.1)
