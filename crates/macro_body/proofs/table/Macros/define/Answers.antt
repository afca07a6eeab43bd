use Rattle.std.proofs.Common.{◌∙◌}
use Rattle.macro_body.proofs.LiveLemmas.{table-defined}
use Rattle.macro_body.proofs.table.Macros.define.Goals as goal

pub returns-clause-answer : goal.returns-clause-answer
returns-clause-answer c =
    rw (← c.self.view_is)
    (table-defined (λ k. k.items) c.args.definition c.in_ok-name.name.items c.self.inside.live.entries c.insert.new.self.entries (c.in_ok-name.ensures.items ∙ c.text.ensures.answer) c.in_ok-insert.ensures.updates.3 c.in_ok-insert.ensures.updates.1)
