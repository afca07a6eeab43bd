use Rattle.std.proofs.Common.{◌∙◌}
use Rattle.std.specs.Str.{bytes_eq}
use Rattle.macro_body.proofs.LiveLemmas.{lookup-spelled}
use Rattle.macro_body.proofs.table.Macros.find.Goals as goal

pub returns : goal.returns
returns c = rw (← c.self.view_is) (c.get.ensures.value ∙ lookup-spelled (λ k. k.items) (bytes_eq c.args.name.now) c.self.inside.live.entries)
