use Rattle.std.proofs.Common.{◌∙◌, refl}
use Rattle.c99_read.proofs.StateLemmas.{opened-parts}
use Rattle.c99_read.proofs.reader.Reader.open.Goals as goal

pub returns-clause-answer : goal.returns-clause-answer
returns-clause-answer c =
    rw (← c.self.view_is) (
      opened-parts c.args.production c.args.alternative _ _ _ c.in_ok-open_names.ensures.ok (c.replace.ensures.after ∙ c.new-node.ensures),
      record { built = c.replace.ensures.value; near = refl },
    )
