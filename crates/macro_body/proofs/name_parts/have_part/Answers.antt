use Rattle.macro_body.proofs.NamePartLemmas.{lacking-part}
use Rattle.macro_body.proofs.name_parts.have_part.Goals as goal

pub returns-then-is_alike : goal.returns-then-is_alike
returns-then-is_alike c =
    lacking-part c.args.parts.now c.loop-part.part-index c.part-item.result c.args.other.now c.loop-part-test.true c.part-item.is c.if-is_alike.ensures
