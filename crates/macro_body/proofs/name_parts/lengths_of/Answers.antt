use Rattle.std.proofs.Common.{ap, length}
use Rattle.macro_body.proofs.NamePartLemmas.{lengths-more}
use Rattle.macro_body.proofs.name_parts.lengths_of.Goals as goal

pub loop-name-preserved : goal.loop-name-preserved
loop-name-preserved c =
    lengths-more c.loop-name.lengths.items c.push.new.self.items c.args.names.now c.loop-name.name-index c.name-item.result (length c.text.result.now) c.loop-name-test.true c.name-item.is
    (ap length c.text.ensures.answer) c.in_ok-push.ensures.items c.loop-name.invariant
