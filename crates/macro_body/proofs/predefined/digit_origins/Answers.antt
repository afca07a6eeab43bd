use Rattle.macro_body.proofs.PredefinedLemmas.{digit_origins-push}
use Rattle.macro_body.proofs.predefined.digit_origins.Goals as goal

pub loop-k-preserved : goal.loop-k-preserved
loop-k-preserved c = digit_origins-push c.args.at c.loop-k.k c.loop-k.origins.items c.push.new.self.items c.loop-k.invariant c.in_ok-push.ensures.items
