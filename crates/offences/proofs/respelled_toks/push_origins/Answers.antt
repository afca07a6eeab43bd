use Rattle.offences.proofs.TokLemmas.{origins_pushed}
use Rattle.offences.proofs.respelled_toks.push_origins.Goals as goal

pub loop-k-preserved : goal.loop-k-preserved
loop-k-preserved c =
    origins_pushed c.args.from.file c.args.from.at c.loop-k.k c.args.origins.now.items c.loop-k.origins.items c.push.new.self.items c.loop-k.invariant c.in_ok-push.ensures.items
