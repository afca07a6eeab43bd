use Rattle.macro_expand.proofs.FrameLemmas.{pushed}
use Rattle.macro_expand.proofs.rest.push_frame.Goals as goal

pub returns-in_ok-push-clause-answer : goal.returns-in_ok-push-clause-answer
returns-in_ok-push-clause-answer c = λ low. pushed c.args.below.now.items c.push.new.self.items _ low c.in_ok-push.ensures.items
