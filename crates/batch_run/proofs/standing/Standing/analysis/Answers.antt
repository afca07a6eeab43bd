use Rattle.batch_run.proofs.StandingLemmas.{value_settled}
use Rattle.batch_run.proofs.standing.Standing.analysis.Goals as goal

pub returns : goal.returns
returns c = value_settled c.self.inside.analysis.value c.self.inside.ahead c.args.self.now c.self.view_is c.requires.settled
