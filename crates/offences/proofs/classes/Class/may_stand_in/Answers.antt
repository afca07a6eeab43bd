use Rattle.offences.proofs.FileLemmas.{free_file}
use Rattle.offences.proofs.classes.Class.may_stand_in.Goals as goal

pub returns : goal.returns
returns c = λ none. rw (← c.self.view_is) (free_file c.self.inside.members.now c.self.inside.files c.args.file c.self.invariant.held none)
