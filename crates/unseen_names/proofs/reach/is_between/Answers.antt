use Rattle.unseen_names.proofs.ReachLemmas.{told_between}
use Rattle.unseen_names.proofs.reach.is_between.Goals as goal

pub returns : goal.returns
returns c =
    told_between c.args.a.now.value c.args.part c.members.result.now c.members.ensures c.args.p c.are_around.result c.are_around.ensures
