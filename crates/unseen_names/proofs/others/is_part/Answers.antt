use Rattle.unseen_names.proofs.ClassLemmas.{part_there}
use Rattle.unseen_names.proofs.others.is_part.Goals as goal

pub returns-in-Some : goal.returns-in-Some
returns-in-Some c = part_there c.args.a.now.value c.args.place c.in-Some.part c.is_same.result c.in-Some.ensures c.is_same.ensures
