use Rattle.unseen_names.proofs.GroupLemmas.{told_unstated}
use Rattle.unseen_names.proofs.idle.is_unstated.Goals as goal

pub returns : goal.returns
returns c =
    told_unstated c.args.a.now.value c.args.place c.members.result.now c.args.marks.now c.any_marked.result c.members.ensures c.requires.marks
    c.any_marked.ensures
