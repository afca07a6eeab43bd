use Rattle.class_marks.proofs.read_only.has_read_only.Goals as goal

pub returns : goal.returns
returns c = c.any_read_only.ensures c.args.part c.members.ensures
