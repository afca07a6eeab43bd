use Rattle.class_marks.proofs.ClassRoleLemmas.{class_given}
use Rattle.class_marks.proofs.all_roles.add_class.Goals as goal

pub returns-then-class-len : goal.returns-then-class-len
returns-then-class-len c =
    class_given c.args.all.now.items c.args.class c.index.result.now c.joined.result c.args.roles c.index.ensures c.joined.ensures
