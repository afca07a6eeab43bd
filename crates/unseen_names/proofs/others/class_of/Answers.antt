use Rattle.unseen_names.proofs.ClassLemmas.{has_class}
use Rattle.unseen_names.proofs.others.class_of.Goals as goal

pub unreachable-requires : goal.unreachable-requires
unreachable-requires c =
    has_class c.args.a.now.value c.args.a.now.classes c.classes.ensures.own c.args.part c.requires
    (rw c.classes.ensures.answer at c.in-None.ensures.answer)
