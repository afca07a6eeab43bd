use Rattle.unseen_names.proofs.ClassLemmas.{member_told}
use Rattle.unseen_names.proofs.others.is_member.Goals as goal

pub returns : goal.returns
returns c =
    let a = c.args.a.now in
    member_told a.value a.classes c.class_of.ensures.own c.args.part c.args.other c.class_of.result c.class_of-2.result
    c.class_of.ensures.answer c.class_of-2.ensures.answer c.requires.part c.requires.other
