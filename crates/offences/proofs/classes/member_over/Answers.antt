use Rattle.std.proofs.Common.{sym}
use Rattle.offences.proofs.ClassLemmas.{over_none, over_other, over_member}
use Rattle.offences.proofs.classes.member_over.Goals as goal

pub returns-in-None : goal.returns-in-None
returns-in-None c =
    rw (← c.class.view_is)
    (sym (over_none c.class.inside.a.now c.classes-classes.ensures.own c.class.inside.members.now c.class.inside.number c.class.invariant.class c.args.pos c.in-None.ensures))

pub returns-then-has_number : goal.returns-then-has_number
returns-then-has_number c =
    rw (← c.class.view_is)
    (sym (over_member c.class.inside.a.now c.classes-classes.ensures.own c.class.inside.members.now c.class.inside.number c.class.invariant.class c.args.pos c.in-Some.part c.in-Some.ensures.0 c.in-Some.ensures.1
    (rw c.classes-classes.ensures.answer at c.if-has_number.ensures)))

pub returns-else-has_number : goal.returns-else-has_number
returns-else-has_number c =
    rw (← c.class.view_is)
    (sym (over_other c.class.inside.a.now c.classes-classes.ensures.own c.class.inside.members.now c.class.inside.number c.class.invariant.class c.args.pos c.in-Some.part c.in-Some.ensures.0 c.in-Some.ensures.1
    (rw c.classes-classes.ensures.answer at c.if-has_number.ensures)))
