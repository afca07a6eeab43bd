use Rattle.std.proofs.Common.{is_some, sym, ap}
use Rattle.offences.proofs.ClassLemmas.{over_none, over_other, over_member, part_apart}
use Rattle.offences.proofs.classes.lies_in_member.Goals as goal

pub returns-then-has_number-clause-answer : goal.returns-then-has_number-clause-answer
returns-then-has_number-clause-answer c =
    rw (← c.class.view_is)
    (sym (ap is_some (over_member c.class.inside.a.now c.classes-classes.ensures.own c.class.inside.members.now c.class.inside.number c.class.invariant.class c.args.pos c.in-Some.part
    c.in-Some.ensures.0 c.in-Some.ensures.1 (rw c.classes-classes.ensures.answer at c.if-has_number.ensures))))

pub returns-else-has_number-clause-answer : goal.returns-else-has_number-clause-answer
returns-else-has_number-clause-answer c =
    rw (← c.class.view_is)
    (sym (ap is_some (over_other c.class.inside.a.now c.classes-classes.ensures.own c.class.inside.members.now c.class.inside.number c.class.invariant.class c.args.pos c.in-Some.part
    c.in-Some.ensures.0 c.in-Some.ensures.1 (rw c.classes-classes.ensures.answer at c.if-has_number.ensures))))

pub returns-else-has_number-clause-apart : goal.returns-else-has_number-clause-apart
returns-else-has_number-clause-apart c =
    rw (← c.class.view_is)
    (part_apart c.class.inside.a.now c.classes-classes.ensures.own c.class.inside.members.now c.class.inside.number c.class.invariant.class c.in-Some.part c.in-Some.ensures.0
    (rw c.classes-classes.ensures.answer at c.if-has_number.ensures))

pub returns-in-None-clause-answer : goal.returns-in-None-clause-answer
returns-in-None-clause-answer c =
    rw (← c.class.view_is)
    (sym (ap is_some (over_none c.class.inside.a.now c.classes-classes.ensures.own c.class.inside.members.now c.class.inside.number c.class.invariant.class c.args.pos c.in-None.ensures)))
