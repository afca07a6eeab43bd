use Rattle.offences.proofs.classes.Class.members.Goals as goal

pub returns-clause-of_part : goal.returns-clause-of_part
returns-clause-of_part c = rw (← c.self.view_is) (c.self.invariant.class.part, c.self.invariant.class.listed)
