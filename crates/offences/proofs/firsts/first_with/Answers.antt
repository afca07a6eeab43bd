use Rattle.offences.specs.First.{offence}
use Rattle.offences.proofs.FirstLemmas.{first_one, first_now, first_still}
use Rattle.offences.proofs.firsts.first_with.Goals as goal

pub returns-in-None : goal.returns-in-None
returns-in-None c = record { goes_on = λ os is. first_one c.args.a.now.value.table os (offence c.args.cause c.args.at) (rw c.in-None.is at is) }

pub returns-then-comes_before : goal.returns-then-comes_before
returns-then-comes_before c = record {
  goes_on = λ os is. first_now c.args.a.now.value.table os (offence c.args.cause c.args.at) c.in-Some.other (rw c.in-Some.is at is) c.if-comes_before.ensures;
}

pub returns-else-comes_before : goal.returns-else-comes_before
returns-else-comes_before c = record {
  goes_on = λ os is. first_still c.args.a.now.value.table os (offence c.args.cause c.args.at) c.in-Some.other (rw c.in-Some.is at is) c.if-comes_before.ensures;
}
