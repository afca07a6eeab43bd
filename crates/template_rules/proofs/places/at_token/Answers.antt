use Rattle.offences.proofs.FirstLemmas.{then_none}
use Rattle.template_rules.proofs.places.at_token.Goals as goal

pub returns-in-Some : goal.returns-in-Some
returns-in-Some c = rw (← c.in-Some.ensures) c.first_with.ensures

pub returns-in-None : goal.returns-in-None
returns-in-None c = rw (← c.in-None.ensures) (then_none c.args.a.now.value.table c.args.first)
