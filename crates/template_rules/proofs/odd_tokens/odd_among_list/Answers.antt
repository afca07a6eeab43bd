use Rattle.offences.proofs.FirstLemmas.{then_none}
use Rattle.template_rules.proofs.odd_tokens.odd_among_list.Goals as goal

pub returns-in-Some-origin_of : goal.returns-in-Some-origin_of
returns-in-Some-origin_of c = rw (← c.in-Some.ensures, ← c.in-Some-origin_of.ensures) c.odd_among.ensures

pub returns-in-None : goal.returns-in-None
returns-in-None c = rw (← c.in-None.ensures) (then_none c.args.a.now.value.table c.args.first)

pub returns-in-None-origin_of : goal.returns-in-None-origin_of
returns-in-None-origin_of c = rw (← c.in-Some.ensures, ← c.in-None-origin_of.ensures) (then_none c.args.a.now.value.table c.args.first)
