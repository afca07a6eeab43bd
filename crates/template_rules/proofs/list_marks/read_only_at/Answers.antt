use Rattle.offences.proofs.FirstLemmas.{then_none}
use Rattle.template_rules.proofs.list_marks.read_only_at.Goals as goal

pub returns-in-None : goal.returns-in-None
returns-in-None c = rw (← c.in-None.ensures) (then_none c.args.a.now.value.table c.args.first)
