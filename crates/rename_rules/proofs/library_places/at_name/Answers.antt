use Rattle.std.proofs.Common.{sym}
use Rattle.offences.proofs.FirstLemmas.{then_none}
use Rattle.rename_rules.proofs.library_places.at_name.Goals as goal

pub returns-then-is_linked : goal.returns-then-is_linked
returns-then-is_linked c = rw (sym c.if-is_linked.ensures) c.at_index.ensures

pub returns-else-is_linked : goal.returns-else-is_linked
returns-else-is_linked c = rw (sym c.if-is_linked.ensures) (then_none c.args.a.now.value.table c.args.first)
