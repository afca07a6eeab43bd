use Rattle.std.proofs.Common.{sym, ◌∙◌}
use Rattle.calls_of.proofs.NodeLemmas.{in_one_file}
use Rattle.calls_of.proofs.ordering.compare_positions.Goals as goal

pub returns-then-p-q : goal.returns-then-p-q
returns-then-p-q c = c.cmp.ensures ∙ sym (in_one_file c.args.a.now.value.table c.args.p c.args.q c.if-p-q.true)
