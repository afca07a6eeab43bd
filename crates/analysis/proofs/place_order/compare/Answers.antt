use Rattle.std.proofs.Common.{sym, ◌∙◌}
use Rattle.analysis.proofs.ListingLemmas.{in_one_file}
use Rattle.analysis.proofs.place_order.compare.Goals as goal

pub returns-then-p-q : goal.returns-then-p-q
returns-then-p-q c = c.cmp.ensures ∙ sym (in_one_file c.args.a.now.table c.args.p c.args.q c.if-p-q.true)
