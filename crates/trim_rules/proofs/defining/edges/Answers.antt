use Rattle.trim_rules.proofs.EdgeLemmas.{edges-begin}
use Rattle.trim_rules.proofs.defining.edges.Goals as goal

pub mark_all-requires : goal.mark_all-requires
mark_all-requires c =
    edges-begin c.args.tree.now.under c.args.count c.in_ok-marks.marks.items c.mark.new.marks.items c.in_ok-marks.ensures c.mark.ensures
