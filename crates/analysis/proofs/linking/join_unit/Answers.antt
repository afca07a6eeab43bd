use Rattle.analysis.proofs.JoinLemmas.{unit_joined}
use Rattle.analysis.proofs.linking.join_unit.Goals as goal

pub returns : goal.returns
returns c =
    unit_joined c.args.unit.now c.text-text.result.now c.bound.result.now c.links.result.now c.toks.result.now c.args.classes.now c.join_all.new.classes c.join_occurrences.new.classes c.join_occurrences.result
    c.text-text.ensures c.links.ensures c.bound.ensures c.toks.ensures c.in_ok-join_all.ensures c.join_occurrences.ensures
