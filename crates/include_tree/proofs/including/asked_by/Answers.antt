use Rattle.source_files.proofs.CandidateLemmas.{list_all-candidates}
use Rattle.include_tree.proofs.including.asked_by.Goals as goal

pub returns-clause-can : goal.returns-clause-can
returns-clause-can c =
    rw c.in_ok-candidates_of.ensures (list_all-candidates c.args.next c.args.header.now c.args.behind c.source_of-source.result.path.now c.args.unit.now)
