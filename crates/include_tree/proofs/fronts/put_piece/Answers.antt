use Rattle.include_tree.proofs.MainLemmas.{put-done}
use Rattle.include_tree.proofs.fronts.put_piece.Goals as goal

pub returns-clause-put : goal.returns-clause-put
returns-clause-put c =
    put-done c.args.main c.args.k c.args.lead c.args.piece.now c.args.p.now c.reach.new.self c.enter.new.self c.leave.new.self c.push_text.new.self
    c.in_ok-reach.ensures.noted c.in_ok-enter.ensures.noted c.in_ok-push_text.ensures c.in_ok-leave.ensures.noted
