use Rattle.trim_plan.proofs.comparing.asks_no_more.Goals as goal

pub returns : goal.returns
returns c = λ passed k path at. c.in_ok-absent.ensures path (c.knows_all.ensures passed k path at)
